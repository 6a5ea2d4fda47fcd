-- Exact doubles, as document 01 needs them ("Preview and drawing": every sum and halving in doubles is exact, zero is positive zero).
-- A double is the library's account of IEEE 754 binary64, where `fin s m e` is m · 2^e with the sign s and 2^e is the fraction up e / down e.
-- Definitions only; that nothing is lost at our sizes is proved in proofs/Exact.antt.
use Rattle.std.specs.Prelude.{◌≡◌, Bool, true, false, ◌&&◌, ℕ, suc, ◌*◌, ◌^◌, eqb, ℤ, pos, negsuc, neg_ℤ, ◌*ℤ◌, Float}
use Rattle.std.specs.Float.{nan, inf, fin, binary64}
use Rattle.std.specs.Float.Ieee.{up, down, round}

-- The whole number of the magnitude n that is negative where s is true, as a double has its sign.
abbrev pub signed : Bool → ℕ → ℤ
signed false n = pos n
signed true n = neg_ℤ (pos n)

-- The double of z / 2^k: the fraction rounded once, as IEEE 754 rounds the result of an operation. Zero is +0.
unfoldable pub dyadic : ℤ → ℕ → Float
unfolding round
dyadic (pos n) k = round binary64 false n (2 ^ k)
dyadic (negsuc n) k = round binary64 true (suc n) (2 ^ k)

-- The double x is finite and its IEEE 754 value is exactly z / d, both fractions multiplied out.
unfoldable pub Value : Float → ℤ → ℕ → Type 0
Value nan z d = ⊥
Value (inf s) z d = ⊥
Value (fin s m e) z d = signed s (m * up e) *ℤ pos d ≡ z *ℤ pos (down e)

-- The double x is -0, which document 01 keeps out: zero is written as positive zero.
unfoldable pub minus_zero : Float → Bool
minus_zero nan = false
minus_zero (inf s) = false
minus_zero (fin s m e) = s && eqb m 0
