-- Mirrored doubles: a drawing number with its sign turned means the opposite micrometres, and an exact fraction negated has the opposite double. The sign goes through
-- the rounding of doubles untouched, and zero stays +0.
use Rattle.std.specs.Prelude.{Err, Ok}
use mathlib.Core.Path.{◌≡◌, refl, sym, ap, ◌∙◌}
use mathlib.Core.Bool.{Bool, true, false, not, cond}
use Prim.Native.Nat.{ℕ, zero, suc, ◌+◌, ◌*◌, ◌-◌, ◌/◌, ◌%◌, ◌^◌, ◌<◌, compare}
use native.Mathlib.Nat.{mul-pos, lt_irrefl, lt_of_lt_of_le, le_of_eq, zero-mul, zero-lt-suc}
use native.Mathlib.Omega.{arith}
use borrow.Author.Tests.{ne_eqb}
use lib.Dec.{leb, ltb}
use lib.Pow.{pow_pos}
use lib.IntN.{ℤ, pos, negsuc, neg_ℤ, nat_abs, neg_ℤ-neg_ℤ}
use lib.Ieee.{Float, nan, inf, fin, Format, binary64, prec, emax, low, up, down, size, nearest, odd, units, round, neg}
use lib.Ieee.Fits.{up_pos, down_pos}
use Rattle.whole.specs.Nearest as whole
use Rattle.whole.proofs.Fit.{nat_abs-neg, nat_abs_mul}
use Rattle.whole.proofs.Nearest.{nearest-minus}
use Rattle.curve.specs.Limits.{limit}
use Rattle.doubles.specs.Exact.{signed, dyadic, Value}
use Rattle.doubles.specs.Number.{thousand, within, measure}
use Rattle.doubles.proofs.Rounding.{size-signed}
use Rattle.mirror.specs.Steps.{minus_measure, opposite}
use Rattle.doubles.specs.declared.Unmeasured.TheVariants.{Outside}

-- ---- a drawing number

-- a magnitude with its sign turned
minus-signed : (s : Bool) (n : ℕ) → signed (not s) n ≡ neg_ℤ (signed s n)
minus-signed false n = refl
minus-signed true n = sym (neg_ℤ-neg_ℤ (pos n))

minus-choice : (b : Bool) (n : ℤ) → cond b (Ok (neg_ℤ n)) (Err Outside) ≡ minus_measure (cond b (Ok n) (Err Outside))
minus-choice true n = refl
minus-choice false n = refl

-- limits are the same either way
minus-within : (n : ℤ) → within (neg_ℤ n) ≡ minus_measure (within n)
unfolding within
minus-within n = ap (λ m. cond (leb m limit) (Ok (neg_ℤ n)) (Err Outside)) (nat_abs-neg n) ∙ minus-choice (leb (nat_abs n) limit) n

pub minus-measure : (x : Float) → measure (neg x) ≡ minus_measure (measure x)
unfolding measure neg
minus-measure nan = refl
minus-measure (inf s) = refl
minus-measure (fin s m e) =
    let z = signed s (m * up e * thousand) in
    ap (λ y. within (whole.nearest y (down e))) (minus-signed s (m * up e * thousand)) ∙ ap within (nearest-minus z (down e)) ∙ minus-within (whole.nearest z (down e))

-- ---- an exact double

-- the sign goes through the rounding untouched
odd-neg : (d : ℕ) (s : Bool) (q k l : ℕ) → odd d (not s) q k l ≡ neg (odd d s q k l)
unfolding odd neg
odd-neg d s zero k l = refl
odd-neg d s (suc q) k l = refl

units-neg : (f : Format) (s : Bool) (q k : ℕ) → units f (not s) q k ≡ neg (units f s q k)
unfolding units neg
units-neg f s q k = go (ltb (q * 2 ^ k) (2 ^ (low f + suc (emax f))))
  where
    go : (b : Bool) → cond b (odd (suc (prec f)) (not s) q k (low f)) (inf (not s)) ≡ neg (cond b (odd (suc (prec f)) s q k (low f)) (inf s))
    go true = odd-neg (suc (prec f)) s q k (low f)
    go false = refl

round-neg : (f : Format) (s : Bool) (n d : ℕ) → round f (not s) n d ≡ neg (round f s n d)
unfolding round
round-neg f s n d =
    let m = n * 2 ^ low f in
    let k = size (m / d) - prec f in
    let u = d * 2 ^ k in
    units-neg f s (nearest (m / u) (compare (m % u * 2) u)) k

-- the size of an exact value, both fractions multiplied out
value-size : (s : Bool) (m : ℕ) (e z : ℤ) (d : ℕ) → Value (fin s m e) z d → m * up e * d ≡ nat_abs z * down e
unfolding Value
value-size s m e z d v =
    ap (λ (n : ℕ). n * d) (sym (size-signed s (m * up e))) ∙ sym (nat_abs_mul (signed s (m * up e)) (pos d)) ∙ ap nat_abs v ∙ nat_abs_mul z (pos (down e))

-- the opposite of nothing is itself, and that of any other value has its sign turned
opposite-zero : (x : Float) (d : ℕ) → 0 < d → Value x (pos 0) d → opposite x ≡ x
unfolding opposite Value
opposite-zero nan d h v = refl
opposite-zero (inf s) d h v = absurd v
opposite-zero (fin s zero e) d h v = refl
opposite-zero (fin s (suc m) e) d h v =
    absurd (lt_irrefl 0 (lt_of_lt_of_le (mul-pos (mul-pos (zero-lt-suc m) (up_pos e)) h) (le_of_eq (value-size s (suc m) e (pos 0) d v ∙ zero-mul (down e)))))

opposite-some : (x : Float) (z : ℤ) (d : ℕ) → 0 < nat_abs z → Value x z d → opposite x ≡ neg x
unfolding opposite neg Value
opposite-some nan z d h v = refl
opposite-some (inf s) z d h v = refl
opposite-some (fin s zero e) z d h v =
    absurd (lt_irrefl 0 (lt_of_lt_of_le (mul-pos h (down_pos e)) (le_of_eq (sym (value-size s zero e z d v) ∙ ap (λ (n : ℕ). n * d) (zero-mul (up e)) ∙ zero-mul d))))
opposite-some (fin s (suc m) e) z d h v = ap (λ b. cond b (fin s (suc m) e) (fin (not s) (suc m) e)) (ne_eqb (suc m) 0 (λ n. omega arith))

-- the double of -z / 2^k, where that of z / 2^k loses nothing
pub minus-dyadic : (z : ℤ) (k : ℕ) → Value (dyadic z k) z (2 ^ k) → dyadic (neg_ℤ z) k ≡ opposite (dyadic z k)
unfolding dyadic
minus-dyadic (pos zero) k exact = sym (opposite-zero (dyadic (pos 0) k) (2 ^ k) (pow_pos k) exact)
minus-dyadic (pos (suc n)) k exact = round-neg binary64 false (suc n) (2 ^ k) ∙ sym (opposite-some (dyadic (pos (suc n)) k) (pos (suc n)) (2 ^ k) (zero-lt-suc n) exact)
minus-dyadic (negsuc n) k exact = round-neg binary64 true (suc n) (2 ^ k) ∙ sym (opposite-some (dyadic (negsuc n) k) (negsuc n) (2 ^ k) (zero-lt-suc n) exact)
