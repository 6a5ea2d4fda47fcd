-- A drawing number, as document 01 has it ("Preview and drawing"): a double in millimetres means its exact IEEE 754 value times 1,000, rounded once by `nearest`
-- of crate `whole`. The refusal table's row 10 is NaN and the infinities, row 11 a rounded value outside limits. Definitions only.
use Rattle.std.specs.Prelude.{cond, ℕ, ◌*◌, leb, ℤ, pos, nat_abs, Float, Err, Ok, Result}
use Rattle.std.specs.Float.{nan, inf, fin}
use Rattle.std.specs.Float.Ieee.{up, down}
use Rattle.whole.specs.Nearest.{nearest}
use Rattle.curve.specs.Limits.{limit}
use Rattle.doubles.specs.Exact.{signed}
use Rattle.doubles.specs.declared.Unmeasured.{Unmeasured}
use Rattle.doubles.specs.declared.Unmeasured.TheVariants.{NotFinite, Outside}

-- Micrometres in a millimetre.
abbrev pub thousand : ℕ
thousand = 1000

-- A rounded value of n micrometres is a coordinate, or outside limits.
unfoldable pub within : ℤ → Result ℤ Unmeasured
within n = cond (leb (nat_abs n) limit) (Ok n) (Err Outside)

-- What a double in millimetres means. The finite value m · 2^e is the fraction (m · up e) / down e.
unfoldable pub measure : Float → Result ℤ Unmeasured
unfolding within
measure nan = Err NotFinite
measure (inf s) = Err NotFinite
measure (fin s m e) = within (nearest (signed s (m * up e * thousand)) (down e))

-- Document 01's number and value for each answer: a refusal's number, with no value; or no refusal, 0, with the coordinate.
abbrev pub paper : Result ℤ Unmeasured → ℕ × ℤ
paper (Err NotFinite) = (10, pos 0)
paper (Err Outside) = (11, pos 0)
paper (Ok n) = (0, n)
