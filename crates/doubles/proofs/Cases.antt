-- Document 01's sums on a drawing number (P12), computed from the definition. 0.0625 mm is 1 / 2^4, and the two about the limit are 4000 + 1 / 2^11 and 4000 + 1 / 2^10.
use Rattle.std.specs.Prelude.{Err, Ok}
use mathlib.Core.Path.{◌≡◌, refl}
use mathlib.Core.Bool.{Bool, true, false}
use Prim.Native.Nat.{◌+◌, ◌*◌, ◌-◌, ◌^◌}
use lib.IntN.{pos, negsuc, neg_ℤ}
use lib.Ieee.{Float, nan, inf, fin}
use Rattle.whole.specs.Nearest.{half_up, nearest}
use Rattle.doubles.specs.Exact.{dyadic, Value}
use Rattle.doubles.specs.Number.{measure}
use Rattle.doubles.specs.declared.Unmeasured.TheVariants.{NotFinite, Outside}

-- 0.0625, -0.0625, 4000.00048828125 and 4000.0009765625 as doubles, each by its numerator over a power of two
abbrev pub sixteenth : Float
sixteenth = dyadic (pos 1) 4

abbrev pub minus-sixteenth : Float
minus-sixteenth = dyadic (negsuc 0) 4

abbrev pub just-within : Float
just-within = dyadic (pos (4000 * 2 ^ 11 + 1)) 11

abbrev pub just-outside : Float
just-outside = dyadic (pos (4000 * 2 ^ 10 + 1)) 10

-- the decimals of document 01 are these doubles' exact values
pub sixteenth-is : Value sixteenth (pos 625) (10 ^ 4)
unfolding dyadic Value
sixteenth-is = refl

pub minus-sixteenth-is : Value minus-sixteenth (neg_ℤ (pos 625)) (10 ^ 4)
unfolding dyadic Value
minus-sixteenth-is = refl

pub just-within-is : Value just-within (pos 400000048828125) (10 ^ 11)
unfolding dyadic Value
just-within-is = refl

pub just-outside-is : Value just-outside (pos 40000009765625) (10 ^ 10)
unfolding dyadic Value
just-outside-is = refl

pub sixteenth-measure : measure sixteenth ≡ Ok (pos 63)
unfolding dyadic measure nearest half_up
sixteenth-measure = refl

pub minus-sixteenth-measure : measure minus-sixteenth ≡ Ok (neg_ℤ (pos 63))
unfolding dyadic measure nearest half_up
minus-sixteenth-measure = refl

pub just-within-measure : measure just-within ≡ Ok (pos 4000000)
unfolding dyadic measure nearest half_up
just-within-measure = refl

pub just-outside-measure : measure just-outside ≡ Err Outside
unfolding dyadic measure nearest half_up
just-outside-measure = refl

-- the ends of the format: no number, both infinities, both zeros, the smallest and the largest double
pub nan-measure : measure nan ≡ Err NotFinite
unfolding measure
nan-measure = refl

pub infinity-measure : (s : Bool) → measure (inf s) ≡ Err NotFinite
unfolding measure
infinity-measure s = refl

pub zero-measure : (s : Bool) → measure (fin s 0 (pos 0)) ≡ Ok (pos 0)
unfolding measure nearest half_up
zero-measure false = refl
zero-measure true = refl

pub smallest-measure : (s : Bool) → measure (fin s 1 (negsuc 1073)) ≡ Ok (pos 0)
unfolding measure nearest half_up
smallest-measure false = refl
smallest-measure true = refl

pub largest-measure : (s : Bool) → measure (fin s (2 ^ 53 - 1) (pos 971)) ≡ Err Outside
unfolding measure nearest half_up
largest-measure false = refl
largest-measure true = refl
