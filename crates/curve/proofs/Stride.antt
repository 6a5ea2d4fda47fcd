-- The stride of a basis is from 1 to 3: all that counts and places need to know of a basis.
use mathlib.Core.Path.{◌≡◌, ap, ◌∙◌}
use Prim.Native.Nat.{ℕ, suc, ◌+◌, ◌*◌, ◌≤◌, ◌<◌}
use native.Mathlib.Nat.{mul-le-mul_left, mul-le-mul_right, mul-suc, one-mul}
use native.Mathlib.Omega.{arith}
use Rattle.curve.specs.declared.Basis.{Basis}
use Rattle.curve.specs.declared.Basis.TheVariants.{Bezier, BSpline, Cardinal, Hermite, Loop}
use Rattle.curve.specs.Span.{stride, first_record}

pub stride-bounds : (b : Basis) → (1 ≤ stride b) × (stride b ≤ 3)
stride-bounds Bezier = (omega arith, omega arith)
stride-bounds BSpline = (omega arith, omega arith)
stride-bounds (Cardinal c) = (omega arith, omega arith)
stride-bounds Hermite = (omega arith, omega arith)
stride-bounds (Loop n) = (omega arith, omega arith)

-- and so no span begins past three times its number
pub first-few : (b : Basis) (s : ℕ) → first_record b s ≤ 3 * s
unfolding first_record
first-few b s = mul-le-mul_right {m = stride b} {n = 3} s (stride-bounds b).1

-- nor before the record of its number
pub first-least : (b : Basis) (s : ℕ) → s ≤ first_record b s
unfolding first_record
first-least b s = omega (arith, one-mul s, mul-le-mul_right {m = 1} {n = stride b} s (stride-bounds b).0)

-- the next span's first record is a stride on
pub next-first : (b : Basis) (s : ℕ) → first_record b (suc s) ≡ first_record b s + stride b
unfolding first_record
next-first b s = mul-suc (stride b) s

-- and every later one's at least that
pub later_first : (b : Basis) (s t : ℕ) → s < t → first_record b s + stride b ≤ first_record b t
unfolding first_record
later_first b s t h = let on : stride b * suc s ≤ stride b * t = mul-le-mul_left (stride b) h in omega (arith, mul-suc (stride b) s, on)

-- where the stride is 1, span s begins with record s
pub unit-first : (b : Basis) → stride b ≡ 1 → (s : ℕ) → first_record b s ≡ s
unfolding first_record
unit-first b one s = ap (λ (d : ℕ). d * s) one ∙ one-mul s
