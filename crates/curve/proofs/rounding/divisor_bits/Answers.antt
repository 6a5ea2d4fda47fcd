-- A cardinal basis has five bits more than the depth's, and every other none.
use mathlib.Core.Path.{◌≡◌, refl, ap}
use Prim.Native.Nat.{ℕ}
use native.Mathlib.Omega.{arith}
use Rattle.curve.specs.declared.Basis.{Basis}
use Rattle.curve.specs.declared.Basis.TheVariants.{Bezier, BSpline, Cardinal, Hermite, Loop}
use Rattle.curve.specs.Inner.{fold_bits, bits_of}
use Rattle.curve.proofs.rounding.divisor_bits.Goals as goal

none-more : (b : Basis) → ((c : ℕ) → b ≡ Cardinal c → ⊥) → fold_bits b ≡ 0
none-more Bezier other = refl
none-more BSpline other = refl
none-more (Cardinal c) other = absurd (other c refl)
none-more Hermite other = refl
none-more (Loop n) other = refl

pub returns-in-Cardinal : goal.returns-in-Cardinal
unfolding bits_of
returns-in-Cardinal c = omega (arith, ap fold_bits c.in-Cardinal.is)

pub returns-in_default : goal.returns-in_default
unfolding bits_of
returns-in_default c = omega (arith, none-more c.args.basis c.in_default.not-Cardinal)
