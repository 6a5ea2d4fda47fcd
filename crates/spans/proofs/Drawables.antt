-- Passed checks give a list of controls that spans can be drawn from, and that gives each span's whole controls, ready on both axes, over the divisor of the basis.
use mathlib.Core.List.{List}
use Prim.Native.Nat.{ℕ, ◌<◌}
use native.Mathlib.Nat.{le_trans, le_refl, mul-le-mul}
use native.Mathlib.Omega.{arith}
use lib.IntN.{ℤ}
use Rattle.curve.specs.Span.{coordinate, records, divisor}
use Rattle.curve.proofs.Bits.{reach-most}
use Rattle.curve.proofs.Limits.{sum-size, controls-inside}
use Rattle.shape.specs.declared.Shape.{Shape}
use Rattle.shape.specs.declared.Plan.{Plan}
use Rattle.shape.specs.Inner.{Good, Lent}
use Rattle.shape.proofs.Refusals.{good-records, lent-inside}
use Rattle.spans.specs.Inner.{Ready, Drawable}
use Rattle.spans.proofs.Numbers.{span_controls}

pub span-ready : (p : Plan) (controls : List ℤ) → Drawable p controls → (s axis : ℕ) → s < p.spans → axis < 2 → Ready p.depth (divisor p.basis p.depth) (span_controls p.basis controls s axis)
span-ready p controls d s axis h a =
    let q = records p.basis s (coordinate controls axis) in
    let inside = d.inside s axis h a in
    record {
      inside = controls-inside p.basis q d.offered inside;
      near = λ i n. le_trans (sum-size p.basis p.depth i q n d.offered inside) (mul-le-mul (le_refl (divisor p.basis p.depth)) (reach-most p.basis));
    }

pub drawable : (s : Shape) (p : Plan) → Good s p → (controls : List ℤ) (k len : ℕ) → Lent s.count controls k len → Drawable p controls
drawable s p good controls k len lent =
    record {
      few = omega (arith, good.spans-most, good.records-most);
      offered = good.offered;
      round = good.round;
      held = λ t h i few. omega (arith, good-records s p good t i h few, lent.room);
      inside = λ t axis h a. lent-inside s.count controls k len lent p.basis t axis a (λ i few. good-records s p good t i h few);
    }
