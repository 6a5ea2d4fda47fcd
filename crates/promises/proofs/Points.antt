-- Demand 2: after an accepted drawing each point is the published curve of its basis at its step, worked exactly and rounded once.
use Rattle.std.specs.Prelude.{Ok}
use mathlib.Core.Path.{◌≡◌, ◌∙◌}
use mathlib.Core.List.{List}
use Prim.Native.Nat.{ℕ, ◌*◌, ◌-◌, ◌/◌, ◌%◌, ◌^◌, ◌<◌, min}
use lib.IntN.{ℤ, pos, ◌*ℤ◌}
use lib.ListN.{get_or}
use Rattle.whole.specs.Nearest.{nearest}
use Rattle.whole.specs.Outcome.{outcome}
use Rattle.curve.specs.declared.Four.{Four}
use Rattle.curve.specs.declared.Basis.{Basis}
use Rattle.curve.specs.Published.{published, denominator}
use Rattle.curve.specs.Span.{fold, coordinate, records, point}
use Rattle.curve.specs.Ways.{by_weights, by_halving, by_differences}
use Rattle.curve.proofs.Span as curve
use Rattle.curve.proofs.Ways.{halving-agrees, differences-agree}
use Rattle.shape.specs.declared.Shape.{Shape}
use Rattle.shape.specs.declared.Plan.{Plan}
use Rattle.shape.specs.Refusals.{plan_of}
use Rattle.spans.specs.Numbers.{sum_of, number}
use Rattle.outline.specs.declared.Figures.{Figures}
use Rattle.outline.specs.Outline.{points, draws}
use Rattle.outline.proofs.Held.{held_number}
use Rattle.promises.specs.Points.{published_value, published_number}

-- a point of a span is the published value, rounded once
pub point-published : (b : Basis) (k : ℕ) (p : Four) (i : ℕ) → point b k p i ≡ nearest (published b p (pos i) (pos (2 ^ k))) (denominator b * 2 ^ (3 * k))
point-published = curve.point-published

-- the exact sum of an outline's number and its published value are one fraction, over the one divisor and over the other
pub value-published : (p : Plan) (controls : List ℤ) (q : ℕ) → pos (denominator p.basis) *ℤ sum_of p controls q ≡ pos (fold p.basis) *ℤ published_value p controls q
unfolding sum_of published_value
value-published p controls q =
    let s = min (q / 2 / 2 ^ p.depth) (p.spans - 1) in curve.same-value p.basis p.depth (records p.basis s (coordinate controls (q % 2))) (q / 2 - s * 2 ^ p.depth)

-- so each number of an outline is
pub number-published : (p : Plan) (controls : List ℤ) (q : ℕ) → number p controls q ≡ published_number p controls q
unfolding sum_of number point published_value published_number
number-published p controls q =
    let s = min (q / 2 / 2 ^ p.depth) (p.spans - 1) in point-published p.basis p.depth (records p.basis s (coordinate controls (q % 2))) (q / 2 - s * 2 ^ p.depth)

-- after an accepted drawing, by whichever way: the three calls have this one reading
pub drawn-published :
    (s : Shape) (controls lent : List ℤ) (fs : Figures) (held : List ℤ)
    → draws s controls lent ≡ outcome (Ok fs) held
    → (q : ℕ)
    → q < 2 * points (plan_of s)
    → get_or held q (pos 0) ≡ published_number (plan_of s) controls q
drawn-published s controls lent fs held e q h =
    held_number s controls lent fs held e q h ∙ number-published (plan_of s) controls q

-- the three ways list the same sums of a span, at any depth
pub three_ways : (k : ℕ) (q : Four) → (by_halving k q ≡ by_weights k q) × (by_differences k q ≡ by_weights k q)
three_ways k q = (halving-agrees k q, differences-agree k q)
