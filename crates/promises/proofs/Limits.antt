-- Boxes and limits (document 01, "The curve, exactly"): how far the points of an outline go.
use Rattle.std.specs.Prelude.{Ok}
use mathlib.Core.Path.{◌≡◌}
use mathlib.Core.List.{List}
use Prim.Native.Nat.{ℕ, ◌*◌, ◌^◌, ◌≤◌, ◌<◌}
use lib.IntN.{ℤ, pos, nat_abs}
use lib.ListN.{get_or}
use lib.Signed.{◌≤ℤ◌}
use Rattle.whole.specs.Outcome.{outcome}
use Rattle.curve.specs.declared.Four.{Four}
use Rattle.curve.specs.declared.Basis.{Basis}
use Rattle.curve.specs.declared.Basis.TheVariants.{Bezier, BSpline, Loop}
use Rattle.curve.specs.Published.{most_parameter}
use Rattle.curve.specs.Limits.{Box, Inside, limit, reach, parameter_of}
use Rattle.curve.specs.Span.{point, whole_controls}
use Rattle.curve.proofs.Limits as curve
use Rattle.shape.specs.declared.Shape.{Shape}
use Rattle.shape.specs.Refusals.{plan_of}
use Rattle.outline.specs.declared.Figures.{Figures}
use Rattle.outline.specs.Outline.{points, draws}
use Rattle.outline.proofs.Within as outline
use Rattle.sequences.specs.Played.{Call, state, played}
use Rattle.sequences.proofs.Again as sequences

-- every Bezier point, and every B-spline point, lies in the box of its span's four controls
pub bezier-in-box : (k i : ℕ) (q : Four) (lo hi : ℤ) → i ≤ 2 ^ k → Box lo hi q → (lo ≤ℤ point Bezier k q i) × (point Bezier k q i ≤ℤ hi)
bezier-in-box = curve.bezier-box

pub b-spline-in-box : (k i : ℕ) (q : Four) (lo hi : ℤ) → i ≤ 2 ^ k → Box lo hi q → (lo ≤ℤ point BSpline k q i) × (point BSpline k q i ≤ℤ hi)
b-spline-in-box = curve.b_spline-box

-- and so does every point of a loop, whose spans are B-spline spans
pub loop-in-box : (n k i : ℕ) (q : Four) (lo hi : ℤ) → i ≤ 2 ^ k → Box lo hi q → (lo ≤ℤ point (Loop n) k q i) × (point (Loop n) k q i ≤ℤ hi)
unfolding point whole_controls
loop-in-box n = curve.b_spline-box

-- every point of records inside the limits, with a parameter that is offered, lies within the reach of its basis: 5,000,000 either way, of a cardinal one 6,000,000
pub within-reach : (b : Basis) (k i : ℕ) (q : Four) → i ≤ 2 ^ k → parameter_of b ≤ most_parameter → Inside limit q → nat_abs (point b k q i) ≤ reach b
within-reach = curve.point-size

-- so every number of the outline does, as it stands in the lent list after an accepted drawing
pub drawn-within : (s : Shape) (controls lent : List ℤ) (fs : Figures) (held : List ℤ) → draws s controls lent ≡ outcome (Ok fs) held → (q : ℕ) → q < 2 * fs.points → nat_abs (get_or held q (pos 0)) ≤ reach (plan_of s).basis
drawn-within = outline.drawn-within

-- and after any sequence of edits that follow it, refused ones among them
pub played-within : (s : Shape) (controls lent : List ℤ) (fs : Figures) (held : List ℤ) (calls : List Call) → draws s controls lent ≡ outcome (Ok fs) held
    → (q : ℕ) → q < 2 * points (plan_of (played (state s controls held) calls).shape)
    → nat_abs (get_or (played (state s controls held) calls).held q (pos 0)) ≤ reach (plan_of (played (state s controls held) calls).shape).basis
played-within = sequences.drawn-played-within
