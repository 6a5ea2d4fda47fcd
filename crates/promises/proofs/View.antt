-- The view (document 01, "Preview and drawing"): the part of the lent points that is span s, 2^k + 1 points, or the empty part. Its contract says that what it hands back
-- is `viewed (part_of ..)`, for every input.
use Rattle.std.specs.Prelude.{Ok}
use mathlib.Core.Path.{◌≡◌, ◌∙◌}
use mathlib.Core.List.{List, []}
use Prim.Native.Nat.{ℕ, ◌+◌, ◌*◌, ◌^◌, ◌≤◌, ◌<◌}
use lib.IntN.{ℤ}
use lib.ListN.{length}
use Rattle.whole.specs.Outcome.{outcome}
use Rattle.curve.proofs.Tab.{tab-same}
use Rattle.shape.specs.declared.Shape.{Shape}
use Rattle.shape.specs.declared.Plan.{Plan}
use Rattle.shape.specs.Shape.{points_of}
use Rattle.shape.specs.Refusals.{judge_shape, plan_of}
use Rattle.outline.specs.declared.Figures.{Figures}
use Rattle.outline.specs.Outline.{draws}
use Rattle.outline.specs.View.{part_of, viewed, Unseen}
use Rattle.outline.proofs.Views as outline
use Rattle.promises.specs.Points.{published_span}
use Rattle.promises.proofs.Points.{point-published}

-- it is empty for a bad shape, s not below m, or a list shorter than all points, and for nothing else
pub empty-exactly : (s : Shape) (t : ℕ) (l : List ℤ) → (viewed (part_of s t l) l ≡ [] → Unseen s t l) × (Unseen s t l → viewed (part_of s t l) l ≡ [])
empty-exactly s t l = (outline.empty-unseen s t l, outline.unseen-empty s t l)

-- no good view is empty: it is its span's 2^k + 1 points, two numbers each
pub good-view : (s : Shape) (p : Plan) (t : ℕ) (l : List ℤ) → judge_shape s ≡ Ok p → t < p.spans → 2 * points_of p.depth p.spans ≤ length l
    → length (viewed (part_of s t l) l) ≡ 2 * (2 ^ p.depth + 1)
good-view = outline.good-view

-- after an accepted drawing it is the span's published points, the first of them and the last
pub drawn-view : (s : Shape) (controls lent : List ℤ) (fs : Figures) (held : List ℤ) → draws s controls lent ≡ outcome (Ok fs) held → (t : ℕ) → t < (plan_of s).spans
    → viewed (part_of s t held) held ≡ published_span (plan_of s).basis (plan_of s).depth controls t
drawn-view s controls lent fs held answered t there =
    outline.drawn-view s controls lent fs held answered t there ∙ tab-same _ _ 0 0 (2 * (2 ^ (plan_of s).depth + 1)) (λ j h. point-published (plan_of s).basis (plan_of s).depth _ _)
