-- The view of a span (document 01, "Preview and drawing"): the part of the lent points that is span s, 2^k + 1 points; the empty part for a shape that 1, 2, 24 or 3
-- would refuse, s not below m, or a list shorter than all points.
use Rattle.std.specs.Prelude.{Bool, cond, ◌||◌, List, ◌⊎◌, ℕ, ◌+◌, ◌*◌, ◌≤◌, ◌<◌, ltb, leb, ℤ, length, take, drop}
use Rattle.shape.specs.declared.Shape.{Shape}
use Rattle.shape.specs.declared.Plan.{Plan}
use Rattle.shape.specs.declared.Refusal.{Refusal}
use Rattle.shape.specs.Refusals.{First, judge, shape_rows, plan_of}
use Rattle.shape.specs.Shape.{points_of}
use Rattle.spans.specs.Numbers.{per_span}

-- Where a view starts in the list and how many numbers it has.
pub record Part : Type 0 where
  pub start : ℕ
  pub size : ℕ

abbrev pub empty_part : Part
empty_part = record { start = 0; size = 0 }

-- Span s is not below m, or the list is shorter than all points.
abbrev pub out_of_sight : Plan → ℕ → List ℤ → Bool
out_of_sight p s lent = leb p.spans s || ltb (length lent) (2 * points_of p.depth p.spans)

unfoldable pub part_of : Shape → ℕ → List ℤ → Part
part_of sh s lent =
    let p = plan_of sh in
    judge (shape_rows sh) (λ r. empty_part) (cond (out_of_sight p s lent) empty_part (record { start = s * per_span p.depth; size = per_span p.depth + 2 }))

unfoldable pub viewed : Part → List ℤ → List ℤ
viewed v lent = take v.size (drop v.start lent)

-- The paper's cases of the empty part: a shape that 1, 2, 24 or 3 refuses, s not below m, or a list shorter than all points.
abbrev pub Unseen : Shape → ℕ → List ℤ → Type 0
Unseen sh s lent =
    let p = plan_of sh in
    ((r : Refusal) × First (shape_rows sh) r) ⊎ ((p.spans ≤ s) ⊎ (length lent < 2 * points_of p.depth p.spans))
