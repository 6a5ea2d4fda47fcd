-- What a drawing call comes to (document 01): the refusals in their order, or all points of the outline in the lent list and everything past them kept.
use Rattle.std.specs.Prelude.{List, [], ◌∷◌, ◌++◌, ℕ, ◌*◌, ℤ, pos, length, Err, Ok, Result}
use Rattle.whole.specs.Outcome.{Outcome, outcome, refuses}
use Rattle.shape.specs.declared.Shape.{Shape}
use Rattle.shape.specs.declared.Plan.{Plan}
use Rattle.shape.specs.Refusals.{Row, judge, shape_rows, list_rows, plan_of}
use Rattle.shape.specs.Shape.{points_of}
use Rattle.shape.specs.Exactly.{Told, Refuses, Accepts}
use Rattle.spans.specs.Numbers.{number, exact_in}
use Rattle.spans.specs.Filled.{filled}
use Rattle.outline.specs.declared.Figures.{Figures}
use Rattle.shape.specs.declared.Refusal.{Refusal}

abbrev pub points : Plan → ℕ
points p = points_of p.depth p.spans

-- The checks of a drawing call: 7, 8, 9 over n records and a plan's points, and 1, 2, 24, 3 before them.
abbrev pub plan_rows : ℕ → Plan → List ℤ → List ℤ → List Row
plan_rows n p controls lent = list_rows n controls (points p) (length lent)

abbrev pub draw_rows : Shape → List ℤ → List ℤ → List Row
draw_rows s controls lent = shape_rows s ++ plan_rows s.count (plan_of s) controls lent

-- What the answer tells: the number of points and how many of their coordinates are exact, or the refusal.
abbrev pub told : Result Figures Refusal → Told
told (Ok f) = Accepts (pos f.points ∷ pos f.exact ∷ [])
told (Err r) = Refuses r

-- All points from the list's start, everything past them as it was.
abbrev pub drawn : Plan → List ℤ → List ℤ → List ℤ
drawn p controls lent = filled (number p controls) 0 (2 * points p) lent

-- Each of their coordinates is counted once where it is exact (document 02, request 9), the last point's among them.
abbrev pub figures_of : Plan → List ℤ → Figures
figures_of p controls = record { points = points p; exact = exact_in p controls 0 (2 * points p) }

abbrev pub accepts : Plan → List ℤ → List ℤ → Outcome (Result Figures Refusal) (List ℤ)
accepts p controls lent = outcome (Ok (figures_of p controls)) (drawn p controls lent)

unfoldable pub draws_plan : ℕ → Plan → List ℤ → List ℤ → Outcome (Result Figures Refusal) (List ℤ)
draws_plan n p controls lent = judge (plan_rows n p controls lent) (refuses Err lent) (accepts p controls lent)

unfoldable pub draws : Shape → List ℤ → List ℤ → Outcome (Result Figures Refusal) (List ℤ)
draws s controls lent = judge (draw_rows s controls lent) (refuses Err lent) (accepts (plan_of s) controls lent)
