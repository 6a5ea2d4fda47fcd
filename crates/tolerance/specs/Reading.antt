-- What drawing by tolerance comes to (document 02, request 3): the refusals in their order, or the points that were chosen in the lent list and everything past them kept. Definitions only.
use Rattle.std.specs.Prelude.{Bool, true, false, List, [], ◌∷◌, ◌++◌, ℕ, ◌+◌, ◌-◌, ltb, ℤ, pos, length, Err, Ok, Result}
use Rattle.std.proofs.lemmas.List.Edits.{sets}
use Rattle.whole.specs.Outcome.{Outcome, outcome, refuses}
use Rattle.curve.specs.declared.Four.{Four}
use Rattle.curve.specs.Span.{coordinate, divisor, records, whole_controls}
use Rattle.curve.specs.Tab.{tab}
use Rattle.shape.specs.declared.Shape.{Shape}
use Rattle.shape.specs.declared.Plan.{Plan}
use Rattle.shape.specs.Exactly.{Told, Refuses, Accepts}
use Rattle.shape.specs.Refusals.{Row, row, judge, shape_rows, control_rows, point_rows, plan_of}
use Rattle.pieces.specs.Tree.{Tree, most_tolerance, span_tree, all_cuts}
use Rattle.pieces.specs.Walk.{walk_all}
use Rattle.pieces.specs.Values.{Value, all_starts, end, numbers, exact_of}
use Rattle.tolerance.specs.declared.Steps.{Steps}
use Rattle.pieces.specs.declared.Uncut.{Uncut}
use Rattle.pieces.specs.declared.Uncut.TheVariants.{TooDeep, TooMany}
use Rattle.shape.specs.declared.Refusal.{Refusal}

-- ---- the trees of a plan's spans

-- The Bezier controls of span s on an axis (0 is x, 1 is y), over the basis' own divisor.
abbrev pub controls_of : Plan → List ℤ → ℕ → ℕ → Four
controls_of p controls s axis = whole_controls p.basis (records p.basis s (coordinate controls axis))

unfoldable pub tree_of : Plan → ℕ → List ℤ → ℕ → Tree
tree_of p tolerance controls s = span_tree (divisor p.basis) tolerance (controls_of p controls s 0) (controls_of p controls s 1)

abbrev pub trees_of : Plan → ℕ → List ℤ → List Tree
trees_of p tolerance controls = tab (tree_of p tolerance controls) 0 p.spans

-- How the walk over all of them, from the left, ends.
abbrev pub walk_of : Plan → ℕ → ℕ → List ℤ → Result ℕ Uncut
walk_of p tolerance most controls = walk_all most 0 (trees_of p tolerance controls)

-- ---- the points that they choose

-- The start of each flat piece in order, and the last end.
abbrev pub values_of : Plan → ℕ → List ℤ → List Value
values_of p tolerance controls =
    let last = p.spans - 1 in
    all_starts (divisor p.basis) (trees_of p tolerance controls) ++ end (divisor p.basis) (controls_of p controls last 0) (controls_of p controls last 1)

abbrev pub cuts_of : Plan → ℕ → List ℤ → ℕ
cuts_of p tolerance controls = all_cuts (trees_of p tolerance controls)

-- A span that is not cut has one flat piece, and each cut makes one more.
abbrev pub points_for : Plan → ℕ → ℕ
points_for p cuts = p.spans + cuts + 1

-- ---- the rows

-- 20: the tolerance is above 10,000, after 8.
abbrev pub tolerance_row : ℕ → Row
tolerance_row tolerance = row (ltb most_tolerance tolerance) 20 0

-- 21 or 22, whichever the walk meets first.
abbrev pub is_too_deep : Result ℕ Uncut → Bool
is_too_deep (Ok n) = false
is_too_deep (Err TooDeep) = true
is_too_deep (Err TooMany) = false

abbrev pub is_too_many : Result ℕ Uncut → Bool
is_too_many (Ok n) = false
is_too_many (Err TooDeep) = false
is_too_many (Err TooMany) = true

abbrev pub walk_rows : Result ℕ Uncut → List Row
walk_rows w = row (is_too_deep w) 21 0 ∷ row (is_too_many w) 22 0 ∷ []

-- 7, 8, 20, then 21 or 22, then 9, over n records; and 1, 2, 24, 3 before them.
abbrev pub last_rows : Plan → ℕ → ℕ → List ℤ → ℕ → List Row
last_rows p tolerance most controls len = walk_rows (walk_of p tolerance most controls) ++ point_rows (points_for p (cuts_of p tolerance controls)) len

abbrev pub plan_rows : ℕ → Plan → ℕ → ℕ → List ℤ → List ℤ → List Row
plan_rows n p tolerance most controls lent = control_rows n n controls ++ (tolerance_row tolerance ∷ last_rows p tolerance most controls (length lent))

abbrev pub choose_rows : Shape → ℕ → ℕ → List ℤ → List ℤ → List Row
choose_rows s tolerance most controls lent = shape_rows s ++ plan_rows s.count (plan_of s) tolerance most controls lent

-- ---- the answer

-- What it tells: the number of points, the number of cuts made and how many of the points' coordinates are exact, or the refusal.
abbrev pub told : Result Steps Refusal → Told
told (Ok s) = Accepts (pos s.points ∷ pos s.cuts ∷ pos s.exact ∷ [])
told (Err r) = Refuses r

abbrev pub steps_of : Plan → ℕ → List ℤ → Steps
steps_of p tolerance controls =
    let made = cuts_of p tolerance controls in
    record { points = points_for p made; cuts = made; exact = exact_of (values_of p tolerance controls) }

-- All chosen points from the list's start, everything past them as it was.
abbrev pub chosen : Plan → ℕ → List ℤ → List ℤ → List ℤ
chosen p tolerance controls lent = sets lent 0 (numbers (values_of p tolerance controls))

abbrev pub accepts : Plan → ℕ → List ℤ → List ℤ → Outcome (Result Steps Refusal) (List ℤ)
accepts p tolerance controls lent = outcome (Ok (steps_of p tolerance controls)) (chosen p tolerance controls lent)

-- Row 9 alone is left, and then the call in the order of its rows.
unfoldable pub chooses_last : Plan → ℕ → List ℤ → List ℤ → Outcome (Result Steps Refusal) (List ℤ)
chooses_last p tolerance controls lent = judge (point_rows (points_for p (cuts_of p tolerance controls)) (length lent)) (refuses Err lent) (accepts p tolerance controls lent)

unfoldable pub chooses_plan : ℕ → Plan → ℕ → ℕ → List ℤ → List ℤ → Outcome (Result Steps Refusal) (List ℤ)
chooses_plan n p tolerance most controls lent = judge (plan_rows n p tolerance most controls lent) (refuses Err lent) (accepts p tolerance controls lent)

unfoldable pub chooses : Shape → ℕ → ℕ → List ℤ → List ℤ → Outcome (Result Steps Refusal) (List ℤ)
chooses s tolerance most controls lent = judge (choose_rows s tolerance most controls lent) (refuses Err lent) (accepts (plan_of s) tolerance controls lent)
