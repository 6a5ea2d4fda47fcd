-- What an edit comes to (document 01): the refusals in the order 1 to 9, with 24 after 2; or the new controls, the new points and the answer, with every number past the last control and
-- past the last point as it was. For any contents of the lent points.
use Rattle.std.specs.Prelude.{not, List, [], ◌∷◌, ◌++◌, ℕ, ◌*◌, max, ℤ, pos, length, Err, Ok, Result}
use Rattle.whole.specs.Outcome.{Outcome, outcome, refuses}
use Rattle.shape.specs.declared.Shape.{Shape}
use Rattle.shape.specs.declared.Plan.{Plan}
use Rattle.curve.specs.declared.Basis.{Basis}
use Rattle.curve.specs.Span.{recount}
use Rattle.shape.specs.Refusals.{Row, row, judge, shape_rows, control_rows, point_rows, plan_of}
use Rattle.shape.specs.Exactly.{Told, Refuses, Accepts}
use Rattle.spans.specs.Filled.{filled}
use Rattle.outline.specs.Outline.{points}
use Rattle.asked.specs.declared.Edit.{Edit}
use Rattle.edit.specs.declared.Change.{Change}
use Rattle.asked.specs.Edits.{count_after, spans_after, offered, in_range, at_the_end, new_outside, asked, run_of, exact_fresh, point_at}
use Rattle.shape.specs.declared.Refusal.{Refusal}

-- The shape after an edit.
abbrev pub shape_after : Edit → Shape → Shape
shape_after e s = record { basis = s.basis; depth = s.depth; count = count_after e s.count; parameter = s.parameter }

-- And the plan: a loop has as many records as spans.
abbrev pub plan_after : Edit → Plan → Plan
plan_after e p = let m = spans_after e p.spans in record { basis = recount m p.basis; depth = p.depth; spans = m }

-- Rows 4, 5, 6: what is asked.
abbrev pub ask_rows : Edit → Basis → ℕ → ℕ → List Row
ask_rows e b j n = row (not (offered e b)) 4 0 ∷ row (not (in_range e j n)) 5 j ∷ row (at_the_end e n) 6 0 ∷ []

unfoldable pub judge_ask : Edit → Basis → ℕ → ℕ → Result (Unit {0}) Refusal
judge_ask e b j n = judge (ask_rows e b j n) Err (Ok tt)

-- Row 8 for the new record, whose place is n.
abbrev pub new_rows : Edit → ℕ → List Row
new_rows e n = row (new_outside e) 8 n ∷ []

-- Rows 7, 8, 9: the lent lists, with room for the greater of the two counts and of the two numbers of points, and the new record after the old ones.
abbrev pub room_rows : Edit → ℕ → List ℤ → ℕ → ℕ → List Row
room_rows e n controls most len = control_rows (max n (count_after e n)) n controls ++ (new_rows e n ++ point_rows most len)

unfoldable pub judge_room : Edit → ℕ → List ℤ → ℕ → ℕ → Result (Unit {0}) Refusal
judge_room e n controls most len = judge (room_rows e n controls most len) Err (Ok tt)

-- Rows 4 to 9, for a sound shape with its plan p, and q the plan of the new shape.
abbrev pub edit_rows : Edit → Shape → Plan → Plan → ℕ → List ℤ → List ℤ → List Row
edit_rows e s p q j controls lent =
    ask_rows e p.basis j s.count ++ room_rows e s.count controls (max (points p) (points q)) (length lent)

-- The answer of an accepted edit: the new shape, whose plan is q, its run, and how many coordinates of the run's points are exact.
abbrev pub change : Edit → Shape → Plan → ℕ → ℕ → Change
change e s q j exact = record { shape = shape_after e s; first = (run_of e q j).first; fresh = (run_of e q j).count; exact = exact }

abbrev pub controls_after : Edit → Shape → ℕ → List ℤ → List ℤ
controls_after e s j controls = asked e j controls (count_after e s.count)

-- The points, of the controls as they then stand.
abbrev pub points_after : Edit → Shape → Plan → ℕ → List ℤ → List ℤ → List ℤ
points_after e s q j controls lent = filled (point_at e q j (controls_after e s j controls) lent) 0 (2 * points q) lent

-- Both lent lists are left: the controls, and the points.
abbrev pub accepts : Edit → Shape → Plan → ℕ → List ℤ → List ℤ → Outcome (Result Change Refusal) (List ℤ × List ℤ)
accepts e s q j controls lent =
    outcome (Ok (change e s q j (exact_fresh (run_of e q j) q (controls_after e s j controls)))) (controls_after e s j controls, points_after e s q j controls lent)

unfoldable pub edits : Edit → Shape → ℕ → List ℤ → List ℤ → Outcome (Result Change Refusal) (List ℤ × List ℤ)
edits e s j controls lent =
    let p = plan_of s in
    let q = plan_of (shape_after e s) in
    judge (shape_rows s ++ edit_rows e s p q j controls lent) (refuses Err (controls, lent)) (accepts e s q j controls lent)

-- What the answer tells: the new shape, the first span worked afresh, how many, and how many coordinates of theirs are exact; or the refusal.
abbrev pub told : Result Change Refusal → Told
told (Ok c) = Accepts (pos c.shape.basis ∷ pos c.shape.depth ∷ pos c.shape.count ∷ pos c.first ∷ pos c.fresh ∷ pos c.exact ∷ pos c.shape.parameter ∷ [])
told (Err r) = Refuses r
