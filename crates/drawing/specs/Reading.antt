-- A drawing step's refusals in the paper's order (document 01: 3, 8, 12, then its numbers in order, 6, 7), and the one reading of the call: what it answers and
-- what the lent controls hold afterwards, for every state, step and list. Definitions only.
use Rattle.std.specs.Prelude.{Bool, not, cond, ◌&&◌, ◌||◌, List, [], ◌∷◌, ◌++◌, ℕ, ◌+◌, ◌*◌, ◌%◌, max, leb, ltb, eqb, Float, ℤ, pos, Err, Ok, Result}
use Rattle.std.proofs.lemmas.List.Edits.{sets}
use Rattle.whole.specs.Outcome.{Outcome, outcome, refuses}
use Rattle.doubles.specs.Number.{measure, paper}
use Rattle.shape.specs.Shape.{most_records}
use Rattle.curve.specs.Limits.{beyond, limit}
use Rattle.shape.specs.Refusals.{Row, row, judge, controls_row}
use Rattle.shape.specs.Exactly.{Told, Refuses, Accepts}
use Rattle.drawing.specs.declared.Control.{Control}
use Rattle.drawing.specs.declared.State.{State}
use Rattle.drawing.specs.declared.Step.{Step}
use Rattle.drawing.specs.Drawing.{numbers, opens, added, next, flat}
use Rattle.shape.specs.declared.Refusal.{Refusal}

-- ---- row 3: the count is not 0, 1, 4, .., 64, or 0 while closed

unfoldable pub reached : ℕ → Bool
reached n = eqb n 0 || (leb n most_records && eqb (n % 3) 1)

unfoldable pub miscounted : State → Bool
miscounted s = not (reached s.count) || (eqb s.count 0 && s.closed)

-- ---- row 8: start or current outside limits, where there are any

abbrev pub strays : Control → Bool
strays c = beyond limit c.x || beyond limit c.y

unfoldable pub astray : State → Bool
astray s = not (eqb s.count 0) && (strays s.start || strays s.current)

-- ---- row 12: first step not Move, Move later, or a step after Close

unfoldable pub out_of_turn : State → Bool → Bool
out_of_turn s opening = (eqb s.count 0 && not opening) || ((not (eqb s.count 0) && opening) || s.closed)

abbrev pub state_rows : State → Bool → List Row
state_rows s opening = row (miscounted s) 3 0 ∷ row (astray s) 8 0 ∷ row (out_of_turn s opening) 12 0 ∷ []

-- ---- rows 10 and 11: a number that is no coordinate gives its number of the two, with its index

abbrev pub number_row : ℕ → Float → Row
number_row i x = row (ltb 0 (paper (measure x)).0) (paper (measure x)).0 i

abbrev pub number_rows : ℕ → List Float → List Row
number_rows i [] = []
number_rows i (x ∷ xs) = number_row i x ∷ number_rows (i + 1) xs

-- ---- rows 6 and 7: the step would pass 64; the list is shorter than the old count n or the new count m needs

abbrev pub space_rows : ℕ → ℕ → List ℤ → List Row
space_rows n m controls = row (ltb most_records m) 6 0 ∷ controls_row (max n m) controls ∷ []

-- ---- the call

abbrev pub rows : State → Step → List ℤ → List Row
rows s step controls = state_rows s (opens step) ++ number_rows 0 (numbers step) ++ space_rows s.count (next s step).count controls

-- The records that the step adds are written from record number count on, and all other numbers stay.
abbrev pub accepts : State → Step → List ℤ → Outcome (Result State Refusal) (List ℤ)
accepts s step l = outcome (Ok (next s step)) (sets l (2 * s.count) (flat (added s step)))

unfoldable pub stepped : State → Step → List ℤ → Outcome (Result State Refusal) (List ℤ)
stepped s step l = judge (rows s step l) (refuses Err l) (accepts s step l)

-- What the answer tells: the next state's count, start, current, and 1 where it is closed or 0; or the refusal.
abbrev pub told : Result State Refusal → Told
told (Ok t) = Accepts (pos t.count ∷ t.start.x ∷ t.start.y ∷ t.current.x ∷ t.current.y ∷ pos (cond t.closed 1 0) ∷ [])
told (Err r) = Refuses r

-- The state that the caller has then: the next one, or on a refusal the one that it had.
abbrev pub state_after : State → Result State Refusal → State
state_after s (Ok t) = t
state_after s (Err r) = s
