-- For contracts inside the project alone: no public contract uses what is here.
-- The parts of a step's table, each as the private function that works it answers. What a step does is said by `Reading` alone. Definitions only.
use Rattle.std.specs.Prelude.{Bool, List, [], ◌∷◌, ◌++◌, ℕ, ◌+◌, ◌*◌, Float, ℤ, length, Err, Ok, Result}
use Rattle.std.proofs.lemmas.List.Edits.{sets}
use Rattle.whole.specs.Outcome.{Outcome, outcome, refuses}
use Rattle.doubles.specs.Number.{measure, paper}
use Rattle.shape.specs.Refusals.{judge}
use Rattle.drawing.specs.declared.Control.{Control}
use Rattle.drawing.specs.declared.State.{State}
use Rattle.drawing.specs.declared.Step.{Step}
use Rattle.drawing.specs.Drawing.{numbers, at, grown, next, flat}
use Rattle.drawing.specs.Reading.{state_rows, number_row, number_rows, space_rows, accepts}
use Rattle.shape.specs.declared.Refusal.{Refusal}

-- Rows 3, 8, 12.
unfoldable pub judge_state : State → Bool → Result (Unit {0}) Refusal
judge_state s opening = judge (state_rows s opening) Err (Ok tt)

-- Rows 10 and 11, of one number and of the two of a control.
unfoldable pub judge_number : ℕ → Float → Result ℤ Refusal
judge_number i x = judge (number_row i x ∷ []) Err (Ok (paper (measure x)).1)

unfoldable pub judge_control : ℕ → Float → Float → Result Control Refusal
judge_control i x y = judge (number_rows i (x ∷ y ∷ [])) Err (Ok (at x y))

-- Rows 6 and 7, and the records written: what is left of a call once its records are known.
abbrev pub extended : State → List Control → Control → Bool → List ℤ → Outcome (Result State Refusal) (List ℤ)
extended s cs start closed l = outcome (Ok (grown s cs start closed)) (sets l (2 * s.count) (flat cs))

unfoldable pub extends : State → List Control → Control → Bool → List ℤ → Outcome (Result State Refusal) (List ℤ)
extends s cs start closed l = judge (space_rows s.count (s.count + length cs) l) (refuses Err l) (extended s cs start closed l)

-- What is left of a call once its state was found fit.
unfoldable pub goes_on : State → Step → List ℤ → Outcome (Result State Refusal) (List ℤ)
goes_on s step l = judge (number_rows 0 (numbers step) ++ space_rows s.count (next s step).count l) (refuses Err l) (accepts s step l)
