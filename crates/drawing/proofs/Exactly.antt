-- "Given exactly when" (document 01, "Refusal numbers"), of the drawing steps: the law of `shape/proofs/Exactly` over the step's table.
use Rattle.std.specs.Prelude.{Err, Ok, Result}
use mathlib.Core.Path.{◌≡◌, refl, ap}
use mathlib.Core.Bool.{Bool, true, false, not, ◌||◌}
use mathlib.Core.List.{List, [], ◌∷◌}
use Prim.Native.Nat.{ℕ, ◌+◌}
use lib.Dec.{ltb}
use lib.Ieee.{Float}
use lib.IntN.{ℤ}
use Rattle.whole.specs.Outcome.{Outcome, outcome, refuses}
use Rattle.doubles.specs.Number.{measure, paper}
use Rattle.shape.specs.Refusals.{NoRow}
use Rattle.shape.specs.Exactly.{Told, number, values, Exactly}
use Rattle.shape.proofs.Refusals.{judge-none}
use Rattle.shape.proofs.Exactly as any-call
use Rattle.shape.proofs.Exactly.{numbered, numbered-append}
use Rattle.drawing.specs.declared.State.{State}
use Rattle.drawing.specs.declared.Step.{Step}
use Rattle.drawing.specs.Drawing.{numbers, next}
use Rattle.drawing.specs.Reading.{number_rows, space_rows, rows, told, state_after, accepts, stepped}
use Rattle.shape.specs.declared.Refusal.{Refusal}

abbrev tells : Outcome (Result State Refusal) (List ℤ) → Told
tells o = told o.answer

-- The state that the caller has, and the lent controls.
abbrev lent : State → Outcome (Result State Refusal) (List ℤ) → State × List ℤ
lent s o = (state_after s o.answer, o.held)

-- a number's row holds where what it would give is above 0
all-numbered : (i : ℕ) (xs : List Float) → numbered (number_rows i xs) ≡ true
all-numbered i [] = refl
all-numbered i (x ∷ xs) = simp (here (ltb 0 (paper (measure x)).0), all-numbered (i + 1) xs)
  where
    here : (t : Bool) → (t || not t) ≡ true
    here true = refl
    here false = refl

module _ (s : State) (step : Step) (l : List ℤ) where
  abbrev done : Outcome (Result State Refusal) (List ℤ)
  done = accepts s step l

  pub exactly : Exactly (rows s step l) (tells (stepped s step l)) (s, l) (lent s (stepped s step l)) (values (tells done)) (lent s done)
  unfolding stepped
  exactly =
      any-call.exactly tells (rows s step l) (refuses Err l) done (values (tells done)) (λ r. refl) refl (lent s) (s, l) (λ r. refl)
      (numbered-append (number_rows 0 (numbers step)) (space_rows s.count (next s step).count l) (all-numbered 0 (numbers step)) refl)

  -- whatever next state is answered and whatever the list then holds
  pub next-none : (t : State) (m : List ℤ) → stepped s step l ≡ outcome (Ok t) m → NoRow (rows s step l)
  next-none t m e = exactly.accepted.0 (ap (λ o. number (tells o)) e)

  pub none-next : NoRow (rows s step l) → stepped s step l ≡ accepts s step l
  unfolding stepped
  none-next none = judge-none (rows s step l) (refuses Err l) (accepts s step l) none
