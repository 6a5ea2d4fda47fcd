-- "Given exactly when" (document 01, "Refusal numbers"), of the call: the law of `shape/proofs/Exactly` over its table.
use Rattle.std.specs.Prelude.{Err, Ok, Result}
use mathlib.Core.Path.{◌≡◌, refl, sym, ap, ◌∙◌}
use mathlib.Core.List.{List, [], ◌∷◌}
use Prim.Native.Nat.{ℕ}
use lib.IntN.{ℤ, pos}
use Rattle.whole.specs.Outcome.{Outcome, outcome, refuses}
use Rattle.shape.specs.declared.Shape.{Shape}
use Rattle.shape.specs.Refusals.{NoRow, plan_of}
use Rattle.shape.specs.Exactly.{Told, number, Exactly}
use Rattle.shape.proofs.Refusals.{judge-none}
use Rattle.shape.proofs.Exactly as any-call
use Rattle.tolerance.specs.declared.Steps.{Steps}
use Rattle.tolerance.specs.Reading.{told, steps_of, chosen, choose_rows, accepts, chooses}
use Rattle.shape.specs.declared.Refusal.{Refusal}

abbrev tells : Outcome (Result Steps Refusal) (List ℤ) → Told
tells o = told o.answer

module _ (s : Shape) (tolerance most : ℕ) (controls lent : List ℤ) where
  abbrev given : List ℤ
  given = let f = steps_of (plan_of s) tolerance controls in pos f.points ∷ pos f.cuts ∷ pos f.exact ∷ []

  pub exactly : Exactly (choose_rows s tolerance most controls lent) (tells (chooses s tolerance most controls lent)) lent (chooses s tolerance most controls lent).held given (chosen (plan_of s) tolerance controls lent)
  unfolding chooses
  exactly =
      any-call.exactly tells (choose_rows s tolerance most controls lent) (refuses Err lent) (accepts (plan_of s) tolerance controls lent) given (λ r. refl) refl (λ o. o.held) lent (λ r. refl) refl

  pub none-chosen : NoRow (choose_rows s tolerance most controls lent) → chooses s tolerance most controls lent ≡ accepts (plan_of s) tolerance controls lent
  unfolding chooses
  none-chosen none = judge-none (choose_rows s tolerance most controls lent) (refuses Err lent) (accepts (plan_of s) tolerance controls lent) none

  -- whatever figures are answered and whatever the list then holds: no row holds, the figures are the trees', and the list is the one with the chosen points
  module _ (f : Steps) (held : List ℤ) (done : chooses s tolerance most controls lent ≡ outcome (Ok f) held) where
    pub done_none : NoRow (choose_rows s tolerance most controls lent)
    done_none = exactly.accepted.0 (ap (λ o. number (tells o)) done)

    accepted : accepts (plan_of s) tolerance controls lent ≡ outcome (Ok f) held
    accepted = sym (none-chosen done_none) ∙ done

    pub done-steps : steps_of (plan_of s) tolerance controls ≡ f
    done-steps = ap (λ o. steps_in o.answer) accepted
      where
        steps_in : Result Steps Refusal → Steps
        steps_in (Ok g) = g
        steps_in (Err r) = steps_of (plan_of s) tolerance controls

    pub done_held : chosen (plan_of s) tolerance controls lent ≡ held
    done_held = ap (λ o. o.held) accepted
