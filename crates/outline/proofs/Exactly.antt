-- "Given exactly when" (document 01, "Refusal numbers"), of the drawing calls: the law of `shape/proofs/Exactly` over the call's table.
use Rattle.std.specs.Prelude.{Err, Ok, Result}
use mathlib.Core.Path.{◌≡◌, refl, sym, ap, ◌∙◌}
use mathlib.Core.List.{List, [], ◌∷◌}
use lib.IntN.{ℤ, pos}
use Rattle.whole.specs.Outcome.{Outcome, outcome, refuses}
use Rattle.shape.specs.declared.Shape.{Shape}
use Rattle.shape.specs.Refusals.{NoRow, plan_of}
use Rattle.shape.specs.Exactly.{Told, number, Exactly}
use Rattle.shape.proofs.Refusals.{judge-none}
use Rattle.shape.proofs.Exactly as any-call
use Rattle.outline.specs.declared.Figures.{Figures}
use Rattle.outline.specs.Outline.{told, figures_of, drawn, draw_rows, accepts, draws}
use Rattle.shape.specs.declared.Refusal.{Refusal}

abbrev tells : Outcome (Result Figures Refusal) (List ℤ) → Told
tells o = told o.answer

module _ (s : Shape) (controls lent : List ℤ) where
  abbrev given : List ℤ
  given = pos (figures_of (plan_of s) controls).points ∷ pos (figures_of (plan_of s) controls).exact ∷ []

  pub exactly : Exactly (draw_rows s controls lent) (tells (draws s controls lent)) lent (draws s controls lent).held given (drawn (plan_of s) controls lent)
  unfolding draws
  exactly =
      any-call.exactly tells (draw_rows s controls lent) (refuses Err lent) (accepts (plan_of s) controls lent) given (λ r. refl) refl (λ o. o.held) lent (λ r. refl) refl

  -- whatever figures are answered and whatever the list then holds
  pub done_none : (fs : Figures) (held : List ℤ) → draws s controls lent ≡ outcome (Ok fs) held → NoRow (draw_rows s controls lent)
  done_none fs held e = exactly.accepted.0 (ap (λ o. number (tells o)) e)

  pub none-drawn : NoRow (draw_rows s controls lent) → draws s controls lent ≡ accepts (plan_of s) controls lent
  unfolding draws
  none-drawn none = judge-none (draw_rows s controls lent) (refuses Err lent) (accepts (plan_of s) controls lent) none

  -- the figures are the outline's
  pub done-figures : (fs : Figures) (held : List ℤ) → draws s controls lent ≡ outcome (Ok fs) held → figures_of (plan_of s) controls ≡ fs
  done-figures fs held e = ap (λ o. figures_in o.answer) (sym (none-drawn (done_none fs held e)) ∙ e)
    where
      figures_in : Result Figures Refusal → Figures
      figures_in (Ok f) = f
      figures_in (Err r) = figures_of (plan_of s) controls
