-- What the checks found decides the edit.
use Rattle.std.specs.Prelude.{Result, Err}
use mathlib.Core.Path.{◌≡◌, sym, ap, ◌∙◌, subst}
use borrow.Author.Rules.{rules}
use Rattle.whole.specs.Outcome.{outcome}
use Rattle.edit.specs.Inner.{Vetted}
use Rattle.shape.specs.declared.Plan.{Plan}
use Rattle.shape.specs.declared.Refusal.{Refusal}
use Rattle.edit.proofs.edit_shape.Goals as goal
use Rattle.edit.proofs.edit_shape.Goals.{After-check_edit}

-- for the answer that is told
found : (c : After-check_edit) (r : Result Plan Refusal) → c.check_edit.result ≡ r
    → Vetted c.args.edit c.args.shape c.args.place c.args.controls.now c.args.points.now r
found c r is = let a = c.args in subst (Vetted a.edit a.shape a.place a.controls.now a.points.now) is c.check_edit.ensures

pub edit_lists-requires : goal.edit_lists-requires
edit_lists-requires c = (found c.before.before.before.before _ c.in_ok-plan.was).0

pub returns-in_err-plan : goal.returns-in_err-plan
returns-in_err-plan c =
    let a = c.args in
    let r = c.in_err-plan.field-0.0 in
    let out : c.from_residual.result ≡ Err r = search rules in
    ap (λ x. outcome x (a.controls.now, a.points.now)) out ∙ sym (found c.before.before.before _ c.in_err-plan.was)

pub returns : goal.returns
returns c = c.edit_lists.ensures ∙ sym (found c.before.before.before.before.before.before.before _ c.in_ok-plan.was).1
