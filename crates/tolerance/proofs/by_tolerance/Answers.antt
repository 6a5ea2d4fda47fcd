-- A shape that is not sound is refused at once; of a sound one the rest is the plan's.
use mathlib.Core.Path.{◌≡◌, sym, ap, ◌∙◌, subst}
use borrow.Author.Rules.{rules}
use Rattle.std.specs.Prelude.{Err}
use Rattle.whole.specs.Outcome.{outcome}
use Rattle.shape.specs.Sound.{Found}
use Rattle.shape.specs.declared.Shape.{Shape}
use Rattle.tolerance.specs.Reading.{chooses_plan}
use Rattle.tolerance.proofs.Chooses.{chooses-sound, chooses-unsound}
use Rattle.tolerance.proofs.by_tolerance.Goals as goal

pub returns-in_err-sound : goal.returns-in_err-sound
returns-in_err-sound c =
    let a = c.args in
    let r = c.in_err-sound.field-0.0 in
    let out : c.from_residual.result ≡ Err r = search rules in
    ap (λ x. outcome x a.points.now) out
    ∙ sym (chooses-unsound a.shape a.tolerance a.most a.controls.now a.points.now r (subst (Found a.shape) c.in_err-sound.was c.try_from.ensures))

pub returns : goal.returns
returns c =
    let a = c.args in
    let p = c.in_ok-sound.sound.plan in
    let (same, judged) = subst (Found a.shape) c.in_ok-sound.was c.try_from.ensures in
    c.choose_plan.ensures
    ∙ ap (λ (s : Shape). chooses_plan s.count p a.tolerance a.most a.controls.now a.points.now) same
    ∙ sym (chooses-sound a.shape a.tolerance a.most a.controls.now a.points.now p judged)
