-- A shape that is not sound is refused at once; of a sound one the rest is the plan's.
use mathlib.Core.Path.{◌≡◌, sym, ◌∙◌, ap, subst}
use borrow.Author.Rules.{rules}
use Rattle.std.specs.Prelude.{Err}
use Rattle.whole.specs.Outcome.{outcome}
use Rattle.shape.specs.Sound.{Found}
use Rattle.shape.specs.declared.Shape.{Shape}
use Rattle.outline.specs.Outline.{draws_plan}
use Rattle.outline.proofs.Draws.{draws-sound, draws-unsound}
use Rattle.outline.proofs.draw.Goals as goal

pub returns-in_err-sound : goal.returns-in_err-sound
returns-in_err-sound g c =
    let a = c.args in
    let r = c.in_err-sound.field-0.0 in
    let out : c.from_residual.result ≡ Err r = search rules in
    ap (λ x. outcome x a.points.now) out ∙ sym (draws-unsound a.shape r (subst (Found a.shape) c.in_err-sound.was c.try_from.ensures) a.controls.now a.points.now)

pub returns : goal.returns
returns g c =
    let a = c.args in
    let p = c.in_ok-sound.sound.plan in
    let (same, judged) = subst (Found a.shape) c.in_ok-sound.was c.try_from.ensures in
    c.draw_plan.ensures
    ∙ ap (λ (s : Shape). draws_plan s.count p a.controls.now a.points.now) same
    ∙ sym (draws-sound a.shape p judged a.controls.now a.points.now)
