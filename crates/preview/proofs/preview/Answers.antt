-- The shape's rows decide, or leave the rest of the table to the callee, whose plan is the shape's.
use mathlib.Core.Path.{◌≡◌, sym, ap, ◌∙◌, subst}
use borrow.Author.Rules.{rules}
use lib.ListN.{length}
use Rattle.std.specs.Prelude.{Err}
use Rattle.whole.specs.Outcome.{outcome, refuses}
use Rattle.shape.specs.Refusals.{judge, plan_of}
use Rattle.shape.specs.Sound.{Found}
use Rattle.shape.proofs.Refusals.{sound, unsound, sound-plan}
use Rattle.preview.specs.Preview.{later_rows, accepts, previewing}
use Rattle.preview.proofs.preview.Goals as goal

pub returns-in_err-sound : goal.returns-in_err-sound
unfolding previewing
returns-in_err-sound c =
    let a = c.args in
    let s = a.shape in
    let r = c.in_err-sound.field-0.0 in
    let out : c.from_residual.result ≡ Err r = search rules in
    ap (λ x. outcome x a.points.now) out
    ∙ sym
    (unsound s r (subst (Found s) c.in_err-sound.was c.try_from.ensures)
    (later_rows s (plan_of s) a.controls.now (length a.points.now)) (refuses Err a.points.now) (accepts (plan_of s) a.controls.now a.points.now))

pub returns : goal.returns
unfolding previewing
returns c =
    let a = c.args in
    let s = a.shape in
    let n = length a.points.now in
    let p = c.in_ok-sound.sound.plan in
    let (same, judged) = subst (Found s) c.in_ok-sound.was c.try_from.ensures in
    let plan = sound-plan s p judged in
    c.preview_plan.ensures
    ∙ (λ i. judge (later_rows (same i) (plan i) a.controls.now n) (refuses Err a.points.now) (accepts (plan i) a.controls.now a.points.now))
    ∙ sym (sound s p judged (later_rows s (plan_of s) a.controls.now n) (refuses Err a.points.now) (accepts (plan_of s) a.controls.now a.points.now))
