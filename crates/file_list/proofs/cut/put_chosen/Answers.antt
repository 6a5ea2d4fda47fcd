-- The lines are those of what choosing came to.
use Rattle.std.specs.Prelude.{Err}
use mathlib.Core.Path.{sym, ap, ◌∙◌}
use Prim.Native.Nat.{ℕ}
use Rattle.whole.specs.Outcome.{outcome}
use Rattle.shape.proofs.Refusals.{good-spans}
use Rattle.listing.specs.Listing.{listed_chosen}
use Rattle.listing.specs.Written.{written}
use Rattle.file_list.proofs.Texts.{cut-then, listed-cut}
use Rattle.file_list.proofs.cut.put_chosen.Goals as goal

pub returns-in-Err : goal.returns-in-Err
returns-in-Err c =
    let a = c.args in
    let chose = c.by_tolerance in
    c.put_refusal.ensures
    ∙ ap (written a.text.now 0)
    (sym (cut-then a.tolerance a.most a.sound.shape a.controls.now (outcome (Err c.in-Err.refusal) chose.new.points) (sym chose.ensures ∙ ap (λ r. outcome r chose.new.points) c.in-Err.is)))

pub returns-in-Ok : goal.returns-in-Ok
returns-in-Ok c =
    let a = c.args in
    let chose = c.by_tolerance in
    c.list_chosen.ensures
    ∙ ap (λ (m : ℕ). listed_chosen a.text.now a.sound.shape.basis a.tolerance m chose.new.points c.in-Ok.steps.points c.in-Ok.steps.cuts) (good-spans a.sound.shape a.sound.plan a.sound.good)
    ∙ listed-cut a.tolerance a.most a.sound.shape a.controls.now c.in-Ok.steps chose.new.points a.text.now (sym chose.ensures ∙ ap (λ r. outcome r chose.new.points) c.in-Ok.is)
