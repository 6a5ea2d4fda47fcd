-- A shape that is not sound has the line of its refusal; of a sound one the lines are its outline's.
use mathlib.Core.Path.{sym, ap, ◌∙◌, subst}
use Rattle.shape.specs.declared.Shape.{Shape}
use Rattle.shape.specs.Sound.{Found}
use Rattle.listing.specs.Written.{written}
use Rattle.file_list.specs.Files.{by_tolerance}
use Rattle.file_list.proofs.Texts.{unsound-cut}
use Rattle.file_list.proofs.cut.put_shape.Goals as goal

pub returns-in-Err : goal.returns-in-Err
returns-in-Err c =
    let a = c.args in
    let judged = subst (Found a.shape) c.in-Err.is c.try_from.ensures in
    c.put_refusal.ensures ∙ ap (written a.text.now 0) (sym (unsound-cut a.tolerance a.most a.shape a.controls.now c.in-Err.refusal judged))

pub returns-in-Ok : goal.returns-in-Ok
returns-in-Ok c =
    let a = c.args in
    let (same, _) = subst (Found a.shape) c.in-Ok.is c.try_from.ensures in
    c.put_chosen.ensures ∙ ap (λ (s : Shape). written a.text.now 0 (by_tolerance a.tolerance a.most s a.controls.now)) same
