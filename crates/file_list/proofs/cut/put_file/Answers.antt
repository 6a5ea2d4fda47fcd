-- The lines are those of what reading came to.
use mathlib.Core.Path.{sym, ap, ◌∙◌}
use Rattle.whole.specs.Outcome.{outcome}
use Rattle.listing.specs.Written.{written}
use Rattle.file_list.specs.Files.{by_tolerance}
use Rattle.file_list.proofs.Texts.{unread-text, read-text}
use Rattle.file_list.proofs.cut.put_file.Goals as goal

pub returns-in-Err : goal.returns-in-Err
returns-in-Err c =
    let a = c.args in
    let got = c.read in
    c.put_refusal.ensures
    ∙ ap (written a.text.now 0) (sym (unread-text (by_tolerance a.tolerance a.most) a.file.now c.in-Err.refusal got.new.controls (sym got.ensures ∙ ap (λ r. outcome r got.new.controls) c.in-Err.is)))

pub returns-in-Ok : goal.returns-in-Ok
returns-in-Ok c =
    let a = c.args in
    let got = c.read in
    c.put_shape.ensures
    ∙ ap (written a.text.now 0) (sym (read-text (by_tolerance a.tolerance a.most) a.file.now c.in-Ok.shape got.new.controls (sym got.ensures ∙ ap (λ r. outcome r got.new.controls) c.in-Ok.is)))
