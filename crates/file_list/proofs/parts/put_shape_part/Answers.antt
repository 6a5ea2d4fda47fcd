-- A part is that of what judging the shape came to.
use mathlib.Core.Path.{sym, ap, ◌∙◌, subst}
use Rattle.shape.specs.declared.Shape.{Shape}
use Rattle.shape.specs.Sound.{Found}
use Rattle.listing.specs.Written.{written}
use Rattle.file_list.specs.Parts.{outline_part, shape_part}
use Rattle.file_list.proofs.parts.put_shape_part.Goals as goal

pub returns-in-Err : goal.returns-in-Err
returns-in-Err c =
    let a = c.args in
    let judged = subst (Found a.shape) c.in-Err.is c.try_from.ensures in
    c.put_only.ensures ∙ ap (λ j. written a.text.now 0 (shape_part a.shape a.controls.now j a.part)) (sym judged)

pub returns-in-Ok : goal.returns-in-Ok
returns-in-Ok c =
    let a = c.args in
    let p = c.in-Ok.sound.plan in
    let (same, judged) = subst (Found a.shape) c.in-Ok.is c.try_from.ensures in
    c.put_outline_part.ensures
    ∙ ap (λ (s : Shape). written a.text.now 0 (outline_part s p a.controls.now a.part)) same
    ∙ ap (λ j. written a.text.now 0 (shape_part a.shape a.controls.now j a.part)) (sym judged)
