-- The lines are those of the copied records; where those are too few, there are none.
use mathlib.Core.List.{List}
use mathlib.Core.Path.{ap, ◌∙◌, subst}
use lib.IntN.{ℤ}
use Rattle.listing.specs.Written.{written}
use Rattle.file_list.specs.Inner.{Copied}
use Rattle.file_list.specs.Parts.{own_records, records_text}
use Rattle.file_list.proofs.EachPart.{too_few, no_text}
use Rattle.file_list.proofs.parts.put_span.Goals as goal

pub returns-in-Some : goal.returns-in-Some
returns-in-Some c =
    let a = c.args in
    c.put_lines.ensures
    ∙ ap (λ (r : List ℤ). written a.text.now 0 (records_text a.sound.shape a.sound.plan r a.span)) (subst (Copied a.sound.plan.basis a.controls.now a.span) c.in-Some.is c.own_records.ensures)

pub returns-in-None : goal.returns-in-None
returns-in-None c =
    let a = c.args in
    no_text a.text.now _ (too_few a.sound.shape a.sound.plan a.span (own_records a.sound.plan.basis a.controls.now a.span) (subst (Copied a.sound.plan.basis a.controls.now a.span) c.in-None.is c.own_records.ensures))
