-- The count is that of the text that was put.
use mathlib.Core.Path.{sym, ap, ◌∙◌, subst}
use Prim.Native.Nat.{ℕ}
use Rattle.whole.specs.Outcome.{outcome}
use Rattle.listing.specs.Written.{Within}
use Rattle.file_list.specs.Parts.{part_text}
use Rattle.file_list.proofs.Texts.{count-within, counted-text}
use Rattle.file_list.proofs.parts.list_part.Goals as goal

pub returns-clause-within : goal.returns-clause-within
returns-clause-within c =
    let a = c.args in
    let put = c.put_part in
    let held = put.new.text in
    subst (λ (n : ℕ). Within n held) (sym c.count_of.ensures) (count-within a.text.now (part_text a.reading a.controls.now a.part) put.result held put.ensures)

pub returns-clause-text_after : goal.returns-clause-text_after
returns-clause-text_after c =
    let a = c.args in
    let put = c.put_part in
    let held = put.new.text in
    ap (λ (n : ℕ). outcome n held) c.count_of.ensures ∙ counted-text a.text.now (part_text a.reading a.controls.now a.part) put.result held put.ensures
