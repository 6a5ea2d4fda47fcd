-- The first part is the first line, and the part after span i - 1's start is span i - 1's.
use Prim.Native.Nat.{ℕ}
use mathlib.Core.Path.{sym, ap, ◌∙◌}
use Rattle.listing.specs.Written.{written}
use Rattle.listing.specs.Listing.{heading_text}
use Rattle.file_list.specs.Parts.{outline_part}
use Rattle.file_list.proofs.EachPart.{span-part, past-parts, no_text}
use Rattle.file_list.proofs.parts.put_outline_part.Goals as goal

pub returns-then-part-eq0 : goal.returns-then-part-eq0
returns-then-part-eq0 c =
    let a = c.args in
    c.list_heading.ensures
    ∙ ap (λ (n : ℕ). written a.text.now 0 (heading_text a.sound.shape.basis a.sound.shape.depth a.sound.plan.spans n)) c.points.ensures
    ∙ ap (λ (i : ℕ). written a.text.now 0 (outline_part a.sound.shape a.sound.plan a.controls.now i)) (sym c.if-part-eq0.true)

pub returns-then-span-plan : goal.returns-then-span-plan
returns-then-span-plan c =
    let a = c.args in
    c.put_span.ensures ∙ ap (written a.text.now 0) (sym (span-part a.sound.shape a.sound.plan a.controls.now a.part c.if-part-eq0.false c.if-span-plan.true))

pub returns-else-span-plan : goal.returns-else-span-plan
returns-else-span-plan c = let a = c.args in no_text a.text.now _ (past-parts a.sound.shape a.sound.plan a.controls.now a.part c.if-part-eq0.false c.if-span-plan.false)
