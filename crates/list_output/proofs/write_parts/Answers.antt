-- Each turn hands on the next part, which is counted.
use Rattle.std.proofs.Common.{◌≡◌, ℕ, ◌+◌, ◌≤◌, List, length, arith, refl, ap, ◌∙◌}
use Rattle.whole.specs.Outcome.{Outcome, outcome}
use Rattle.file_list.specs.Files.{writes}
use Rattle.file_list.specs.Parts.{most_part, part_text, joined}
use Rattle.file_list.proofs.Texts.{stands}
use Rattle.file_list.proofs.Joined.{joined-next, parts-few}
use Rattle.list_output.proofs.write_parts.Goals as goal

-- a turn's answer is the length of its part, which is small
part_length : (text part held : List ℕ) (n : ℕ) → length text ≡ most_part → length part ≤ most_part → outcome n held ≡ writes part text → (n ≡ length part) × (n ≤ most_part)
part_length text part held n long fits is =
    let counts = ap (λ (o : Outcome ℕ (List ℕ)). o.answer) is ∙ (stands text part (omega (arith, fits, long))).counts in
    (counts, omega (arith, counts, fits))

pub loop-part-init : goal.loop-part-init
unfolding joined
loop-part-init g c = record { room = refl; counted = refl; few = omega arith }

pub overflow_add-count : goal.overflow_add-count
overflow_add-count g c =
    let l = c.loop-part in
    let part = part_text c.args.reading c.args.controls.now in
    let turn = part_length l.text (part l.part) c.list_part-end.new.text c.list_part-end.result l.invariant.room (c.requires l.part) c.list_part-end.ensures.text_after in
    omega (arith, l.invariant.few, turn, c.loop-part-test.true, c.parts_of-part-end.ensures, parts-few c.args.reading)

pub loop-part-preserved : goal.loop-part-preserved
loop-part-preserved g c =
    let l = c.loop-part in
    let part = part_text c.args.reading c.args.controls.now in
    let here : 0 + l.part ≡ l.part = omega arith in
    let turn = part_length l.text (part l.part) c.list_part-end.new.text c.list_part-end.result l.invariant.room (c.requires l.part) c.list_part-end.ensures.text_after in
    record {
      room = omega (arith, l.invariant.room, c.list_part-end.auto.text);
      counted = omega (arith, l.invariant.counted, joined-next part l.part 0, ap (λ (n : ℕ). length (part n)) here, turn.0);
      few = omega (arith, l.invariant.few, turn.1);
    }
