-- Each turn hands on the next part, which is counted.
use Rattle.std.proofs.Common.{◌≡◌, ◌*◌, ◌≤◌, length}
use Rattle.file_list.specs.Parts.{most_part, part_text, joined}
use Rattle.list_output.proofs.write_parts.Given as goal

abbrev pub invariant-loop-part : goal.invariant-loop-part
invariant-loop-part g l =
    record {
      room : length l.text ≡ most_part;
      counted : l.count ≡ length (joined (part_text l.reading l.controls) 0 l.part);
      few : l.count ≤ l.part * most_part;
    }
