-- What is left to write, written now, is the whole.
use Rattle.std.specs.List.{concat}
use Rattle.std.proofs.Common.{◌≡◌, ◌*◌, ◌-◌, length}
use Rattle.std.proofs.lemmas.List.Edits.{sets}
use Rattle.curve.specs.Tab.{tab}
use Rattle.record_file.specs.Format.{number, numbers}
use Rattle.record_file.proofs.write_numbers.Given as goal

abbrev pub invariant-loop-i : goal.invariant-loop-i
invariant-loop-i l = sets l.list (2 * l.i) (tab (number (concat l.records)) (2 * l.i) (2 * length l.records - 2 * l.i)) ≡ sets l.initial.list 0 (numbers (concat l.records) (length l.records))
