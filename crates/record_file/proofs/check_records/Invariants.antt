-- At each turn the rows still to be looked at decide as the whole table does.
use Rattle.std.specs.Prelude.{Err, Ok, Result}
use Rattle.std.specs.List.{concat}
use Rattle.std.proofs.Common.{◌≡◌, ◌-◌, length}
use Rattle.shape.specs.declared.Refusal.{Refusal}
use Rattle.shape.specs.Refusals.{judge}
use Rattle.record_file.specs.Rows.{record_rows}
use Rattle.record_file.proofs.check_records.Given as goal

abbrev pub invariant-loop-place : goal.invariant-loop-place
invariant-loop-place l = ◌≡◌ {A = Result (Unit {0}) Refusal} (judge (record_rows (concat l.records) l.place (length l.records - l.place)) Err (Ok tt)) (judge (record_rows (concat l.records) 0 (length l.records)) Err (Ok tt))
