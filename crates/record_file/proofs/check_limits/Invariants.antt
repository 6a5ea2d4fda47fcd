-- At each turn the search goes on from where it is.
use Rattle.std.specs.List.{concat}
use Rattle.std.proofs.Common.{◌≡◌, ◌-◌, length}
use Rattle.shape.specs.Refusals.{seek, outside, first_outside}
use Rattle.record_file.specs.Format.{numbers}
use Rattle.record_file.proofs.check_limits.Given as goal

abbrev pub invariant-loop-place : goal.invariant-loop-place
invariant-loop-place l =
    let ns = numbers (concat l.records) (length l.records) in
    seek (outside ns) l.place (length l.records - l.place) ≡ first_outside ns (length l.records)
