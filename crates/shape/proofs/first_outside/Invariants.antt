-- What is left to seek, from the record at hand on, is the whole search.
use Rattle.std.proofs.Common.{◌≡◌, ◌≤◌, ◌-◌}
use Rattle.shape.specs.Refusals.{outside, seek}
use Rattle.shape.proofs.first_outside.Given as goal

abbrev pub invariant-loop-i : goal.invariant-loop-i
invariant-loop-i l = (l.i ≤ l.fn.count) × (seek (outside l.fn.controls) l.i (l.fn.count - l.i) ≡ seek (outside l.fn.controls) 0 l.fn.count)
