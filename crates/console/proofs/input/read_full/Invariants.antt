-- The list is filled from its start on.
use Rattle.std.proofs.Common.{◌≡◌, ◌-◌, ◌≤◌, length}
use Rattle.console.proofs.input.read_full.Given as goal

-- the bytes that came stand in the list, which keeps its length
abbrev pub invariant-loop-done : goal.invariant-loop-done
invariant-loop-done g l = (l.done ≤ length l.bytes) × (length l.bytes ≡ length l.fn.bytes)

-- the places that are left
abbrev pub decreases-loop-done : goal.decreases-loop-done
decreases-loop-done g l = length l.fn.bytes - l.done
