-- Writing the lines ahead now comes to what writing all of them at first would have.
use Rattle.std.proofs.Common.{◌≡◌, ◌+◌, ◌≤◌, length}
use Rattle.listing.specs.Inner.{pair_lines}
use Rattle.listing.specs.Written.{written}
use Rattle.listing.proofs.Points.{from}
use Rattle.listing.proofs.outline.put_points.Given as goal

abbrev pub invariant-loop-i : goal.invariant-loop-i
invariant-loop-i l =
    (l.end + length (from l.first l.points l.i) ≤ length l.text)
    × (written l.text l.end (from l.first l.points l.i) ≡ written l.fn.text l.at (pair_lines l.first l.points))
