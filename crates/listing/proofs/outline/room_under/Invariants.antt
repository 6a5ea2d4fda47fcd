-- What is left, and what the lines ahead take of it.
use Rattle.std.proofs.Common.{◌≡◌, ◌+◌, length}
use Rattle.listing.specs.Inner.{pair_lines}
use Rattle.listing.proofs.Points.{from}
use Rattle.listing.proofs.outline.room_under.Given as goal

-- what is left lacks as much for the lines ahead as the room did for all
abbrev pub invariant-loop-i : goal.invariant-loop-i
invariant-loop-i l = l.left + length (pair_lines l.first l.points) ≡ l.room + length (from l.first l.points l.i)
