-- Each turn adds a number and a space.
use Rattle.std.proofs.Common.{◌≡◌, ◌≤◌, ◌*◌, take}
use Rattle.arrayvec.specs.ArrayVec.{array_vec_len}
use Rattle.listing.proofs.Numbers.{spaced}
use Rattle.listing.proofs.line.numbers_line.Given as goal

abbrev pub invariant-loop-number : goal.invariant-loop-number
invariant-loop-number l = (l.line.items ≡ spaced (take l.number-index l.before)) × (array_vec_len l.line ≤ l.number-index * 21)
