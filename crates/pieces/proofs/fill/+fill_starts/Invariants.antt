-- The levels left fall at each call.
use Prim.Native.Nat.{◌-◌}
use Rattle.pieces.specs.Tree.{finest}
use Rattle.pieces.proofs.fill.+fill_starts.Given as goal

abbrev pub decreases-fill_starts : goal.decreases-fill_starts
decreases-fill_starts l = finest - l.piece.level
