-- The levels left fall at each call.
use Prim.Native.Nat.{◌-◌}
use Rattle.pieces.specs.Tree.{finest}
use Rattle.pieces.proofs.walk.+count_cuts.Given as goal

abbrev pub decreases-count_cuts : goal.decreases-count_cuts
decreases-count_cuts l = finest - l.piece.level
