-- The cuts left fall at each call.
use Rattle.spans.proofs.halving.+fill_pieces.Given as goal

abbrev pub decreases-fill_pieces : goal.decreases-fill_pieces
decreases-fill_pieces l = l.left
