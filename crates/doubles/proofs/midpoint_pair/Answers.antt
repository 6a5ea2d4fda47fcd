-- Each half is a midpoint.
use Rattle.doubles.specs.Midpoint.{mid_pair}
use Rattle.doubles.proofs.midpoint_pair.Goals as goal

pub returns : goal.returns
unfolding mid_pair
returns c = λ i. record { x = c.midpoint.ensures i; y = c.midpoint-2.ensures i }
