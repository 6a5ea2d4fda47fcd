-- The body is the definition, with 2.0 by its bit pattern.
use Rattle.std.proofs.Common.{◌≡◌, refl, ap}
use lib.Ieee.{binary64, add, div, of_bits}
use Rattle.doubles.specs.Midpoint.{two, mid}
use Rattle.doubles.proofs.midpoint.Goals as goal

two_is : of_bits binary64 0x4000_0000_0000_0000 ≡ two
unfolding of_bits
two_is = refl

pub returns : goal.returns
unfolding mid
returns c = ap (div binary64 (add binary64 c.args.a c.args.b)) two_is
