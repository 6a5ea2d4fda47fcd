-- The conversion of a whole number rounds it over 1, which is 2^0.
use Rattle.std.proofs.Common.{ap, ◌∙◌, w32}
use lib.Ieee.{binary64, of_int}
use Rattle.whole.proofs.Fit.{kept-is}
use Rattle.doubles.proofs.Exact.{dyadic-whole}
use Rattle.doubles.proofs.double_of.Goals as goal

pub returns : goal.returns
returns c = let z = c.args.z in c.from.ensures ∙ ap (of_int binary64) (kept-is w32 z c.ranges.z) ∙ dyadic-whole z
