-- Each number is a coordinate as a double, and nothing of 32 bits is lost on the way.
use Rattle.std.proofs.Common.{rules}
use native.Mathlib.Nat.{add-zero}
use Rattle.curve.specs.Span.{coordinate}
use Rattle.preview.specs.Halving.{control}
use Rattle.preview.proofs.control_point.Goals as goal

pub returns : goal.returns
unfolding control coordinate
returns c = search (rules, add-zero)
