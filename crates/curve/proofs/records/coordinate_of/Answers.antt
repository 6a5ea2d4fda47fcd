-- A record is two numbers; a 32-bit coordinate keeps its value at 64 bits.
use Prim.Native.Nat.{◌+◌, ◌*◌}
use borrow.Author.Rules.{rules}
use lib.IntN.{pos}
use lib.ListN.{get_or}
use mir.Syntax.{w32}
use mir.Val.{SFits}
use Rattle.whole.proofs.Fit.{widened}
use Rattle.curve.specs.Span.{coordinate}
use Rattle.curve.proofs.records.coordinate_of.Goals as goal

pub returns : goal.returns
unfolding coordinate
returns c =
    let z = get_or c.args.controls.now (2 * c.args.place + c.args.axis) (pos 0) in
    let fits : SFits w32 z = search rules in
    widened z fits
