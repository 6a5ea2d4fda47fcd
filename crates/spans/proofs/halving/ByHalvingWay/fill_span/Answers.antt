-- A span that is ready can be cut to its depth.
use Rattle.curve.specs.Inner.{divisor_of}
use Rattle.spans.proofs.Halves.{ready-cuttable}
use Rattle.spans.proofs.halving.ByHalvingWay.fill_span.Goals as goal

pub fill_pieces-requires-clause-cuttable : goal.fill_pieces-requires-clause-cuttable
fill_pieces-requires-clause-cuttable c =
    let s = c.args.span in
    (ready-cuttable s.depth (divisor_of s.bits) s.x s.ready_x, ready-cuttable s.depth (divisor_of s.bits) s.y s.ready_y)
