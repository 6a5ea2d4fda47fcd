-- None left: the piece's first point is its one point. Else the halves, one after the other, are the whole.
use Rattle.std.proofs.Common.{◌-◌, ◌<◌, ◌++◌, sym, ap, ◌∙◌, arith}
use Rattle.curve.proofs.Powers.{half-width, shift_one}
use Rattle.preview.specs.Halving.{pieces}
use Rattle.preview.proofs.Pieces.{halves}
use Rattle.preview.proofs.+fill_pieces.Goals as goal

pub returns-then-left-eq0 : goal.returns-then-left-eq0
unfolding pieces
returns-then-left-eq0 t c = c.put_point.ensures ∙ ap (λ n. pieces n c.args.piece) (sym c.if-left-eq0.true)

pub fill_pieces-requires : goal.fill_pieces-requires
fill_pieces-requires t c =
    let some : 0 < c.args.left = omega arith in
    (omega (arith, c.decreases), (omega arith, omega (arith, c.split_at_mut-front.ensures.front_len, shift_one c.args.left (omega arith), half-width c.args.left some)))

pub fill_pieces-requires-2 : goal.fill_pieces-requires-2
fill_pieces-requires-2 t c =
    let some : 0 < c.args.left = omega arith in
    (omega (arith, c.decreases), (omega arith, omega (arith, c.split_at_mut-front.ensures.back_len, shift_one c.args.left (omega arith), half-width c.args.left some)))

pub returns : goal.returns
returns t c =
    let left = c.args.left - 1 in
    (λ k. c.fill_pieces.ensures k ++ c.fill_pieces-2.ensures k)
    ∙ (λ k. pieces left (c.halves.ensures k).0 ++ pieces left (c.halves.ensures k).1)
    ∙ halves c.args.left c.args.piece (omega arith)
