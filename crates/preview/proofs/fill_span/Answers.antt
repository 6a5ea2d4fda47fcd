-- The piece that the callee cuts has the span's records for its controls.
use Rattle.std.proofs.Common.{◌+◌, ◌∙◌}
use Rattle.preview.specs.Halving.{control, pieces, span_pieces}
use Rattle.preview.proofs.fill_span.Goals as goal

pub returns : goal.returns
unfolding span_pieces
returns c =
    let x = c.args in
    let l = x.controls.now in
    let r = c.first_record-first.ensures in
    let a = c.control_point.ensures ∙ (λ k. control l (r k)) in
    let b = c.control_point-2.ensures ∙ (λ k. control l (r k + 1)) in
    let d = c.control_point-3.ensures ∙ (λ k. control l (r k + 2)) in
    let e = c.control_point-4.ensures ∙ (λ k. control l (r k + 3)) in
    c.fill_pieces.ensures ∙ (λ k. pieces x.depth (record { a = a k; b = b k; c = d k; d = e k }))
