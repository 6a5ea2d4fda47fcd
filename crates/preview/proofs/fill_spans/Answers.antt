-- A turn writes the next span, and after the last its end is left.
use Rattle.std.proofs.Common.{◌≡◌, ℕ, ◌+◌, ◌*◌, ◌-◌, ◌^◌, ◌%◌, ◌<◌, ap, ◌∙◌, arith}
use Rattle.std.proofs.lemmas.List.Edits.{sets}
use borrow.Rule.Slice.PartMut.{put_mid}
use Rattle.curve.specs.declared.Basis.TheVariants.{Bezier}
use Rattle.curve.specs.Span.{first_record}
use Rattle.preview.specs.Halving.{two, control, halved, span_pieces}
use Rattle.preview.proofs.Spans.{shift_two, points-are, records-before, next_start, starts-inside, length-span, part-written, span-step, end-written}
use Rattle.preview.proofs.fill_spans.Goals as goal

-- where span s starts, by the width as it is shifted
start-at : (s k : ℕ) → k < 63 → s * (2 * 2 ^ k % 2 ^ 64) ≡ 2 * (s * 2 ^ k)
start-at s k h = omega (arith, ap (λ (n : ℕ). s * n) (shift_two k h))

pub slice_bounds-fill_span-end : goal.slice_bounds-fill_span-end
slice_bounds-fill_span-end c =
    let a = c.args in
    let s = c.loop-s.s in
    omega (arith, start-at s a.depth (omega arith), shift_two a.depth (omega arith), points-are a.depth a.spans, starts-inside s a.spans a.depth (omega arith))

pub fill_span-requires-clause-held : goal.fill_span-requires-clause-held
fill_span-requires-clause-held c = omega (arith, records-before c.loop-s.s c.args.spans (omega arith))

pub loop-s-preserved : goal.loop-s-preserved
loop-s-preserved c =
    let a = c.args in
    let l = c.loop-s in
    let k = a.depth in
    let w = 2 * 2 ^ k % 2 ^ 64 in
    let wide = shift_two k (omega arith) in
    let span = span_pieces a.controls.now k l.s in
    let rest = halved a.controls.now k (l.s + 1) (a.spans - (l.s + 1)) in
    let next : 2 * ((l.s + 1) * 2 ^ k) ≡ 2 * (l.s * 2 ^ k) + 2 * 2 ^ k = omega (arith, next_start l.s k) in
    (λ i. sets (put_mid (l.s * w) (l.s * w + w - l.s * w) l.points (c.fill_span.ensures i)) (next i) rest)
    ∙ ap (λ x. sets x (2 * (l.s * 2 ^ k) + 2 * 2 ^ k) rest)
    (part-written l.points span (l.s * w) (l.s * w + w - l.s * w) (2 * (l.s * 2 ^ k)) (start-at l.s k (omega arith)) (omega (arith, wide, length-span a.controls.now k l.s))
    (omega (arith, wide, points-are k a.spans, starts-inside l.s a.spans k (omega arith))))
    ∙ span-step a.controls.now k l.points (2 * (l.s * 2 ^ k)) l.s a.spans (omega arith)
    ∙ l.invariant

pub slice_bounds-put_point-end : goal.slice_bounds-put_point-end
slice_bounds-put_point-end c = let a = c.args in omega (arith, start-at a.spans a.depth (omega arith), points-are a.depth a.spans)

pub returns : goal.returns
returns c =
    let a = c.args in
    let l = c.loop-s in
    let k = a.depth in
    let at = a.spans * (2 * 2 ^ k % 2 ^ 64) in
    let p = c.control_point-end.ensures ∙ ap (control a.controls.now) c.first_record.ensures in
    let last : l.s ≡ a.spans = omega arith in
    let start : at ≡ 2 * (l.s * 2 ^ k) = omega (arith, start-at a.spans k (omega arith), ap (λ (n : ℕ). n * 2 ^ k) last) in
    (λ i. put_mid at (at + 2 - at) l.points (c.put_point.ensures i))
    ∙ (λ i. put_mid at (at + 2 - at) l.points (two (p i)))
    ∙ part-written l.points (two (control a.controls.now (first_record Bezier a.spans))) at (at + 2 - at) (2 * (l.s * 2 ^ k)) start (omega arith) (omega (arith, start, start-at a.spans k (omega arith), points-are k a.spans))
    ∙ end-written a.controls.now k l.points (2 * (l.s * 2 ^ k)) l.s a.spans last
    ∙ l.invariant
