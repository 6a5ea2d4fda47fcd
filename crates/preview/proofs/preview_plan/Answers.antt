-- Each return is where row 4 or a row of the lists is the first that holds, or where none does and the halved spans are the exact sums.
use mathlib.Core.Path.{◌≡◌, sym, ap, ◌∙◌, subst}
use Prim.Native.Nat.{ℕ, ◌≤◌}
use native.Mathlib.Omega.{arith}
use borrow.Author.Rules.{rules}
use lib.ListN.{length}
use Rattle.std.specs.Prelude.{Err}
use Rattle.whole.specs.Outcome.{outcome}
use Rattle.curve.specs.Span.{first_record}
use Rattle.shape.specs.Shape.{most_points}
use Rattle.shape.proofs.Refusals.{fine-facts}
use Rattle.shape.proofs.Spans.{points-at-most}
use Rattle.preview.proofs.Rows.{not-offered, lists-fail, lists-pass, bezier-count, drawn-is}
use Rattle.preview.proofs.preview_plan.Goals as goal

pub returns-then-basis-ne-BEZIER : goal.returns-then-basis-ne-BEZIER
returns-then-basis-ne-BEZIER c =
    let a = c.args in
    ap (λ r. outcome (Err r) a.points.now) c.into.ensures ∙ not-offered a.sound.shape a.sound.plan a.controls.now a.points.now c.if-basis-ne-BEZIER.true

pub check_lists-requires : goal.check_lists-requires
check_lists-requires c =
    let p = c.args.sound.plan in
    let g = c.args.sound.good in
    (g.records-most, subst (λ (n : ℕ). n ≤ most_points) (sym c.points-count.ensures) (points-at-most p.depth p.spans g.depth-most (omega (arith, g.spans-most, g.records-most))))

pub returns-in_err-check_lists : goal.returns-in_err-check_lists
returns-in_err-check_lists c =
    let a = c.args in
    let r = c.in_err-check_lists.field-0.0 in
    let out : c.from_residual.result ≡ Err r = search rules in
    ap (λ x. outcome x a.points.now) out
    ∙ lists-fail a.sound.shape a.sound.plan a.controls.now a.points.now c.if-basis-ne-BEZIER.false c.points-count.result c.points-count.ensures r (sym c.check_lists.ensures ∙ c.in_err-check_lists.was)

pub fill_spans-requires-clause-depth_le_deepest : goal.fill_spans-requires-clause-depth_le_deepest
unfolding first_record
fill_spans-requires-clause-depth_le_deepest c =
    let a = c.args in
    (c.args.sound.good.depth-most, omega (arith, bezier-count a.sound.shape a.sound.plan a.controls.now a.points.now c.args.sound.good c.if-basis-ne-BEZIER.false, c.args.sound.good.records-most))

pub fill_spans-requires-clause-spans_in_bounds : goal.fill_spans-requires-clause-spans_in_bounds
unfolding first_record
fill_spans-requires-clause-spans_in_bounds c =
    let a = c.args in
    let l = fine-facts a.sound.shape.count a.controls.now c.points-count.result (length a.points.now) (sym c.check_lists.ensures ∙ c.in_ok-check_lists.was) in
    (omega (arith, bezier-count a.sound.shape a.sound.plan a.controls.now a.points.now c.args.sound.good c.if-basis-ne-BEZIER.false, l.room), omega (arith, l.points-room, c.points-count.ensures))

pub returns : goal.returns
returns c =
    let a = c.args in
    let n = c.points-count.result in
    let fine = sym c.check_lists.ensures ∙ c.in_ok-check_lists.was in
    let l = fine-facts a.sound.shape.count a.controls.now n (length a.points.now) fine in
    drawn-is a.sound.shape a.sound.plan a.controls.now a.points.now c.args.sound.good c.if-basis-ne-BEZIER.false n (length a.points.now) l n c.points-count.ensures c.fill_spans.new.points c.fill_spans.ensures
    ∙ lists-pass a.sound.shape a.sound.plan a.controls.now a.points.now c.if-basis-ne-BEZIER.false n c.points-count.ensures fine
