-- A step's two sums are those of its pair (`filling-step`).
use mathlib.Core.Path.{◌≡◌, sym, ◌∙◌, subst}
use Prim.Native.Nat.{ℕ, ◌*◌, ◌/◌, ◌^◌, ◌≤◌, ◌<◌}
use native.Mathlib.Omega.{arith}
use lib.IntN.{ℤ, pos, nat_abs}
use lib.Signed.{mag}
use mir.Syntax.{w64}
use Rattle.whole.proofs.Fit.{kept, kept-is}
use Rattle.curve.specs.declared.Four.{Four}
use Rattle.curve.specs.Inner.{divisor_of, far_reach}
use Rattle.curve.specs.Span.{weighted}
use Rattle.curve.specs.Ways.{apart, deepest}
use Rattle.curve.proofs.Table.{all-steps}
use Rattle.spans.specs.Inner.{Ready}
use Rattle.spans.proofs.Pairs.{filling-step, filling-done}
use Rattle.spans.proofs.weights.ByWeightsWay.fill_span.Goals as goal

-- a step of the loop is one of the span's
within : (k i : ℕ) → k ≤ deepest → i < 2 ^ deepest / apart k → i ≤ 2 ^ k
within k i h below = omega (arith, all-steps k h)

-- a sum within the reach, as the machine keeps it
near : (q : Four) (k d i : ℕ) → Ready k d q → i ≤ 2 ^ k → {z : ℤ} → mag z < 2 ^ 63 → z ≡ weighted q (pos i) (pos (2 ^ k)) → nat_abs (kept w64 z) ≤ d * far_reach
near q k d i ready h {z} held is = subst (λ x. nat_abs x ≤ d * far_reach) (sym (kept-is w64 z (record { sfits = held }) ∙ is)) (ready.near i h)

pub table_sum-x-requires-clause-step_bound : goal.table_sum-x-requires-clause-step_bound
table_sum-x-requires-clause-step_bound c = let s = c.args.span in (s.shallow, within s.depth c.loop-step.step s.shallow c.loop-step-test.true)

pub table_sum-y-requires-clause-step_bound : goal.table_sum-y-requires-clause-step_bound
table_sum-y-requires-clause-step_bound c = let s = c.args.span in (s.shallow, within s.depth c.loop-step.step s.shallow c.loop-step-test.true)

pub put_point-exact-requires-clause-x_bound : goal.put_point-exact-requires-clause-x_bound
put_point-exact-requires-clause-x_bound c =
    let s = c.args.span in
    let d = divisor_of s.bits in
    let i = c.loop-step.step in
    let inside = within s.depth i s.shallow c.loop-step-test.true in
    (near s.x s.depth d i s.ready_x inside c.table_sum-x.type_inv c.table_sum-x.ensures, near s.y s.depth d i s.ready_y inside c.table_sum-y.type_inv c.table_sum-y.ensures)

pub put_point-exact-requires-clause-at_in_bounds : goal.put_point-exact-requires-clause-at_in_bounds
put_point-exact-requires-clause-at_in_bounds c =
    let s = c.args.span in
    let l = c.loop-step in
    (omega (arith, all-steps s.depth s.shallow, c.requires, l.invariant.long), omega (arith, l.invariant.few))

pub loop-step-preserved : goal.loop-step-preserved
loop-step-preserved c =
    let s = c.args.span in
    let l = c.loop-step in
    filling-step s.depth (divisor_of s.bits) c.args.at s.x s.y c.args.points.now l.step l.exact l.points l.invariant (omega (arith, all-steps s.depth s.shallow))
    (kept w64 c.table_sum-x.result)
    (kept w64 c.table_sum-y.result)
    (kept-is w64 c.table_sum-x.result (record { sfits = c.table_sum-x.type_inv }) ∙ c.table_sum-x.ensures)
    (kept-is w64 c.table_sum-y.result (record { sfits = c.table_sum-y.type_inv }) ∙ c.table_sum-y.ensures)
    c.put_point-exact.result c.put_point-exact.new.points c.put_point-exact.auto.points c.put_point-exact.ensures

pub returns : goal.returns
returns c =
    let s = c.args.span in
    let l = c.loop-step in
    filling-done s.depth (divisor_of s.bits) c.args.at s.x s.y c.args.points.now l.step l.exact l.points l.invariant (omega (arith, all-steps s.depth s.shallow))
