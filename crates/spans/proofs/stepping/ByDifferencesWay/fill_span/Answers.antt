-- A step's two sums are those of its pair (`filling-step`), and the states go on to the next.
use mathlib.Core.Path.{◌≡◌, sym, subst}
use Prim.Native.Nat.{ℕ, ◌*◌, ◌^◌, ◌≤◌, ◌<◌}
use native.Mathlib.Omega.{arith}
use lib.IntN.{nat_abs}
use mir.Syntax.{w64}
use Rattle.whole.proofs.Fit.{kept}
use Rattle.curve.specs.declared.Four.{Four}
use Rattle.curve.specs.declared.Differences.{Differences}
use Rattle.curve.specs.Inner.{divisor_of, far_reach}
use Rattle.curve.specs.Ways.{deepest}
use Rattle.curve.proofs.Powers.{shift_one}
use Rattle.spans.specs.Inner.{Ready}
use Rattle.spans.proofs.Pairs.{filling-none, filling-step, filling-done}
use Rattle.spans.proofs.Steps.{step_state, first-state, next-state, small-state, state-sum}
use Rattle.spans.proofs.stepping.ByDifferencesWay.fill_span.Goals as goal

near : (q : Four) (k d i : ℕ) → k ≤ deepest → Ready k d q → i < 2 ^ k → {s : Differences} → s ≡ step_state q k i → nat_abs (kept w64 s.value) ≤ d * far_reach
near q k d i h ready below e = subst (λ z. nat_abs z ≤ d * far_reach) (sym (state-sum q k d i h ready below e)) (ready.near i (omega arith))

pub loop-step-init : goal.loop-step-init
loop-step-init c =
    let s = c.args.span in
    record {
      so_far = filling-none s.depth (divisor_of s.bits) c.args.at s.x s.y c.args.points.now;
      on_x = first-state s.x s.depth s.shallow c.begin-x.ensures;
      on_y = first-state s.y s.depth s.shallow c.begin-y.ensures;
    }

pub put_point-exact-requires-clause-x_bound : goal.put_point-exact-requires-clause-x_bound
put_point-exact-requires-clause-x_bound c =
    let s = c.args.span in
    let l = c.loop-step in
    let below : l.step < 2 ^ s.depth = omega (arith, shift_one s.depth (omega arith)) in
    (near s.x s.depth (divisor_of s.bits) l.step s.shallow s.ready_x below l.invariant.on_x, near s.y s.depth (divisor_of s.bits) l.step s.shallow s.ready_y below l.invariant.on_y)

pub next-x-requires : goal.next-x-requires
next-x-requires c =
    let s = c.args.span in
    let l = c.loop-step in
    small-state s.x s.depth (divisor_of s.bits) l.step s.shallow s.ready_x (omega (arith, shift_one s.depth (omega arith))) l.invariant.on_x

pub next-y-requires : goal.next-y-requires
next-y-requires c =
    let s = c.args.span in
    let l = c.loop-step in
    small-state s.y s.depth (divisor_of s.bits) l.step s.shallow s.ready_y (omega (arith, shift_one s.depth (omega arith))) l.invariant.on_y

pub loop-step-preserved : goal.loop-step-preserved
loop-step-preserved c =
    let s = c.args.span in
    let d = divisor_of s.bits in
    let l = c.loop-step in
    let below : l.step < 2 ^ s.depth = omega (arith, shift_one s.depth (omega arith)) in
    record {
      so_far = filling-step s.depth d c.args.at s.x s.y c.args.points.now l.step l.exact l.points l.invariant.so_far below
          (kept w64 l.x.value)
          (kept w64 l.y.value)
          (state-sum s.x s.depth d l.step s.shallow s.ready_x below l.invariant.on_x)
          (state-sum s.y s.depth d l.step s.shallow s.ready_y below l.invariant.on_y)
          c.put_point-exact.result c.put_point-exact.new.points c.put_point-exact.auto.points c.put_point-exact.ensures;
      on_x = next-state s.x s.depth l.step l.invariant.on_x c.next-x.ensures;
      on_y = next-state s.y s.depth l.step l.invariant.on_y c.next-y.ensures;
    }

pub returns : goal.returns
returns c =
    let s = c.args.span in
    let l = c.loop-step in
    filling-done s.depth (divisor_of s.bits) c.args.at s.x s.y c.args.points.now l.step l.exact l.points l.invariant.so_far (omega (arith, shift_one s.depth (omega arith)))
