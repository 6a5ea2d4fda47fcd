-- A record inside the limits leaves the rest of the search, and one outside ends it.
use mathlib.Core.Path.{◌≡◌, sym, ap, ◌∙◌}
use Prim.Native.Nat.{◌-◌}
use native.Mathlib.Omega.{arith}
use Rattle.shape.specs.Refusals.{outside, seek}
use Rattle.shape.proofs.Seek.{seek-here, seek-step, seek-end}
use Rattle.shape.proofs.first_outside.Goals as goal

pub loop-i-init : goal.loop-i-init
loop-i-init c = let all : c.args.count - 0 ≡ c.args.count = omega arith in (omega arith, ap (seek (outside c.args.controls.now) 0) all)

pub returns-then-is_outside : goal.returns-then-is_outside
returns-then-is_outside c =
    let i = c.loop-i.i in
    sym (seek-here (outside c.args.controls.now) i (c.args.count - i) (omega arith) (sym c.is_outside.ensures ∙ c.if-is_outside.true)) ∙ c.loop-i.invariant.1

pub loop-i-preserved : goal.loop-i-preserved
loop-i-preserved c =
    (omega arith, seek-step (outside c.args.controls.now) c.loop-i.i c.args.count (omega arith) (sym c.is_outside.ensures ∙ c.if-is_outside.false) ∙ c.loop-i.invariant.1)

pub returns : goal.returns
returns c =
    let end : c.args.count ≡ c.loop-i.i = omega arith in
    end ∙ sym (seek-end (outside c.args.controls.now) c.loop-i.i c.args.count (omega arith)) ∙ c.loop-i.invariant.1
