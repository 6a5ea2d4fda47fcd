-- Each check that passes drops its rows from the reading; a walk that counted its cuts leaves every piece flat or cut.
use Rattle.std.specs.Prelude.{Ok, Err}
use mathlib.Core.Path.{◌≡◌, sym, ap, ◌∙◌}
use Prim.Native.Nat.{ℕ, ◌+◌, ◌<◌, ◌≤◌}
use native.Mathlib.Nat.{zero-add}
use native.Mathlib.Omega.{arith}
use borrow.Author.Rules.{rules}
use Rattle.whole.specs.Outcome.{outcome}
use Rattle.shape.specs.Refusals.{judge_controls}
use Rattle.shape.proofs.Refusals.{controls-none, controls-facts}
use Rattle.spans.proofs.Drawables.{drawable}
use Rattle.pieces.specs.Walk.{refusal_of}
use Rattle.pieces.specs.Tree.{Sound, all_cuts}
use Rattle.pieces.proofs.Walks.{Counted, walk-all-counted}
use Rattle.tolerance.specs.Reading.{tree_of, trees_of}
use Rattle.tolerance.proofs.Chooses.{plan-bad, plan-far, plan-ended, plan-last}
use Rattle.tolerance.proofs.choose_plan.Goals as goal
use Rattle.tolerance.proofs.choose_plan.Goals.{In_ok-check_controls, In_ok-cuts}

pub returns-in_err-check_controls : goal.returns-in_err-check_controls
returns-in_err-check_controls c =
    let a = c.args in
    let r = c.in_err-check_controls.field-0.0 in
    let out : c.from_residual.result ≡ Err r = search rules in
    ap (λ x. outcome x a.points.now) out
    ∙ sym (plan-bad a.sound.shape.count a.sound.plan a.tolerance a.most a.controls.now a.points.now r (sym c.check_controls.ensures ∙ c.in_err-check_controls.was))

-- the controls are fine
fine : (c : In_ok-check_controls) → judge_controls c.args.sound.shape.count c.args.controls.now ≡ Ok tt
fine c = sym c.check_controls.ensures ∙ c.in_ok-check_controls.was

pub returns-then-tolerance-gt-MOST_TOLERANCE : goal.returns-then-tolerance-gt-MOST_TOLERANCE
returns-then-tolerance-gt-MOST_TOLERANCE c =
    let a = c.args in
    ap (λ r. outcome (Err r) a.points.now) c.into.ensures
    ∙ sym (plan-far a.sound.shape.count a.sound.plan a.tolerance a.most a.controls.now a.points.now (fine c.before.before) c.if-tolerance-gt-MOST_TOLERANCE.true)

pub invariant_of-draft : goal.invariant_of-draft
invariant_of-draft c =
    let a = c.args in
    let none = controls-none a.sound.shape.count a.controls.now (fine c.before) in
    record {
      deep = a.sound.good.depth-most;
      some = a.sound.good.spans-least;
      drawable = drawable a.sound.shape a.sound.plan a.sound.good a.controls.now 0 0 (controls-facts a.sound.shape.count a.controls.now 0 0 none (omega arith));
    }

pub returns-in_err-cuts : goal.returns-in_err-cuts
returns-in_err-cuts c =
    let a = c.args in
    let why = c.in_err-cuts.field-0.0 in
    let out : c.from_residual-in_err-cuts.result ≡ Err (refusal_of why) = search rules in
    ap (λ x. outcome x a.points.now) out
    ∙ sym (plan-ended a.sound.shape.count a.sound.plan a.tolerance a.most a.controls.now a.points.now (sym c.check_controls.ensures ∙ c.in_ok-check_controls.was) why (omega (arith, c.if-tolerance-gt-MOST_TOLERANCE.false)) (sym c.count.ensures ∙ c.in_err-cuts.was))

-- what the walk counted
counted : (c : In_ok-cuts)
    → Counted c.args.most 0
    ((s : ℕ) → 0 ≤ s → s < 0 + c.args.sound.plan.spans
    → Sound (tree_of c.args.sound.plan c.args.tolerance c.args.controls.now s))
    (all_cuts (trees_of c.args.sound.plan c.args.tolerance c.args.controls.now))
    c.in_ok-cuts.cuts
counted c =
    let a = c.args in
    walk-all-counted (tree_of a.sound.plan a.tolerance a.controls.now) a.most 0 c.in_ok-cuts.cuts 0 a.sound.plan.spans (sym c.count.ensures ∙ c.in_ok-cuts.was)

pub fill_plan-requires-clause-sound : goal.fill_plan-requires-clause-sound
fill_plan-requires-clause-sound c = let k = c.before.before in λ s h. (counted k).all_sound s (omega arith) (omega arith)

pub fill_plan-requires-clause-cuts_value : goal.fill_plan-requires-clause-cuts_value
fill_plan-requires-clause-cuts_value c = (counted c.before.before).count ∙ zero-add _

pub returns : goal.returns
returns c =
    let a = c.args in
    c.fill_plan.ensures
    ∙ sym (plan-last a.sound.shape.count a.sound.plan a.tolerance a.most a.controls.now a.points.now (sym c.check_controls.ensures ∙ c.in_ok-check_controls.was) c.in_ok-cuts.cuts (omega (arith, c.if-tolerance-gt-MOST_TOLERANCE.false)) (sym c.count.ensures ∙ c.in_ok-cuts.was))
