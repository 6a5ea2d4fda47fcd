-- Nothing where there is no span; else the loop's run, or the run itself.
use Rattle.std.proofs.Common.{◌≡◌, ◌+◌, ◌≤◌, ◌<◌, cond, false, sym, subst, ◌∙◌, arith}
use Rattle.curve.specs.Span.{is_loop}
use Rattle.asked.proofs.Fresh.{open-stretch}
use Rattle.edit.proofs.Worked.{none-refreshed, stretch-refreshed}
use Rattle.edit.proofs.working.rework.Goals as goal

pub returns-then-run-eq0 : goal.returns-then-run-eq0
returns-then-run-eq0 c = let d = c.args.draft.now in none-refreshed c.args.run d.plan d.controls.now c.args.points.now c.requires.room c.if-run-eq0.true

pub returns : goal.returns
returns c =
    let run = c.args.run in
    let d = c.args.draft.now in
    let ends : is_loop d.plan.basis ≡ false = sym c.is_loop.ensures ∙ c.if-is_loop.false in
    let most : run.first + run.count ≤ d.plan.spans =
    subst (λ t. cond t ((run.first < d.plan.spans) × (run.count ≤ d.plan.spans)) (run.first + run.count ≤ d.plan.spans)) ends c.requires.runnable in
    c.fill.ensures
    ∙ stretch-refreshed run d.plan d.controls.now c.args.points.now c.requires.room run.first (run.first + run.count) (open-stretch run d.plan ends (omega arith) most)
