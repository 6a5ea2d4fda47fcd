-- What was carried and what was worked afresh are the new points.
use Rattle.std.proofs.Common.{◌≡◌, ℕ, List, ℤ, ap, ◌∙◌}
use Rattle.whole.specs.Outcome.{Outcome, outcome}
use Rattle.spans.specs.Numbers.{per_span}
use Rattle.asked.specs.declared.Run.{Run}
use Rattle.asked.specs.Edits.{past_fresh, run_of}
use Rattle.edit.specs.Inner.{carried, refreshes}
use Rattle.edit.proofs.Worked.{worked}
use Rattle.edit.proofs.working.work.Goals as goal

pub returns : goal.returns
unfolding refreshes
returns c =
    let a = c.args in
    let e = a.placed.edit in
    let p = a.placed.plan in
    let j = a.placed.place in
    let lent = a.points.now in
    let fresh = run_of e p j in
    let done : outcome c.rework.result c.rework.new.points ≡ refreshes fresh p a.controls.now (carried e (past_fresh e p j) p.spans (per_span p.depth) lent) =
    c.rework.ensures
    ∙ ap (λ (run : Run). refreshes run p a.controls.now c.carry.new.points) c.run.ensures
    ∙ ap (refreshes fresh p a.controls.now) c.carry.ensures in
    record {
      value = ap (λ (o : Outcome ℕ (List ℤ)). o.answer) done;
      points_after = ap (λ (o : Outcome ℕ (List ℤ)). o.held) done ∙ worked e p j a.controls.now lent c.requires.drawable.round c.requires.deep.1 c.requires.room;
    }
