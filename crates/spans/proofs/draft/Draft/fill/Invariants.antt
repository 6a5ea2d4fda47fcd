-- At each turn the sums of the spans still to be drawn, rounded to what is held, make the whole.
use Rattle.spans.proofs.Runs.{Running}
use Rattle.spans.proofs.draft.Draft.fill.Given as goal

abbrev pub invariant-loop-span : goal.invariant-loop-span
invariant-loop-span g l = Running l.self.plan l.self.controls.now l.run.start l.run.end l.initial.points l.span l.exact l.points
