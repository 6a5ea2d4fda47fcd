-- At each step the states are those of the step, and the pairs still to come, rounded to what is held, make the whole.
use mathlib.Core.Path.{◌≡◌}
use Rattle.curve.specs.Inner.{divisor_of}
use Rattle.spans.proofs.Pairs.{Filling}
use Rattle.spans.proofs.Steps.{step_state}
use Rattle.spans.proofs.stepping.ByDifferencesWay.fill_span.Given as goal

abbrev pub invariant-loop-step : goal.invariant-loop-step
invariant-loop-step l = record {
  so_far : Filling l.span.depth (divisor_of l.span.bits) l.at l.span.x l.span.y l.initial.points l.step l.exact l.points;
  on_x : l.x ≡ step_state l.span.x l.span.depth l.step;
  on_y : l.y ≡ step_state l.span.y l.span.depth l.step;
}
