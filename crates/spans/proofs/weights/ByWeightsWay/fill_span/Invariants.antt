-- At each step the pairs still to come, rounded to what is held, make the whole.
use Rattle.curve.specs.Inner.{divisor_of}
use Rattle.spans.proofs.Pairs.{Filling}
use Rattle.spans.proofs.weights.ByWeightsWay.fill_span.Given as goal

abbrev pub invariant-loop-step : goal.invariant-loop-step
invariant-loop-step l = Filling l.span.depth (divisor_of l.span.bits) l.at l.span.x l.span.y l.initial.points l.step l.exact l.points
