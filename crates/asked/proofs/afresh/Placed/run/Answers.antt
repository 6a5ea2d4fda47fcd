-- Counted round in a loop, clipped in an open outline.
use Rattle.std.proofs.Common.{rules}
use Rattle.asked.proofs.Runs.{run-open, run-loop}
use Rattle.asked.proofs.afresh.Placed.run.Goals as goal

pub returns-then-is_loop : goal.returns-then-is_loop
returns-then-is_loop c = search (rules, run-loop)

pub returns : goal.returns
returns c = search (rules, run-open)
