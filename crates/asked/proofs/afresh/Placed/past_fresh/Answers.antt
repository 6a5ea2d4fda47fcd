-- The last span that uses a record is not past it.
use Rattle.std.proofs.Common.{arith}
use Rattle.shape.proofs.Spans.{first_below}
use Rattle.asked.proofs.afresh.Placed.past_fresh.Goals as goal

pub overflow_add-past : goal.overflow_add-past
overflow_add-past c = let p = c.args.self in omega (arith, c.last_using.ensures, (first_below p.plan.basis p.place).1)
