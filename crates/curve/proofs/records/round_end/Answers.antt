-- The code's two ways are the definition's.
use mathlib.Core.Path.{sym}
use native.Mathlib.Omega.{arith}
use Rattle.curve.proofs.Round.{round-below, round-past}
use Rattle.curve.proofs.records.round_end.Goals as goal

pub returns-then-number-count : goal.returns-then-number-count
returns-then-number-count c = sym (round-below c.args.count c.args.number c.if-number-count.true)

pub returns-else-number-count : goal.returns-else-number-count
returns-else-number-count c = sym (round-past c.args.count c.args.number (omega (arith, c.if-number-count.false)))
