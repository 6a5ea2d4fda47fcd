-- Each answer is the reading's, by the tests that led to it.
use Rattle.std.proofs.Common.{sym, ap}
use Rattle.std.specs.Prelude.{Some}
use Rattle.console.specs.Argument.{number_of}
use Rattle.console.proofs.argument.number_of.Goals as goal
use Rattle.console.proofs.argument.number_of.Goals.{then-is_empty-via-then-is_empty, then-is_empty-via-else-is_empty+then-not-all_digits}

pub returns-then-is_empty : goal.returns-then-is_empty
unfolding number_of
returns-then-is_empty c =
    elim c.then-is_empty.branch [
      | then-is_empty-via-then-is_empty w ↦ rw (sym w.if-is_empty.ensures)
      | then-is_empty-via-else-is_empty+then-not-all_digits w ↦ rw (sym w.if-is_empty.ensures, sym w.if-not-all_digits.ensures)
    ]

pub returns : goal.returns
unfolding number_of
returns c = rw (sym c.if-is_empty.ensures, sym c.if-not-all_digits.ensures) (ap Some c.worth.ensures)
