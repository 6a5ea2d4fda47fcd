-- A record put in its place is the list that a move asks for.
use Rattle.std.proofs.Common.{rules}
use Rattle.asked.proofs.InPlace.{moved-is}
use Rattle.asked.proofs.Edit.ask.Goals as goal

pub returns-in-Move : goal.returns-in-Move
returns-in-Move c = search (rules, moved-is)
