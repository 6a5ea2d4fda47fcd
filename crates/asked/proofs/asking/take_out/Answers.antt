-- The later records copied back are the list that the edit asks for.
use Rattle.asked.proofs.InPlace.{removed-is}
use Rattle.asked.proofs.asking.take_out.Goals as goal

pub returns : goal.returns
returns c =
    let a = c.args in
    let copied = c.copy_within.ensures in
    removed-is a.place a.count a.controls.now c.copy_within.new.self c.requires.in_range c.requires.held copied.len copied.by_index
