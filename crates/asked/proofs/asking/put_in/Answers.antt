-- The later records copied on and the new one put are the list that the edit asks for.
use Rattle.std.proofs.Common.{◌∙◌, w32}
use Rattle.whole.proofs.Fit.{kept-is}
use Rattle.asked.proofs.InPlace.{put, inserted-is}
use Rattle.asked.proofs.asking.put_in.Goals as goal

pub returns : goal.returns
returns c =
    let a = c.args in
    let later = c.copy_within.new.self in
    let copied = c.copy_within.ensures in
    c.put_record.ensures
    ∙ (λ i. put later a.place (kept-is w32 a.x c.ranges.x i) (kept-is w32 a.y c.ranges.y i))
    ∙ inserted-is a.place a.count a.controls.now a.x a.y later c.requires.in_range c.requires.room copied.len copied.by_index
