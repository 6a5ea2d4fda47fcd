-- No second outcome: over the contract of the public call as it is generated from the source, two answers, each with what the lent controls hold at the end, that both
-- meet it are the same, since it equates both with one reading.
use mathlib.Core.Path.{sym, ◌∙◌}
use Rattle.whole.specs.Unique.{Unique}
use Rattle.record_file.proofs.read.Kinds as read
use Rattle.record_file.proofs.read.Reads as read-reads

pub read-unique : Unique 2 read.ps read.r read-reads.Post
read-unique κs a x y v w p q =
    let same = p ∙ sym q in
    (λ i. (same i).answer, λ i. (tt, ((same i).held, tt)))
