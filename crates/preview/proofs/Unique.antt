-- No second outcome: over the contract of the public call as it is generated from the source, two answers, each with what the lent points hold at the end, that both
-- meet it are the same, since it equates both with one reading.
use mathlib.Core.Path.{sym, ◌∙◌}
use Rattle.whole.specs.Unique.{Unique}
use Rattle.preview.proofs.preview.Kinds as preview
use Rattle.preview.proofs.preview.Reads as preview-reads

pub preview-unique : Unique 2 preview.ps preview.r preview-reads.Post
preview-unique κs a x y v w p q =
    let same = p ∙ sym q in
    (λ i. (same i).answer, λ i. (tt, (tt, ((same i).held, tt))))
