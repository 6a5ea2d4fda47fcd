-- No second outcome: over the contract of each public call as it is generated from the source, two answers, each with what the lent text holds at the end, that both meet it
-- are the same, since it equates both with one reading.
use mathlib.Core.Path.{sym, ◌∙◌}
use Rattle.whole.specs.Unique.{Unique}
use Rattle.file_list.proofs.cut.cut_file.Kinds as cut-file
use Rattle.file_list.proofs.cut.cut_file.Reads as cut-file-reads
use Rattle.file_list.proofs.parts.list_part.Kinds as list-part
use Rattle.file_list.proofs.parts.list_part.Reads as list-part-reads
use Rattle.file_list.proofs.parts.parts_of.Kinds as parts-of
use Rattle.file_list.proofs.parts.parts_of.Reads as parts-of-reads

pub parts-of-unique : Unique 0 parts-of.ps parts-of.r parts-of-reads.Post
parts-of-unique κs a x y v w p q = (p ∙ sym q, λ i. (tt, tt))

pub list-part-unique : Unique 2 list-part.ps list-part.r list-part-reads.Post
list-part-unique κs a x y v w p q =
    let same = p.1 ∙ sym q.1 in
    (λ i. (same i).answer, λ i. (tt, (tt, (tt, ((same i).held, tt)))))

pub cut-file-unique : Unique 2 cut-file.ps cut-file.r cut-file-reads.Post
cut-file-unique κs a x y v w p q =
    let same = p.1 ∙ sym q.1 in
    (λ i. (same i).answer, λ i. (tt, (tt, (tt, ((same i).held, tt)))))
