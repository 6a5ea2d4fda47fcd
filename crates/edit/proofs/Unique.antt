-- No second outcome: over the contract of each public edit as it is generated from the source, two answers, each with what both lent lists hold at the end, that both
-- meet it at the same arguments are the same.
use mathlib.Core.Path.{sym, ◌∙◌}
use Rattle.whole.specs.Unique.{Unique}
use Rattle.edit.proofs.move_record.Kinds as move
use Rattle.edit.proofs.move_record.Reads as move-reads
use Rattle.edit.proofs.insert_record.Kinds as insert
use Rattle.edit.proofs.insert_record.Reads as insert-reads
use Rattle.edit.proofs.remove_record.Kinds as remove
use Rattle.edit.proofs.remove_record.Reads as remove-reads

pub move-record-unique : Unique 2 move.ps move.r move-reads.Post
move-record-unique κs a x y u v p q =
    let same = p ∙ sym q in
    (λ i. (same i).answer, λ i. (tt, (tt, (tt, (tt, ((same i).held.0, ((same i).held.1, tt)))))))

pub insert-record-unique : Unique 2 insert.ps insert.r insert-reads.Post
insert-record-unique κs a x y u v p q =
    let same = p ∙ sym q in
    (λ i. (same i).answer, λ i. (tt, (tt, (tt, (tt, ((same i).held.0, ((same i).held.1, tt)))))))

pub remove-record-unique : Unique 2 remove.ps remove.r remove-reads.Post
remove-record-unique κs a x y u v p q =
    let same = p ∙ sym q in
    (λ i. (same i).answer, λ i. (tt, (tt, ((same i).held.0, ((same i).held.1, tt)))))
