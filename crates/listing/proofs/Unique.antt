-- No second outcome meets a public call's contract: the contract equates the answer and the text that is left with one reading, so two outcomes that meet it are equal.
use mathlib.Core.Path.{sym, ◌∙◌}
use Rattle.whole.specs.Unique.{Unique}
use Rattle.listing.proofs.number.put_decimal.Kinds as put-decimal
use Rattle.listing.proofs.number.put_decimal.Reads as put-decimal-reads
use Rattle.listing.proofs.number.put_natural.Kinds as put-natural
use Rattle.listing.proofs.number.put_natural.Reads as put-natural-reads
use Rattle.listing.proofs.outline.list_chosen.Kinds as list-chosen
use Rattle.listing.proofs.outline.list_chosen.Reads as list-chosen-reads
use Rattle.listing.proofs.outline.list_heading.Kinds as list-heading
use Rattle.listing.proofs.outline.list_heading.Reads as list-heading-reads
use Rattle.listing.proofs.outline.list_points.Kinds as list-points
use Rattle.listing.proofs.outline.list_points.Reads as list-points-reads
use Rattle.listing.proofs.refusal.list_refusal.Kinds as list-refusal
use Rattle.listing.proofs.refusal.list_refusal.Reads as list-refusal-reads
use Rattle.listing.proofs.word.put_word.Kinds as put_word
use Rattle.listing.proofs.word.put_word.Reads as put-word-reads

pub put-word-unique : Unique 2 put_word.ps put_word.r put-word-reads.Post
put-word-unique κs a x y v w p q =
    let same = p ∙ sym q in
    (λ i. (same i).answer, λ i. ((same i).held, (tt, (tt, tt))))

pub put-natural-unique : Unique 1 put-natural.ps put-natural.r put-natural-reads.Post
put-natural-unique κs a x y v w p q =
    let same = p ∙ sym q in
    (λ i. (same i).answer, λ i. ((same i).held, (tt, (tt, tt))))

pub put-decimal-unique : Unique 1 put-decimal.ps put-decimal.r put-decimal-reads.Post
put-decimal-unique κs a x y v w p q =
    let same = p ∙ sym q in
    (λ i. (same i).answer, λ i. ((same i).held, (tt, (tt, tt))))

pub list-heading-unique : Unique 1 list-heading.ps list-heading.r list-heading-reads.Post
list-heading-unique κs a x y v w p q =
    let same = p ∙ sym q in
    (λ i. (same i).answer, λ i. ((same i).held, (tt, (tt, (tt, (tt, tt))))))

pub list-points-unique : Unique 2 list-points.ps list-points.r list-points-reads.Post
list-points-unique κs a x y v w p q =
    let same = p ∙ sym q in
    (λ i. (same i).answer, λ i. ((same i).held, (tt, (tt, (tt, tt)))))

pub list-chosen-unique : Unique 2 list-chosen.ps list-chosen.r list-chosen-reads.Post
list-chosen-unique κs a x y v w p q =
    let same = p ∙ sym q in
    (λ i. (same i).answer, λ i. ((same i).held, (tt, (tt, (tt, (tt, (tt, (tt, tt))))))))

pub list-refusal-unique : Unique 1 list-refusal.ps list-refusal.r list-refusal-reads.Post
list-refusal-unique κs a x y v w p q =
    let same = p ∙ sym q in
    (λ i. (same i).answer, λ i. ((same i).held, (tt, (tt, tt))))
