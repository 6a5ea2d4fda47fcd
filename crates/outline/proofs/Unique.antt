-- No second outcome: over the contract of each public call as it is generated from the source, two answers, each with what the lent lists hold at the end, that both
-- meet it at the same arguments are the same. Of a view this is said of all that a program can see of it.
use mathlib.Core.Path.{◌≡◌, refl, sym, ◌∙◌}
use borrow.Fn.Kinds.{Dens, res_t, ended_of}
use contract.Lifetimes.{Lfts}
use denote.Triple.Clauses.{Lasts, at_exit}
use Rattle.whole.specs.Unique.{Unique}
use Rattle.outline.proofs.by_weights.Kinds as weights
use Rattle.outline.proofs.by_weights.Reads as weights-reads
use Rattle.outline.proofs.by_halving.Kinds as halving
use Rattle.outline.proofs.by_halving.Reads as halving-reads
use Rattle.outline.proofs.by_differences.Kinds as differences
use Rattle.outline.proofs.by_differences.Reads as differences-reads
use Rattle.outline.proofs.view.Kinds as view
use Rattle.outline.proofs.view.Reads as view-reads

pub by-weights-unique : Unique 2 weights.ps weights.r weights-reads.Post
by-weights-unique κs a x y u v p q =
    let same = p ∙ sym q in
    (λ i. (same i).answer, λ i. (tt, (tt, ((same i).held, tt))))

pub by-halving-unique : Unique 2 halving.ps halving.r halving-reads.Post
by-halving-unique κs a x y u v p q =
    let same = p ∙ sym q in
    (λ i. (same i).answer, λ i. (tt, (tt, ((same i).held, tt))))

pub by-differences-unique : Unique 2 differences.ps differences.r differences-reads.Post
by-differences-unique κs a x y u v p q =
    let same = p ∙ sym q in
    (λ i. (same i).answer, λ i. (tt, (tt, ((same i).held, tt))))

-- A view is a part of the caller's list: where it lies in memory and what stands there. Two results that meet the contract are the same in both, so no program can
-- tell them apart. A reference to read has nothing else in the logic.
pub view-unique : (κs : Lfts 1) (a : Dens κs view.ps) (x y : (res_t view.r κs).Denot) (u v : Lasts (ended_of 1 view.ps view.r) κs a)
    → view-reads.Post κs a x (at_exit (ended_of 1 view.ps view.r) κs a u)
    → view-reads.Post κs a y (at_exit (ended_of 1 view.ps view.r) κs a v)
    → (x.ref_ptr ≡ y.ref_ptr) × (x.now ≡ y.now) × (u ≡ v)
view-unique κs a x y u v p q = (p.1 ∙ sym q.1, p.0 ∙ sym q.0, refl)
