-- No second outcome: over the call's contract as it is generated from the source.
use mathlib.Core.Path.{sym, ◌∙◌}
use Rattle.whole.specs.Unique.{Unique}
use Rattle.tolerance.proofs.by_tolerance.Kinds as kinds
use Rattle.tolerance.proofs.by_tolerance.Reads as reads

pub by-tolerance-unique : Unique 2 kinds.ps kinds.r reads.Post
by-tolerance-unique κs a x y u v p q =
    let same = p ∙ sym q in
    (λ i. (same i).answer, λ i. (tt, (tt, (tt, (tt, ((same i).held, tt))))))
