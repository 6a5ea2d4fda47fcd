-- No second outcome: over the contract of each public call as it is generated from the source, two results and two sets of last values of what was lent that both
-- meet it at the same arguments are the same. The contract of `step` says what the answer and the lent controls equal together, so each is determined.
use mathlib.Core.Path.{refl, sym, ◌∙◌}
use Rattle.whole.specs.Unique.{Unique}
use Rattle.drawing.proofs.State.new.Kinds as new-kinds
use Rattle.drawing.proofs.State.new.Reads as new-reads
use Rattle.drawing.proofs.State.step.Kinds as step-kinds
use Rattle.drawing.proofs.State.step.Reads as step-reads

pub new-unique : Unique 0 new-kinds.ps new-kinds.r new-reads.Post
new-unique κs a x y u v p q = (p ∙ sym q, refl)

pub step-unique : Unique 1 step-kinds.ps step-kinds.r step-reads.Post
step-unique κs a x y u v p q =
    let same = p ∙ sym q in
    (λ i. (same i).answer, λ k. (tt, (tt, ((same k).held, tt))))
