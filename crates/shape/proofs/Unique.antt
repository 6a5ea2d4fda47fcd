-- No second outcome: over the contract of each public call as it is generated from the source, two results and two sets of last values of what was lent that both
-- meet it at the same arguments are the same. Each contract says what the result equals, and what is lent is only read.
use mathlib.Core.Path.{refl, sym, ◌∙◌}
use Rattle.whole.specs.Unique.{Unique}
use Rattle.shape.proofs.check_shape.Kinds as check-shape-kinds
use Rattle.shape.proofs.check_shape.Reads as check-shape-reads
use Rattle.shape.proofs.reason.Reason.number.Kinds as number-kinds
use Rattle.shape.proofs.reason.Reason.number.Reads as number-reads
use Rattle.shape.proofs.reason.Reason.at.Kinds as at-kinds
use Rattle.shape.proofs.reason.Reason.at.Reads as at-reads

pub check-shape-unique : Unique 0 check-shape-kinds.ps check-shape-kinds.r check-shape-reads.Post
check-shape-unique κs a x y u v p q = (p ∙ sym q, refl)

pub number-unique : Unique 0 number-kinds.ps number-kinds.r number-reads.Post
number-unique κs a x y u v p q = (p ∙ sym q, refl)

pub at-unique : Unique 0 at-kinds.ps at-kinds.r at-reads.Post
at-unique κs a x y u v p q = (p ∙ sym q, refl)
