-- No second outcome: over the contract of each public call as it is generated from the source, two results and two sets of last values of what was lent that both
-- meet it at the same arguments are the same. Each contract says what the result equals, and nothing is lent.
use mathlib.Core.Path.{refl, sym, ◌∙◌}
use Rattle.whole.specs.Unique.{Unique}
use Rattle.doubles.proofs.double_of.Kinds as double-of-kinds
use Rattle.doubles.proofs.double_of.Reads as double-of-reads
use Rattle.doubles.proofs.midpoint.Kinds as midpoint-kinds
use Rattle.doubles.proofs.midpoint.Reads as midpoint-reads
use Rattle.doubles.proofs.midpoint_pair.Kinds as midpoint-pair-kinds
use Rattle.doubles.proofs.midpoint_pair.Reads as midpoint-pair-reads
use Rattle.doubles.proofs.micrometres.Kinds as micrometres-kinds
use Rattle.doubles.proofs.micrometres.Reads as micrometres-reads

pub double-of-unique : Unique 0 double-of-kinds.ps double-of-kinds.r double-of-reads.Post
double-of-unique κs a x y u v p q = (p ∙ sym q, refl)

pub midpoint-unique : Unique 0 midpoint-kinds.ps midpoint-kinds.r midpoint-reads.Post
midpoint-unique κs a x y u v p q = (p ∙ sym q, refl)

pub midpoint-pair-unique : Unique 0 midpoint-pair-kinds.ps midpoint-pair-kinds.r midpoint-pair-reads.Post
midpoint-pair-unique κs a x y u v p q = (p ∙ sym q, refl)

pub micrometres-unique : Unique 0 micrometres-kinds.ps micrometres-kinds.r micrometres-reads.Post
micrometres-unique κs a x y u v p q = (p ∙ sym q, refl)
