-- A list of two numbers is the point's once both are written.
use Rattle.std.proofs.Common.{◌≡◌, List, [], ◌∷◌, length, refl, arith, set}
use lib.Ieee.{Float}
use Rattle.doubles.specs.declared.Pair.{Pair}
use Rattle.preview.specs.Halving.{two}
use Rattle.preview.proofs.put_point.Goals as goal

two-written : (l : List Float) (p : Pair) → length l ≡ 2 → set (set l 0 p.x) 1 p.y ≡ two p
two-written [] p e = absurd (omega arith)
two-written (x ∷ []) p e = absurd (omega arith)
two-written (x ∷ y ∷ []) p e = refl
two-written (x ∷ y ∷ z ∷ l) p e = absurd (omega arith)

pub returns : goal.returns
returns c = two-written c.args.points.now c.args.p c.requires
