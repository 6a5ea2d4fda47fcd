-- A drawing that answers n points writes the first 2n numbers of the lent list, and keeps all past them.
use Rattle.std.specs.Prelude.{Ok}
use mathlib.Core.Path.{◌≡◌, ap, subst}
use mathlib.Core.List.{List}
use Prim.Native.Nat.{ℕ, ◌*◌}
use lib.IntN.{ℤ}
use Rattle.whole.specs.Outcome.{outcome}
use Rattle.shape.specs.declared.Shape.{Shape}
use Rattle.shape.specs.Refusals.{plan_of}
use Rattle.shape.specs.Lists.{Keeps}
use Rattle.shape.proofs.Lists.{tab-keeps}
use Rattle.outline.specs.declared.Figures.{Figures}
use Rattle.spans.specs.Numbers.{number}
use Rattle.outline.specs.Outline.{points, draws}
use Rattle.outline.proofs.Exactly.{done-figures}
use Rattle.outline.proofs.Held.{held-drawn}

pub drawn-keeps : (s : Shape) (controls lent : List ℤ) (fs : Figures) (held : List ℤ) → draws s controls lent ≡ outcome (Ok fs) held → Keeps 0 (2 * fs.points) lent held
drawn-keeps s controls lent fs held e =
    let p = plan_of s in
    let count : points p ≡ fs.points = ap (λ (f : Figures). f.points) (done-figures s controls lent fs held e) in
    subst (λ (m : ℕ). Keeps 0 (2 * m) lent held) count (subst (Keeps 0 (2 * points p) lent) (held-drawn s controls lent fs held e) (tab-keeps (number p controls) (2 * points p) lent))
