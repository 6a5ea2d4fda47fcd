-- A preview that answers n points writes the first 2n numbers of the lent list, and keeps all past them.
use Rattle.std.specs.Prelude.{Ok}
use mathlib.Core.Path.{◌≡◌, sym, ◌∙◌, subst}
use mathlib.Core.List.{List}
use Prim.Native.Nat.{ℕ, ◌*◌}
use lib.IntN.{ℤ}
use lib.Ieee.{Float}
use Rattle.whole.specs.Outcome.{outcome}
use Rattle.shape.specs.declared.Shape.{Shape}
use Rattle.shape.specs.Shape.{points_of}
use Rattle.shape.specs.Refusals.{plan_of}
use Rattle.shape.specs.Lists.{Keeps}
use Rattle.shape.proofs.Lists.{tab-keeps}
use Rattle.preview.specs.Preview.{value, accepts, previewing}
use Rattle.preview.proofs.Exactly.{drawn-none, none-drawn}

pub drawn-keeps : (s : Shape) (controls : List ℤ) (points : List Float) (n : ℕ) (held : List Float) → previewing s controls points ≡ outcome (Ok n) held → Keeps 0 (2 * n) points held
drawn-keeps s controls points n held e =
    let p = plan_of s in
    let all = points_of p.depth p.spans in
    let is : accepts p controls points ≡ outcome (Ok n) held = sym (none-drawn s controls points (drawn-none s controls points n held e)) ∙ e in
    let answer : Ok all ≡ Ok n = λ i. (is i).answer in
    let count : all ≡ n = cc in
    subst (λ (m : ℕ). Keeps 0 (2 * m) points held) count
    (subst (Keeps 0 (2 * all) points) (λ i. (is i).held) (tab-keeps (value p.depth p.spans controls) (2 * all) points))
