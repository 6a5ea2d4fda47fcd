-- Two numbers within 2^61 have a sum inside 64 bits, and the four are the definition's.
use mathlib.Core.List.{List, [], ◌∷◌}
use Prim.Native.Nat.{ℕ, ◌^◌}
use lib.IntN.{ℤ}
use mir.Syntax.{w64}
use Rattle.whole.proofs.Ring.{var, ◌⊕◌}
use Rattle.whole.proofs.Fit.{Bounded, exact}
use Rattle.curve.specs.declared.Differences.{Differences}
use Rattle.curve.specs.Inner.{Small}
use Rattle.curve.specs.Ways.{advance}
use Rattle.curve.proofs.Differences.next.Goals as goal

abbrev values : Differences → List ℤ
values s = s.value ∷ s.first ∷ s.second ∷ s.third ∷ []

abbrev bounds : List ℕ
bounds = 2 ^ 61 ∷ 2 ^ 61 ∷ 2 ^ 61 ∷ 2 ^ 61 ∷ []

bounded : (s : Differences) → Small s → Bounded (values s) bounds
bounded s small = (small.value, (small.first, (small.second, (small.third, tt))))

pub returns : goal.returns
unfolding advance
returns c =
    let is = exact w64 (values c.args.self) bounds (bounded c.args.self c.requires) in
    λ k. record { value = is (var 0 ⊕ var 1) tt k; first = is (var 1 ⊕ var 2) tt k; second = is (var 2 ⊕ var 3) tt k; third = is (var 3) tt k }
