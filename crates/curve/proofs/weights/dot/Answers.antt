-- The sum fits by the bounds of weights and controls.
use mathlib.Core.List.{List, [], ◌∷◌}
use Prim.Native.Nat.{ℕ}
use lib.Dec.{T}
use lib.IntN.{ℤ}
use mir.Syntax.{w64}
use Rattle.whole.proofs.Ring.{Ex, var, ◌⊕◌, ◌⊗◌}
use Rattle.whole.proofs.Fit.{Bounded, Need, safe, need, exact}
use Rattle.curve.specs.declared.Four.{Four}
use Rattle.curve.specs.Four.{dot}
use Rattle.curve.specs.Limits.{Inside}
use Rattle.curve.specs.Inner.{heaviest, widest}
use Rattle.curve.proofs.weights.dot.Goals as goal

-- the eight numbers: the weights and the controls
abbrev values : Four → Four → List ℤ
values w q = w.a ∷ w.b ∷ w.c ∷ w.d ∷ q.a ∷ q.b ∷ q.c ∷ q.d ∷ []

abbrev bounds : List ℕ
bounds = heaviest ∷ heaviest ∷ heaviest ∷ heaviest ∷ widest ∷ widest ∷ widest ∷ widest ∷ []

bounded : (w q : Four) → Inside heaviest w → Inside widest q → Bounded (values w q) bounds
bounded w q light inside = (light.a, (light.b, (light.c, (light.d, (inside.a, (inside.b, (inside.c, (inside.d, tt))))))))

fits : (w q : Four) → Inside heaviest w × Inside widest q → (e : Ex) → T (safe w64 bounds e) → Need w64 (values w q) e
fits w q (light, inside) = need w64 (values w q) bounds (bounded w q light inside)

-- the sum of the first products
abbrev one : Ex
one = var 0 ⊗ var 4

abbrev two : Ex
two = one ⊕ var 1 ⊗ var 5

abbrev three : Ex
three = two ⊕ var 2 ⊗ var 6

abbrev whole : Ex
whole = three ⊕ var 3 ⊗ var 7

pub overflow_mul-result : goal.overflow_mul-result
overflow_mul-result c = fits c.args.w c.args.q c.requires one tt

pub overflow_mul-result-2 : goal.overflow_mul-result-2
overflow_mul-result-2 c = fits c.args.w c.args.q c.requires (var 1 ⊗ var 5) tt

pub overflow_add-result : goal.overflow_add-result
overflow_add-result c = fits c.args.w c.args.q c.requires two tt

pub overflow_mul-result-3 : goal.overflow_mul-result-3
overflow_mul-result-3 c = fits c.args.w c.args.q c.requires (var 2 ⊗ var 6) tt

pub overflow_add-result-2 : goal.overflow_add-result-2
overflow_add-result-2 c = fits c.args.w c.args.q c.requires three tt

pub overflow_mul-result-4 : goal.overflow_mul-result-4
overflow_mul-result-4 c = fits c.args.w c.args.q c.requires (var 3 ⊗ var 7) tt

pub overflow_add-result-3 : goal.overflow_add-result-3
overflow_add-result-3 c = fits c.args.w c.args.q c.requires whole tt

pub returns : goal.returns
unfolding dot
returns c = exact w64 (values c.args.w c.args.q) bounds (bounded c.args.w c.args.q c.requires.0 c.requires.1) whole tt
