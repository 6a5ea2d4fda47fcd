-- The machine's sums over four numbers inside a bound, and over what else a function has beside them: what `Fit` says, for the leaf functions' answers.
use mathlib.Core.Path.{◌≡◌}
use mathlib.Core.List.{List, [], ◌∷◌}
use Prim.Native.Nat.{ℕ, ◌≤◌}
use lib.Dec.{T}
use lib.IntN.{ℤ, nat_abs}
use mir.Syntax.{w64}
use Rattle.whole.proofs.Ring.{Ex, ev}
use Rattle.whole.proofs.Fit.{Bounded, raw, safe, Need, need, exact}
use Rattle.curve.specs.declared.Four.{Four}
use Rattle.curve.specs.Limits.{Inside}

-- the variables: four numbers and one more
abbrev pub numbers : Four → ℤ → List ℤ
numbers q x = q.a ∷ q.b ∷ q.c ∷ q.d ∷ x ∷ []

abbrev pub bounds : ℕ → ℕ → List ℕ
bounds n m = n ∷ n ∷ n ∷ n ∷ m ∷ []

module _ (n m : ℕ) (q : Four) (inside : Inside n q) (x : ℤ) (small : nat_abs x ≤ m) where
  bounded : Bounded (numbers q x) (bounds n m)
  bounded = (inside.a, (inside.b, (inside.c, (inside.d, (small, tt)))))

  pub asked : (e : Ex) → T (safe w64 (bounds n m) e) → Need w64 (numbers q x) e
  asked e t = need w64 (numbers q x) (bounds n m) bounded e t

  pub worked : (e : Ex) → T (safe w64 (bounds n m) e) → raw w64 (numbers q x) e ≡ ev (numbers q x) e
  worked e t = exact w64 (numbers q x) (bounds n m) bounded e t
