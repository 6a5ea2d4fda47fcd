-- What is written from a place on leaves the numbers before it and past it as they were.
use mathlib.Core.Path.{◌≡◌, subst}
use mathlib.Core.List.{List}
use Prim.Native.Nat.{ℕ, ◌+◌}
use native.Mathlib.Omega.{arith}
use lib.ListN.{length}
use lib.Seq.{sets, length-sets}
use Rattle.curve.specs.Tab.{tab}
use Rattle.curve.proofs.Fills.{before-sets, past-sets}
use Rattle.curve.proofs.Tab.{length-tab}
use Rattle.shape.specs.Lists.{Keeps}

module _ {A : Type 0} where
  pub sets-keeps : (vs l : List A) (at : ℕ) → Keeps at (at + length vs) l (sets l at vs)
  sets-keeps vs l at = record { long = length-sets l at vs; before = λ q d h. before-sets vs l at q d h; past = λ q d h. past-sets vs l at q d h }

  -- n numbers by a rule, from the list's start
  pub tab-keeps : (f : ℕ → A) (n : ℕ) (l : List A) → Keeps 0 n l (sets l 0 (tab f 0 n))
  tab-keeps f n l = let end : 0 + length (tab f 0 n) ≡ n = omega (arith, length-tab f 0 n) in subst (λ (m : ℕ). Keeps 0 m l (sets l 0 (tab f 0 n))) end (sets-keeps (tab f 0 n) l 0)
