-- Tests as the rows make them: each passes or fails, and not both.
use mathlib.Core.Path.{◌≡◌, refl}
use mathlib.Core.Bool.{Bool, true, false, ◌&&◌, ◌||◌}
use mathlib.Core.Logic.{◌⊎◌, inl, inr, ⊎_elim}
use Prim.Native.Nat.{ℕ, ◌≤◌, ◌<◌}
use native.Mathlib.Omega.{arith}
use borrow.Author.Tests.{ltb-true, ltb-false}
use lib.Dec.{ltb}

pub passes : (b : Bool) → (b ≡ true) ⊎ (b ≡ false)
passes true = inl refl
passes false = inr refl

-- of two numbers one is below the other, or not
pub either : (a b : ℕ) → (a < b) ⊎ (b ≤ a)
either a b = ⊎_elim (λ e. inl (ltb-true a b e)) (λ e. inr (ltb-false a b e)) (passes (ltb a b))

pub true-is-not-false : {b : Bool} → b ≡ true → b ≡ false → ⊥
true-is-not-false e f = let z : ◌≡◌ {A = ℕ} 0 1 = cc in omega arith

pub and-true : (a b : Bool) → (a && b) ≡ true → (a ≡ true) × (b ≡ true)
and-true true b e = (refl, e)
and-true false b e = absurd (true-is-not-false e refl)

pub or-false : (a b : Bool) → (a || b) ≡ false → (a ≡ false) × (b ≡ false)
or-false true b e = absurd (true-is-not-false refl e)
or-false false b e = (refl, e)
