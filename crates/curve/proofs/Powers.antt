-- Powers of two and their cubes, as the three ways meet them.
use mathlib.Core.Path.{◌≡◌, refl, sym, ap, ◌∙◌}
use mathlib.Core.List.{[], ◌∷◌}
use Prim.Native.Nat.{ℕ, zero, suc, ◌+◌, ◌*◌, ◌-◌, ◌%◌, ◌^◌, ◌<◌}
use native.Mathlib.Nat.{pow-suc, one-mul, mod-eq_of_lt}
use native.Mathlib.Omega.{arith}
use lib.Pow.{pow-add, pow-lt}
use lib.IntN.{pos}
use Rattle.whole.proofs.Ring.{var, ◌⊗◌, solve}
use Rattle.whole.proofs.Order.{pos-injective}

pub doubled : (l : ℕ) → 2 * 2 ^ l ≡ 2 ^ suc l
doubled l = omega (arith, pow-suc 2 l)

-- half of a power of two
pub half-width : (left : ℕ) → 0 < left → 2 * 2 ^ (left - 1) ≡ 2 ^ left
half-width left h = let whole : suc (left - 1) ≡ left = omega arith in doubled (left - 1) ∙ ap (λ (n : ℕ). 2 ^ n) whole

-- 1 shifted left by the depth, at our depths
pub shift_one : (k : ℕ) → k < 64 → 1 * 2 ^ k % 2 ^ 64 ≡ 2 ^ k
shift_one k h = ap (λ (n : ℕ). n % 2 ^ 64) (one-mul (2 ^ k)) ∙ mod-eq_of_lt (pow-lt h)

unfoldable pub cube : ℕ → ℕ
cube n = n * n * n

pub cube-mul : (m n : ℕ) → cube (m * n) ≡ cube m * cube n
unfolding cube
cube-mul m n = pos-injective (solve (pos m ∷ pos n ∷ []) (var 0 ⊗ var 1 ⊗ (var 0 ⊗ var 1) ⊗ (var 0 ⊗ var 1)) (var 0 ⊗ var 0 ⊗ var 0 ⊗ (var 1 ⊗ var 1 ⊗ var 1)) tt)

-- 2^(3k) is the cube of 2^k, and so is 8^k
pub thrice : (k : ℕ) → 2 ^ (3 * k) ≡ cube (2 ^ k)
unfolding cube
thrice k = ap (λ (n : ℕ). 2 ^ n) (omega arith) ∙ pow-add 2 (k + k) k ∙ ap (λ (n : ℕ). n * 2 ^ k) (pow-add 2 k k)

pub eights : (k : ℕ) → 8 ^ k ≡ cube (2 ^ k)
unfolding cube
eights zero = refl
eights (suc k) = pow-suc 8 k ∙ ap (λ (n : ℕ). n * 8) (eights k) ∙ sym (ap cube (pow-suc 2 k) ∙ cube-mul (2 ^ k) 2)
