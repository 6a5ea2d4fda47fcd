-- What a rounding leaves over: by the laws of `nearest`, and identities of `Ring`.
use mathlib.Core.Path.{◌≡◌, sym, ap, ◌∙◌}
use mathlib.Core.List.{[], ◌∷◌}
use Prim.Native.Nat.{ℕ, suc, ◌+◌, ◌*◌, ◌/◌, ◌%◌, ◌≤◌, ◌<◌}
use native.Mathlib.Nat.{mul_comm, mul_assoc, mul-mod_left, div-add-mod, le-mul_of_pos_right}
use native.Mathlib.Omega.{arith}
use lib.IntN.{ℤ, pos, negsuc, neg_ℤ, nat_abs, ◌+ℤ◌, ◌-ℤ◌, ◌*ℤ◌}
use Rattle.whole.specs.Nearest.{nearest, remainder}
use Rattle.whole.proofs.Ring.{var, lit, ◌⊕◌, ◌⊖◌, ◌⊗◌, solve, minus}
use Rattle.whole.proofs.Fit.{nat_abs_mul}
use Rattle.whole.proofs.HalfUp.{half-low}
use Rattle.whole.proofs.Nearest.{nearest-minus, nearest-scale, nearest-whole, nearest-rounded, size-nearest}

-- the number and the remainder make up the fraction
pub remainder-sum : (z : ℤ) (d : ℕ) → z ≡ pos d *ℤ nearest z d +ℤ remainder z d
unfolding remainder
remainder-sum z d = solve (z ∷ pos d ∷ nearest z d ∷ []) (var 0) (var 1 ⊗ var 2 ⊕ (var 0 ⊖ var 1 ⊗ var 2)) tt

-- the divisor times the number is at most half the divisor past the fraction's size
pub product-size : (z : ℤ) (d : ℕ) → 2 * nat_abs (pos d *ℤ nearest z d) ≤ 2 * nat_abs z + d
product-size z d = omega (arith, nat_abs_mul (pos d) (nearest z d), ap (λ (n : ℕ). d * n) (size-nearest z d), half-low (nat_abs z) d)

-- it is at most a half
pub remainder-close : (z : ℤ) (d : ℕ) → 0 < d → 2 * nat_abs (remainder z d) ≤ d
unfolding remainder
remainder-close z d h = (nearest-rounded z d h).close

-- a fraction and its negative leave a remainder and its negative
pub remainder-minus : (z : ℤ) (d : ℕ) → remainder (neg_ℤ z) d ≡ neg_ℤ (remainder z d)
unfolding remainder
remainder-minus z d =
    let n = nearest z d in
    ap (λ x. neg_ℤ z -ℤ pos d *ℤ x) (nearest-minus z d ∙ minus n)
    ∙ ap (λ x. x -ℤ pos d *ℤ (pos 0 -ℤ n)) (minus z)
    ∙ solve (z ∷ pos d ∷ n ∷ []) (lit (pos 0) ⊖ var 0 ⊖ var 1 ⊗ (lit (pos 0) ⊖ var 2)) (lit (pos 0) ⊖ (var 0 ⊖ var 1 ⊗ var 2)) tt
    ∙ sym (minus (z -ℤ pos d *ℤ n))

-- both parts of the fraction m times as large leave it m times as large
pub remainder-scale : (m : ℕ) (z : ℤ) (d : ℕ) → 0 < m → 0 < d → remainder (pos m *ℤ z) (m * d) ≡ pos m *ℤ remainder z d
unfolding remainder
remainder-scale m z d hm hd =
    ap (λ x. pos m *ℤ z -ℤ pos (m * d) *ℤ x) (nearest-scale m z d hm hd)
    ∙ solve (pos m ∷ z ∷ pos d ∷ nearest z d ∷ []) (var 0 ⊗ var 1 ⊖ var 0 ⊗ var 2 ⊗ var 3) (var 0 ⊗ (var 1 ⊖ var 2 ⊗ var 3)) tt

-- it is nought where the fraction is whole, and there alone
pub whole-nought : (n : ℤ) (d : ℕ) → 0 < d → remainder (pos d *ℤ n) d ≡ pos 0
unfolding remainder
whole-nought n d h = ap (λ x. pos d *ℤ n -ℤ pos d *ℤ x) (nearest-whole n d h) ∙ solve (pos d ∷ n ∷ []) (var 0 ⊗ var 1 ⊖ var 0 ⊗ var 1) (lit (pos 0)) tt

pub nought-whole : (z : ℤ) (d : ℕ) → remainder z d ≡ pos 0 → z ≡ pos d *ℤ nearest z d
nought-whole z d e =
    remainder-sum z d
    ∙ ap (λ x. pos d *ℤ nearest z d +ℤ x) e
    ∙ solve ((pos d *ℤ nearest z d) ∷ []) (var 0 ⊕ lit (pos 0)) (var 0) tt

-- which is where the divisor divides it
multiple-nought : (n d : ℕ) → 0 < d → n % d ≡ 0 → remainder (pos n) d ≡ pos 0
multiple-nought n d h e =
    let is : n ≡ d * (n / d) = omega (arith, div-add-mod n d) in
    ap (λ (m : ℕ). remainder (pos m) d) is ∙ whole-nought (pos (n / d)) d h

pub divides-nought : (z : ℤ) (d : ℕ) → 0 < d → nat_abs z % d ≡ 0 → remainder z d ≡ pos 0
divides-nought (pos n) d h e = multiple-nought n d h e
divides-nought (negsuc n) d h e = remainder-minus (pos (suc n)) d ∙ ap neg_ℤ (multiple-nought (suc n) d h e)

pub nought-divides : (z : ℤ) (d : ℕ) → remainder z d ≡ pos 0 → nat_abs z % d ≡ 0
nought-divides z d e = ap (λ x. nat_abs x % d) (nought-whole z d e) ∙ ap (λ (n : ℕ). n % d) (nat_abs_mul (pos d) (nearest z d)) ∙ ap (λ (n : ℕ). n % d) (mul_comm d (nat_abs (nearest z d))) ∙ mul-mod_left (nat_abs (nearest z d)) d

-- so the part e of a divisor m · e divides it too
pub nought-multiple : (z : ℤ) (m e : ℕ) → remainder z (m * e) ≡ pos 0 → nat_abs z % e ≡ 0
nought-multiple z m e h =
    let n = nearest z (m * e) in
    ap (λ x. nat_abs x % e) (nought-whole z (m * e) h)
    ∙ ap (λ (k : ℕ). k % e) (nat_abs_mul (pos (m * e)) n ∙ mul_comm (m * e) (nat_abs n) ∙ sym (mul_assoc (nat_abs n) m e))
    ∙ mul-mod_left (nat_abs n * m) e

-- a number whose size is nought, and one that is nought some times as large
pub size-nought : (z : ℤ) → nat_abs z ≡ 0 → z ≡ pos 0
size-nought (pos n) e = ap pos e
size-nought (negsuc n) e = absurd (omega arith)

pub times-nought : (m : ℕ) (z : ℤ) → 0 < m → pos m *ℤ z ≡ pos 0 → z ≡ pos 0
times-nought m z h e = size-nought z (omega (arith, le-mul_of_pos_right (nat_abs z) h, mul_comm (nat_abs z) m, nat_abs_mul (pos m) z, ap nat_abs e))
