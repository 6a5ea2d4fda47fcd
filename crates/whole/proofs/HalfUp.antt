-- Rounding a size, a half up: the laws of `half_up`, all on natural numbers. `Nearest` has them with the sign put back.
use mathlib.Core.Path.{◌≡◌, sym, ap, ◌∙◌}
use Prim.Native.Nat.{ℕ, ◌+◌, ◌*◌, ◌/◌, ◌≤◌, ◌<◌}
use native.Mathlib.Omega.{arith}
use native.Mathlib.Nat.{mul_comm, mul_assoc, mul_left_comm, mul-add, mul-div-le, lt-mul-div-succ, div-eq_of_lt-le, div-div-eq-div-mul, mul-div-mul_left, add-mul-div_right, le-div_iff_mul-le, le_trans, div-mul-le_self, le-mul_of_pos_right, le_of_eq}
use Rattle.whole.specs.Nearest.{half_up}

-- ---- what it means: with q = half_up n d, twice n - d·q is from -d up to, and not with, d

pub half-low : (n d : ℕ) → 2 * (d * half_up n d) ≤ 2 * n + d
unfolding half_up
half-low n d = omega (arith, mul-div-le (2 * n + d) (2 * d), mul_assoc 2 d ((2 * n + d) / (2 * d)))

pub half_high : (n d : ℕ) → 0 < d → 2 * n < 2 * (d * half_up n d) + d
unfolding half_up
half_high n d h =
    let q = (2 * n + d) / (2 * d) in
    let some : 0 < 2 * d = omega arith in
    omega (arith, lt-mul-div-succ (2 * n + d) some, mul-add (2 * d) q 1, mul_assoc 2 d q)

-- and no other number is within those bounds
pub half-unique : (n d q : ℕ) → 2 * (d * q) ≤ 2 * n + d → 2 * n < 2 * (d * q) + d → half_up n d ≡ q
unfolding half_up
half-unique n d q low high =
    let times : q * (2 * d) ≡ 2 * (d * q) = mul_comm q (2 * d) ∙ mul_assoc 2 d q in
    let more : (q + 1) * (2 * d) ≡ 2 * (d * q) + 2 * d = mul_comm (q + 1) (2 * d) ∙ mul-add (2 * d) q 1 ∙ ap (λ (x : ℕ). x + 2 * d * 1) (mul_assoc 2 d q) ∙ ap (λ (x : ℕ). 2 * (d * q) + x) (omega arith) in
    div-eq_of_lt-le (2 * d) (omega (arith, times)) (omega (arith, more))

-- ---- laws

-- both parts of the fraction m times as large
pub half-scale : (m n d : ℕ) → 0 < m → half_up (m * n) (m * d) ≡ half_up n d
unfolding half_up
half-scale m n d h =
    ap (λ (x : ℕ). (x + m * d) / (2 * (m * d))) (mul_left_comm 2 m n)
    ∙ ap (λ (x : ℕ). x / (2 * (m * d))) (sym (mul-add m (2 * n) d))
    ∙ ap (λ (x : ℕ). m * (2 * n + d) / x) (mul_left_comm 2 m d)
    ∙ mul-div-mul_left (2 * n + d) (2 * d) h

-- a whole value is kept
pub half-whole : (q d : ℕ) → 0 < d → half_up (d * q) d ≡ q
half-whole q d h = half-unique (d * q) d q (omega arith) (omega arith)

pub half-mono : {a b : ℕ} (d : ℕ) → 0 < d → a ≤ b → half_up a d ≤ half_up b d
unfolding half_up
half-mono {a} {b} d h k =
    let some : 0 < 2 * d = omega arith in
    let more : 2 * a + d ≤ 2 * b + d = omega arith in
    (le-div_iff_mul-le some).1 (le_trans (div-mul-le_self (2 * a + d) (2 * d)) more)

-- a size is rounded to no more than itself
pub half-least : (n d : ℕ) → 0 < d → half_up n d ≤ n
half-least n d h = let more : n ≤ d * n = le_trans (le-mul_of_pos_right n h) (le_of_eq (mul_comm n d)) in omega (arith, half-mono d h more, half-whole n d h)

-- over 2·c·e: the whole part over e first, then c more and the whole part over 2c
pub half-by-steps : (n c e : ℕ) → 0 < e → half_up n (2 * c * e) ≡ (n / e + c) / (2 * c)
unfolding half_up
half-by-steps n c e h =
    ap (λ (x : ℕ). (2 * n + x) / (2 * (2 * c * e))) (mul_assoc 2 c e)
    ∙ ap (λ (x : ℕ). x / (2 * (2 * c * e))) (sym (mul-add 2 n (c * e)))
    ∙ mul-div-mul_left (n + c * e) (2 * c * e) (omega arith)
    ∙ ap (λ (x : ℕ). (n + c * e) / x) (mul_comm (2 * c) e)
    ∙ sym (div-div-eq-div-mul (n + c * e) e (2 * c))
    ∙ ap (λ (x : ℕ). x / (2 * c)) (add-mul-div_right n c h)
