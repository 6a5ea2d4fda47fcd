-- A sum rounded as the machine does it: moved outwards where it may be a half below zero, shifted, and lifted above zero before it is divided. It comes to `nearest`.
use mathlib.Core.Path.{◌≡◌, refl, sym, ap, ◌∙◌}
use mathlib.Core.Bool.{not}
use mathlib.Core.List.{[], ◌∷◌}
use Prim.Native.Nat.{ℕ, zero, suc, ◌+◌, ◌*◌, ◌-◌, ◌/◌, ◌%◌, ◌≤◌, ◌<◌}
use native.Mathlib.Nat.{mul_comm, mul-add, mul-suc, add-mul-div_right, div-add-mod, mod-lt, div-eq_of_lt, div-eq_of_lt-le, div-lt_iff_lt-mul}
use native.Mathlib.Numerals.{add-one}
use native.Mathlib.Omega.{arith}
use lib.Dec.{T, eqb}
use lib.IntN.{ℤ, pos, negsuc, neg_ℤ, nat_abs, ◌+ℤ◌, ◌-ℤ◌}
use lib.Signed.{shr_z}
use Rattle.whole.specs.Nearest.{half_up, nearest}
use Rattle.whole.specs.Inner.{moved, half_to_greater}
use Rattle.whole.proofs.Ring.{var, lit, ◌⊕◌, ◌⊖◌, solve, minus, cond_ind}
use Rattle.whole.proofs.Order.{pos-injective, subℕ-ind}
use Rattle.whole.proofs.HalfUp.{half-by-steps}

-- ---- lifted by l times m, a number is divided by m and put back by l

lift-above : (a m l : ℕ) → 0 < m → (a + m * l) / m ≡ a / m + l
lift-above a m l h = ap (λ (n : ℕ). (a + n) / m) (mul_comm m l) ∙ add-mul-div_right a l h

-- a number below zero, -(a + 1), lifted to n
lift-below : (a m l n : ℕ) → 0 < m → n + suc a ≡ m * l → n / m + suc (a / m) ≡ l
lift-below a m l n h e =
    let q = a / m in
    let low = div-add-mod a m in
    let rest = mod-lt a h in
    let before : q < l = (div-lt_iff_lt-mul {k = m} {x = a} {y = l} h).1 (omega (arith, mul_comm m l)) in
    let t = l - suc q in
    let whole : l ≡ t + suc q = omega arith in
    let parts : m * l ≡ m * t + (m * q + m) = ap (λ (k : ℕ). m * k) whole ∙ mul-add m t (suc q) ∙ ap (λ (k : ℕ). m * t + k) (mul-suc m q) in
    let next : (t + 1) * m ≡ m * t + m = ap (λ (k : ℕ). k * m) (add-one t) ∙ mul_comm (suc t) m ∙ mul-suc m t in
    let is : n / m ≡ t = div-eq_of_lt-le m (omega (arith, mul_comm t m, parts, low, rest)) (omega (arith, next, parts, low, rest)) in
    omega (arith, is, whole)

pub lift-div : (x : ℤ) (m l n : ℕ) → 0 < m → x +ℤ pos (m * l) ≡ pos n → pos (n / m) -ℤ pos l ≡ shr_z x m
lift-div (pos a) m l n h e =
    let is : n / m ≡ a / m + l = ap (λ (k : ℕ). k / m) (sym (pos-injective e)) ∙ lift-above a m l h in
    ap (λ (k : ℕ). pos k -ℤ pos l) is ∙ solve (pos (a / m) ∷ pos l ∷ []) (var 0 ⊕ var 1 ⊖ var 1) (var 0) tt
lift-div (negsuc a) m l n h e =
    let sum : n + suc a ≡ m * l =
    pos-injective
    (ap (λ z. z +ℤ pos (suc a)) (sym e)
    ∙ ap (λ z. z +ℤ pos (m * l) +ℤ pos (suc a)) (minus (pos (suc a)))
    ∙ solve (pos (suc a) ∷ pos (m * l) ∷ []) (lit (pos 0) ⊖ var 0 ⊕ var 1 ⊕ var 0) (var 1) tt) in
    let is = lift-below a m l n h sum in
    ap (λ (k : ℕ). pos (n / m) -ℤ pos k) (sym is)
    ∙ solve (pos (n / m) ∷ pos (suc (a / m)) ∷ []) (var 0 ⊖ (var 0 ⊕ var 1)) (lit (pos 0) ⊖ var 1) tt
    ∙ sym (minus (pos (suc (a / m))))

-- ---- a half to the greater

-- of a size it is a half up
up-size : (n m e : ℕ) → 0 < e → m % 2 ≡ 0 → (n / e + m / 2) / m ≡ half_up n (m * e)
up-size n m e h even =
    let twice : 2 * (m / 2) ≡ m = omega (arith, even) in
    ap (λ (k : ℕ). (n / e + m / 2) / k) (sym twice) ∙ sym (half-by-steps n (m / 2) e h) ∙ ap (λ (k : ℕ). half_up n (k * e)) twice

-- of -(q + 1) over 2h it is minus q's over 2h, a half up
up-below : (q h m : ℕ) → 0 < h → 2 * h ≡ m → shr_z (negsuc q +ℤ pos h) m ≡ neg_ℤ (pos ((q + h) / m))
up-below q h m some twice =
    subℕ-ind h (suc q) (λ z. shr_z z m ≡ neg_ℤ (pos ((q + h) / m)))
    (λ n e.
    let more : q + h ≡ n + 1 * m = omega arith in
    let is : (q + h) / m ≡ suc (n / m) = ap (λ (k : ℕ). k / m) more ∙ add-mul-div_right n 1 (omega arith) ∙ add-one (n / m) in
    ap (λ (k : ℕ). neg_ℤ (pos k)) (sym is))
    (λ n e.
    let here : n / m ≡ 0 = div-eq_of_lt (omega arith) in
    let there : (q + h) / m ≡ 0 = div-eq_of_lt (omega arith) in
    ap pos here ∙ ap (λ (k : ℕ). neg_ℤ (pos k)) (sym there))

-- ---- the sum moved outwards

-- one less of a number that is no multiple of e has the same whole part over e
same-part : (n e : ℕ) → 0 < e → T (not (eqb (suc n % e) 0)) → n / e ≡ suc n / e
same-part n e h t =
    let q = suc n / e in
    let left : 0 < suc n % e = not-zero (suc n % e) t in
    div-eq_of_lt-le e (omega (arith, mul_comm q e, div-add-mod (suc n) e)) (omega (arith, ap (λ (k : ℕ). k * e) (add-one q), mul_comm (suc q) e, mul-suc e q, div-add-mod (suc n) e, mod-lt (suc n) h))
  where
    not-zero : (k : ℕ) → T (not (eqb k 0)) → 0 < k
    not-zero zero t = absurd t
    not-zero (suc k) t = omega arith

moved-shift : (n e : ℕ) → 0 < e → shr_z (moved e (negsuc n)) e ≡ negsuc (suc n / e)
unfolding moved
moved-shift n e h = cond_ind (eqb (suc n % e) 0) (negsuc (suc n)) (negsuc n) (λ z. shr_z z e ≡ negsuc (suc n / e)) (λ t. refl) (λ t. ap negsuc (same-part n e h t))

pub moved-nearest : (z : ℤ) (m e : ℕ) → 0 < m → m % 2 ≡ 0 → 0 < e → half_to_greater m e (moved e z) ≡ nearest z (m * e)
unfolding half_to_greater moved nearest
moved-nearest (pos n) m e some even h = ap pos (up-size n m e h even)
moved-nearest (negsuc n) m e some even h =
    let half : 0 < m / 2 = omega (arith, even) in
    let twice : 2 * (m / 2) ≡ m = omega (arith, even) in
    ap (λ x. shr_z (x +ℤ pos (m / 2)) m) (moved-shift n e h) ∙ up-below (suc n / e) (m / 2) m half twice ∙ ap (λ (k : ℕ). neg_ℤ (pos k)) (up-size (suc n) m e h even)

-- it is at most one farther from zero
pub moved-size : (z : ℤ) (e : ℕ) → nat_abs (moved e z) ≤ nat_abs z + 1
unfolding moved
moved-size (pos n) e = omega arith
moved-size (negsuc n) e = cond_ind (eqb (suc n % e) 0) (negsuc (suc n)) (negsuc n) (λ z. nat_abs z ≤ suc n + 1) (λ t. omega arith) (λ t. omega arith)
