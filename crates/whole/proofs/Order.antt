-- The order of whole numbers with a sign. a ≤ b says that b is a and a natural number more (`le-gap`, `le_of`), so each law is an identity of `Ring`.
use mathlib.Core.Path.{◌≡◌, refl, sym, ap, ◌∙◌, subst}
use mathlib.Core.Bool.{true, false}
use mathlib.Core.List.{[], ◌∷◌}
use Prim.Native.Nat.{ℕ, suc, ◌+◌, ◌*◌, ◌-◌, ◌≤◌, ◌<◌}
use native.Mathlib.Omega.{arith}
use borrow.Author.Tests.{ltb-true}
use lib.Dec.{T, ltb, leb→le, le→leb, ltb→lt, nltb→le}
use lib.IntN.{ℤ, pos, negsuc, sub_ℕ, nat_abs, ◌+ℤ◌, ◌-ℤ◌, ◌*ℤ◌}
use lib.Signed.{◌≤ℤ◌, le_z, lt_z}
use Rattle.whole.proofs.Ring.{var, ◌⊕◌, ◌⊖◌, ◌⊗◌, solve, cond_ind}

pub pos-injective : {m n : ℕ} → pos m ≡ pos n → m ≡ n
pos-injective e = ap nat_abs e

-- a − b of two naturals is minus n + 1 or n, whichever makes up the difference
pub subℕ-ind : (a b : ℕ) (P : ℤ → Type 0) → ((n : ℕ) → b ≡ suc n + a → P (negsuc n)) → ((n : ℕ) → a ≡ n + b → P (pos n)) → P (sub_ℕ a b)
subℕ-ind a b P f g = cond_ind (ltb a b) (negsuc (b - suc a)) (pos (a - b)) P (λ t. f (b - suc a) (below (ltb→lt a b t))) (λ t. g (a - b) (above (nltb→le a b t)))
  where
    below : a < b → b ≡ suc (b - suc a) + a
    below h = omega arith

    above : b ≤ a → a ≡ a - b + b
    above h = omega arith

pub subℕ-pos : (a b n : ℕ) → a ≡ n + b → sub_ℕ a b ≡ pos n
subℕ-pos a b n e = subℕ-ind a b (λ z. z ≡ pos n) (λ m f. absurd (clash m f)) (λ m f. ap pos (same m f))
  where
    clash : (m : ℕ) → b ≡ suc m + a → ⊥
    clash m f = omega arith

    same : (m : ℕ) → a ≡ m + b → m ≡ n
    same m f = omega arith

pub subℕ-negsuc : (a b n : ℕ) → b ≡ suc n + a → sub_ℕ a b ≡ negsuc n
subℕ-negsuc a b n e = subℕ-ind a b (λ z. z ≡ negsuc n) (λ m f. ap negsuc (same m f)) (λ m f. absurd (clash m f))
  where
    clash : (m : ℕ) → a ≡ m + b → ⊥
    clash m f = omega arith

    same : (m : ℕ) → b ≡ suc m + a → m ≡ n
    same m f = omega arith

gap : (a b : ℤ) → T (le_z a b) → (n : ℕ) × (b ≡ a +ℤ pos n)
gap (pos x) (pos y) t = let h : x ≤ y = leb→le x y t in let e : y ≡ x + (y - x) = omega arith in (y - x, ap pos e)
gap (pos x) (negsuc y) t = absurd t
gap (negsuc x) (pos y) t = (y + suc x, sym (subℕ-pos (y + suc x) (suc x) y refl))
gap (negsuc x) (negsuc y) t =
    let h : y ≤ x = leb→le y x t in
    let e : suc x ≡ suc y + (x - y) = omega arith in
    (x - y, sym (subℕ-negsuc (x - y) (suc x) y e))

pub le-gap : {a b : ℤ} → a ≤ℤ b → (n : ℕ) × (b ≡ a +ℤ pos n)
le-gap {a} {b} h = gap a b h.le

le-more : (a : ℤ) (n : ℕ) → T (le_z a (a +ℤ pos n))
le-more (pos x) n = le→leb x (x + n) (omega arith)
le-more (negsuc x) n = subℕ-ind n (suc x) (λ z. T (le_z (negsuc x) z)) (λ m e. le→leb m x (omega arith)) (λ m e. tt)

pub le_of : (n : ℕ) {a b : ℤ} → b ≡ a +ℤ pos n → a ≤ℤ b
le_of n {a} {b} e = record { le = subst (λ z. T (le_z a z)) (sym e) (le-more a n) }

-- ---- laws

pub +-mono : {a b c d : ℤ} → a ≤ℤ b → c ≤ℤ d → (a +ℤ c) ≤ℤ (b +ℤ d)
+-mono {a} {b} {c} {d} h k =
    let (m, e) = le-gap h in
    let (n, f) = le-gap k in
    le_of (m + n) (ap (λ z. z +ℤ d) e ∙ ap (λ z. a +ℤ pos m +ℤ z) f ∙ solve (a ∷ pos m ∷ c ∷ pos n ∷ []) (var 0 ⊕ var 1 ⊕ (var 2 ⊕ var 3)) (var 0 ⊕ var 2 ⊕ (var 1 ⊕ var 3)) tt)

-- a weight that is not negative keeps the order
pub *-mono : (w : ℕ) {a b : ℤ} → a ≤ℤ b → (pos w *ℤ a) ≤ℤ (pos w *ℤ b)
*-mono w {a} h =
    let (n, e) = le-gap h in
    le_of (w * n) (ap (λ z. pos w *ℤ z) e ∙ solve (pos w ∷ a ∷ pos n ∷ []) (var 0 ⊗ (var 1 ⊕ var 2)) (var 0 ⊗ var 1 ⊕ var 0 ⊗ var 2) tt)

pub ≤ℤ-pos : {m n : ℕ} → m ≤ n → pos m ≤ℤ pos n
≤ℤ-pos {m} {n} h = record { le = le→leb m n h }

-- what the test of a sign says
pub below-zero : (z : ℤ) → lt_z z (pos 0) ≡ true → (n : ℕ) × (z ≡ negsuc n)
below-zero (pos n) e = absurd (clash n e)
  where
    clash : (n : ℕ) → lt_z (pos n) (pos 0) ≡ true → ⊥
    clash n e = omega (arith, ltb-true n 0 e)
below-zero (negsuc n) e = (n, refl)

pub not-below-zero : (z : ℤ) → lt_z z (pos 0) ≡ false → (n : ℕ) × (z ≡ pos n)
not-below-zero (pos n) e = (n, refl)
not-below-zero (negsuc n) e = absurd (clash e)
  where
    clash : true ≡ false → ⊥
    clash e = let z : ◌≡◌ {A = ℕ} 0 1 = cc in omega arith

-- a natural number less another that is not above it
pub pos-less : (a b : ℕ) → b ≤ a → pos (a - b) ≡ pos a -ℤ pos b
pos-less a b h =
    let e : a ≡ a - b + b = omega arith in
    solve (pos (a - b) ∷ pos b ∷ []) (var 0) (var 0 ⊕ var 1 ⊖ var 1) tt ∙ ap (λ x. pos x -ℤ pos b) (sym e)
