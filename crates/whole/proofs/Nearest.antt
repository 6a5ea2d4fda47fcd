-- What `nearest` means and the laws by which every other crate uses it: those of `half_up`, with the sign put back.
use mathlib.Core.Path.{◌≡◌, refl, sym, ap, ◌∙◌, subst}
use mathlib.Core.List.{[], ◌∷◌}
use mathlib.Core.Logic.{◌⊎◌, inl, inr}
use Prim.Native.Nat.{ℕ, zero, suc, ◌+◌, ◌*◌, ◌-◌, ◌≤◌, ◌<◌}
use native.Mathlib.Omega.{arith}
use native.Mathlib.Nat.{div-eq_of_lt, zero-div, mul-suc, eq-or-lt_of_le}
use lib.Dec.{T, leb→le}
use lib.IntN.{ℤ, pos, negsuc, neg_ℤ, nat_abs, ◌+ℤ◌, ◌-ℤ◌, ◌*ℤ◌, neg_ℤ-neg_ℤ}
use lib.Signed.{◌≤ℤ◌, le_z}
use Rattle.whole.specs.Nearest.{half_up, nearest, Rounded}
use Rattle.whole.proofs.Ring.{var, lit, ◌⊕◌, ◌⊖◌, ◌⊗◌, solve, minus}
use Rattle.whole.proofs.Order.{subℕ-ind, le_of, ≤ℤ-pos}
use Rattle.whole.proofs.Fit.{nat_abs-neg}
use Rattle.whole.proofs.HalfUp.{half-low, half_high, half-unique, half-scale, half-whole, half-mono}

-- ---- the sign

half-nought : (d : ℕ) → half_up 0 d ≡ 0
unfolding half_up
half-nought zero = zero-div 0
half-nought (suc d) = div-eq_of_lt (omega arith)

pub nearest-natural : (n d : ℕ) → nearest (pos n) d ≡ pos (half_up n d)
unfolding nearest
nearest-natural n d = refl

pub nearest_negative : (n d : ℕ) → nearest (neg_ℤ (pos n)) d ≡ neg_ℤ (pos (half_up n d))
unfolding nearest
nearest_negative zero d = ap pos (half-nought d) ∙ ap (λ (n : ℕ). neg_ℤ (pos n)) (sym (half-nought d))
nearest_negative (suc n) d = refl

-- the mirror: nearest of minus z is minus nearest of z
pub nearest-minus : (z : ℤ) (d : ℕ) → nearest (neg_ℤ z) d ≡ neg_ℤ (nearest z d)
unfolding nearest
nearest-minus (pos n) d = nearest_negative n d
nearest-minus (negsuc n) d = sym (neg_ℤ-neg_ℤ (pos (half_up (suc n) d)))

-- the size of what z / d is rounded to is its size, rounded
pub size-nearest : (z : ℤ) (d : ℕ) → nat_abs (nearest z d) ≡ half_up (nat_abs z) d
unfolding nearest
size-nearest (pos n) d = refl
size-nearest (negsuc n) d = nat_abs-neg (pos (half_up (suc n) d))

-- ---- in the paper's words: at most a half away, and a half away from zero

apart : (a b : ℕ) → nat_abs (pos a -ℤ pos b) ≡ a - b + (b - a)
apart a zero = omega arith
apart a (suc b) = subℕ-ind a (suc b) (λ z. nat_abs z ≡ a - suc b + (suc b - a)) (λ n e. omega arith) (λ n e. omega arith)

-- a number and its negative are rounded to a number and its negative
rounded-minus : {z : ℤ} {d : ℕ} {n : ℤ} → Rounded z d n → Rounded (neg_ℤ z) d (neg_ℤ n)
rounded-minus {z} {d} {n} r =
    let same : nat_abs (neg_ℤ z -ℤ pos d *ℤ neg_ℤ n) ≡ nat_abs (z -ℤ pos d *ℤ n) =
    ap nat_abs
    (ap (λ x. x -ℤ pos d *ℤ neg_ℤ n) (minus z)
    ∙ ap (λ x. pos 0 -ℤ z -ℤ pos d *ℤ x) (minus n)
    ∙ solve (z ∷ pos d ∷ n ∷ []) (lit (pos 0) ⊖ var 0 ⊖ var 1 ⊗ (lit (pos 0) ⊖ var 2)) (lit (pos 0) ⊖ (var 0 ⊖ var 1 ⊗ var 2)) tt
    ∙ sym (minus (z -ℤ pos d *ℤ n)))
    ∙ nat_abs-neg (z -ℤ pos d *ℤ n) in
    record {
      close = omega (arith, same, r.close);
      away = λ half. subst (λ (a : ℕ). a ≤ d * nat_abs (neg_ℤ n)) (sym (nat_abs-neg z)) (subst (λ (a : ℕ). nat_abs z ≤ d * a) (sym (nat_abs-neg n)) (r.away (omega (arith, same, half))));
    }

-- a size is rounded so
half-rounded : (n d : ℕ) → 0 < d → Rounded (pos n) d (pos (half_up n d))
half-rounded n d h =
    let x = d * half_up n d in
    record { close = omega (arith, apart n x, half-low n d, half_high n d h); away = λ half. omega (arith, apart n x, half-low n d, half_high n d h, half) }

pub nearest-rounded : (z : ℤ) (d : ℕ) → 0 < d → Rounded z d (nearest z d)
unfolding nearest
nearest-rounded (pos n) d h = half-rounded n d h
nearest-rounded (negsuc n) d h = rounded-minus (half-rounded (suc n) d h)

-- no other number is
rounded-half : (n d m : ℕ) → 0 < d → Rounded (pos n) d (pos m) → m ≡ half_up n d
rounded-half n d m h r = sym (half-unique n d m (omega (arith, apart n (d * m), r.close)) (below (eq-or-lt_of_le r.close)))
  where
    below : (2 * nat_abs (pos n -ℤ pos (d * m)) ≡ d) ⊎ (2 * nat_abs (pos n -ℤ pos (d * m)) < d) → 2 * n < 2 * (d * m) + d
    below (inl half) = omega (arith, r.away half)
    below (inr less) = omega (arith, apart n (d * m))

-- a number below zero is too far from a size
wrong-side : (n d m : ℕ) → 0 < d → Rounded (pos n) d (negsuc m) → ⊥
wrong-side n d m h r = omega (arith, mul-suc d m, ap (λ x. nat_abs (pos n +ℤ x)) (neg_ℤ-neg_ℤ (pos (d * suc m))), r.close)

rounded-size : (n d : ℕ) (m : ℤ) → 0 < d → Rounded (pos n) d m → m ≡ nearest (pos n) d
unfolding nearest
rounded-size n d (pos m) h r = ap pos (rounded-half n d m h r)
rounded-size n d (negsuc m) h r = absurd (wrong-side n d m h r)

pub rounded-nearest : (z : ℤ) (d : ℕ) (n : ℤ) → 0 < d → Rounded z d n → n ≡ nearest z d
rounded-nearest (pos a) d n h r = rounded-size a d n h r
rounded-nearest (negsuc a) d n h r = sym (neg_ℤ-neg_ℤ n) ∙ ap neg_ℤ (rounded-size (suc a) d (neg_ℤ n) h (rounded-minus r)) ∙ sym (nearest-minus (pos (suc a)) d)

-- n and a half goes to n + 1, and its negative to the negative of n + 1
pub half-away : (z d n : ℕ) → 0 < d → 2 * z ≡ d * (2 * n + 1) → (nearest (pos z) d ≡ pos (n + 1)) × (nearest (neg_ℤ (pos z)) d ≡ neg_ℤ (pos (n + 1)))
unfolding nearest
half-away z d n h half =
    let up : half_up z d ≡ n + 1 = half-unique z d (n + 1) (omega arith) (omega arith) in
    (ap pos up, nearest_negative z d ∙ ap (λ (m : ℕ). neg_ℤ (pos m)) up)

-- ---- laws

-- both parts of the fraction m times as large
pub nearest-scale : (m : ℕ) (z : ℤ) (d : ℕ) → 0 < m → 0 < d → nearest (pos m *ℤ z) (m * d) ≡ nearest z d
unfolding nearest
nearest-scale m (pos n) d hm hd = ap pos (half-scale m n d hm)
nearest-scale m (negsuc n) d hm hd = nearest_negative (m * suc n) (m * d) ∙ ap (λ (q : ℕ). neg_ℤ (pos q)) (half-scale m (suc n) d hm)

-- a whole value is kept
pub nearest-whole : (n : ℤ) (d : ℕ) → 0 < d → nearest (pos d *ℤ n) d ≡ n
unfolding nearest
nearest-whole (pos n) d h = ap pos (half-whole n d h)
nearest-whole (negsuc n) d h = nearest_negative (d * suc n) d ∙ ap (λ (q : ℕ). neg_ℤ (pos q)) (half-whole (suc n) d h)

-- signs put back keep the order
minus_plus : (a b : ℕ) → neg_ℤ (pos a) ≤ℤ pos b
minus_plus a b =
    le_of (a + b) (solve (pos a ∷ pos b ∷ []) (var 1) (lit (pos 0) ⊖ var 0 ⊕ (var 0 ⊕ var 1)) tt ∙ ap (λ x. x +ℤ pos (a + b)) (sym (minus (pos a))))

minus_minus : {a b : ℕ} → a ≤ b → neg_ℤ (pos b) ≤ℤ neg_ℤ (pos a)
minus_minus {a} {b} h =
    let g = b - a in
    let e : b ≡ a + g = omega arith in
    le_of g
    (minus (pos a)
    ∙ solve (pos a ∷ pos g ∷ []) (lit (pos 0) ⊖ var 0) (lit (pos 0) ⊖ (var 0 ⊕ var 1) ⊕ var 1) tt
    ∙ ap (λ (x : ℕ). pos 0 -ℤ pos x +ℤ pos g) (sym e)
    ∙ ap (λ x. x +ℤ pos g) (sym (minus (pos b))))

pub nearest-mono : {z w : ℤ} (d : ℕ) → 0 < d → z ≤ℤ w → nearest z d ≤ℤ nearest w d
unfolding nearest
nearest-mono {z} {w} d h k = go z w k.le
  where
    go : (z w : ℤ) → T (le_z z w) → nearest z d ≤ℤ nearest w d
    go (pos a) (pos b) t = ≤ℤ-pos (half-mono d h (leb→le a b t))
    go (pos a) (negsuc b) t = absurd t
    go (negsuc a) (pos b) t = minus_plus (half_up (suc a) d) (half_up b d)
    go (negsuc a) (negsuc b) t = let l : b ≤ a = leb→le b a t in minus_minus (half-mono d h (omega arith))

-- between whole bounds the rounded number stays between them
pub nearest-above : {z n : ℤ} (d : ℕ) → 0 < d → (pos d *ℤ n) ≤ℤ z → n ≤ℤ nearest z d
nearest-above {z} {n} d h k = subst (λ x. x ≤ℤ nearest z d) (nearest-whole n d h) (nearest-mono d h k)

pub nearest-below : {z n : ℤ} (d : ℕ) → 0 < d → z ≤ℤ (pos d *ℤ n) → nearest z d ≤ℤ n
nearest-below {z} {n} d h k = subst (λ x. nearest z d ≤ℤ x) (nearest-whole n d h) (nearest-mono d h k)

-- a fraction within n either way rounds to a number within n either way
pub nearest-size : (z : ℤ) (d n : ℕ) → 0 < d → nat_abs z ≤ d * n → nat_abs (nearest z d) ≤ n
nearest-size z d n h k = omega (arith, size-nearest z d, half-mono d h k, half-whole n d h)
