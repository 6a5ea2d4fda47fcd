-- The double nearest to a fraction z / d, and what the operations make of values: each works its result out exactly and rounds it once, so a sum of values is the double
-- of the exact sum, and a half that of the exact half. Only the sign of a zero is apart from its value, and no -0 comes in here.
use mathlib.Core.Path.{◌≡◌, refl, sym, ap, ◌∙◌}
use mathlib.Core.Bool.{Bool, true, false, not, ◌&&◌}
use mathlib.Core.List.{[], ◌∷◌}
use Prim.Native.Nat.{ℕ, zero, suc, ◌+◌, ◌*◌, ◌-◌, ◌≤◌, ◌<◌}
use native.Mathlib.Nat.{mul-pos, lt_irrefl}
use native.Mathlib.Omega.{arith}
use borrow.Author.Tests.{ltb-true, ltb-false}
use lib.Dec.{T, ltb, eqb, ltb→lt, nltb→le, lit<}
use lib.IntN.{ℤ, pos, negsuc, neg_ℤ, nat_abs, ◌+ℤ◌, ◌-ℤ◌, ◌*ℤ◌, +ℤ_comm, pos-ne-negsuc}
use lib.Ieee.{Float, nan, inf, fin, binary64, unlike, up, down, round, sum, add, div}
use lib.Ieee.Fits.{up_pos, down_pos}
use lib.Ieee.Scale.{round_same}
use Rattle.whole.proofs.Ring.{var, lit, ◌⊕◌, ◌⊖◌, ◌⊗◌, solve, cond_ind, minus}
use Rattle.whole.proofs.Order.{pos-less}
use Rattle.whole.proofs.Fit.{nat_abs_mul}
use Rattle.doubles.specs.Exact.{signed, Value, minus_zero}
use Rattle.doubles.specs.Midpoint.{two}
use Rattle.doubles.proofs.Values.{signed-times}

unfoldable pub over : ℤ → ℕ → Float
over (pos n) d = round binary64 false n d
over (negsuc n) d = round binary64 true (suc n) d

clash : false ≡ true → ⊥
clash e = let z : ◌≡◌ {A = ℕ} 0 1 = cc in omega arith

-- ---- equal fractions have one double

no_sign : (p q : ℕ) → 0 < q → pos p ≡ neg_ℤ (pos q) → ⊥
no_sign p zero h e = omega arith
no_sign p (suc q) h e = pos-ne-negsuc p q e

sizes : (y : ℤ) (d : ℕ) (z : ℤ) (c : ℕ) → y *ℤ pos d ≡ z *ℤ pos c → nat_abs y * d ≡ nat_abs z * c
sizes y d z c e = sym (nat_abs_mul y (pos d)) ∙ ap nat_abs e ∙ nat_abs_mul z (pos c)

pub over-same : (y : ℤ) (c : ℕ) (z : ℤ) (d : ℕ) → 0 < c → 0 < d → y *ℤ pos d ≡ z *ℤ pos c → over y c ≡ over z d
unfolding over
over-same (pos a) c (pos b) d hc hd e = round_same binary64 false a c b d hc hd (sizes (pos a) d (pos b) c e)
over-same (pos a) c (negsuc b) d hc hd e = absurd (no_sign (a * d) (suc b * c) (mul-pos (omega arith) hc) e)
over-same (negsuc a) c (pos b) d hc hd e = absurd (no_sign (b * c) (suc a * d) (mul-pos (omega arith) hd) (sym e))
over-same (negsuc a) c (negsuc b) d hc hd e = round_same binary64 true (suc a) c (suc b) d hc hd (sizes (negsuc a) d (negsuc b) c e)

-- a rounded magnitude with its sign, -0 left out
pub round-over : (s : Bool) (n d : ℕ) → (s ≡ true → 0 < n) → round binary64 s n d ≡ over (signed s n) d
unfolding over
round-over false n d h = refl
round-over true zero d h = absurd (lt_irrefl 0 (h refl))
round-over true (suc n) d h = refl

-- ---- a sum

less : (a b : ℕ) → a < b → neg_ℤ (pos (b - a)) ≡ pos a -ℤ pos b
less a b h =
    let e : b ≡ b - a + a = omega arith in
    minus (pos (b - a))
    ∙ solve (pos (b - a) ∷ pos a ∷ []) (lit (pos 0) ⊖ var 0) (var 1 ⊖ (var 0 ⊕ var 1)) tt
    ∙ ap (λ x. pos a -ℤ pos x) (sym e)

both : (a b : ℕ) → neg_ℤ (pos (a + b)) ≡ neg_ℤ (pos a) +ℤ neg_ℤ (pos b)
both a b =
    minus (pos (a + b))
    ∙ solve (pos a ∷ pos b ∷ []) (lit (pos 0) ⊖ (var 0 ⊕ var 1)) (lit (pos 0) ⊖ var 0 ⊕ (lit (pos 0) ⊖ var 1)) tt
    ∙ ap (λ x. x +ℤ (pos 0 -ℤ pos b)) (sym (minus (pos a)))
    ∙ ap (λ x. neg_ℤ (pos a) +ℤ x) (sym (minus (pos b)))

sum_over : (s : Bool) (a : ℕ) (t : Bool) (b c : ℕ) → (s ≡ true → 0 < a) → (t ≡ true → 0 < b) → sum binary64 s a t b c ≡ over (signed s a +ℤ signed t b) c
unfolding sum
sum_over false a false b c h k = round-over false (a + b) c (λ e. absurd (clash e))
sum_over true a true b c h k = round-over true (a + b) c (λ e. positive (h refl)) ∙ ap (λ z. over z c) (both a b)
  where
    positive : 0 < a → 0 < a + b
    positive g = omega arith
sum_over false a true b c h k =
    cond_ind (ltb a b) (round binary64 true (b - a) c) (round binary64 false (a - b) c) (λ x. x ≡ over (pos a -ℤ pos b) c)
    (λ q. round-over true (b - a) c (λ e. left (ltb→lt a b q)) ∙ ap (λ z. over z c) (less a b (ltb→lt a b q)))
    (λ q. round-over false (a - b) c (λ e. absurd (clash e)) ∙ ap (λ z. over z c) (pos-less a b (nltb→le a b q)))
  where
    left : a < b → 0 < b - a
    left g = omega arith
sum_over true a false b c h k =
    cond_ind (ltb a b) (round binary64 false (b - a) c) (round binary64 (ltb b a) (a - b) c) (λ x. x ≡ over (neg_ℤ (pos a) +ℤ pos b) c)
    (λ q. round-over false (b - a) c (λ e. absurd (clash e)) ∙ ap (λ z. over z c) (pos-less b a (below (ltb→lt a b q)) ∙ +ℤ_comm (pos b) (neg_ℤ (pos a))))
    (λ q. go (ltb b a) (ltb-true b a) (ltb-false b a) (nltb→le a b q))
  where
    below : a < b → a ≤ b
    below g = omega arith

    go : (r : Bool) → (r ≡ true → b < a) → (r ≡ false → a ≤ b) → b ≤ a → round binary64 r (a - b) c ≡ over (neg_ℤ (pos a) +ℤ pos b) c
    go true f g l = round-over true (a - b) c (λ e. left (f refl)) ∙ ap (λ z. over z c) (less b a (f refl) ∙ +ℤ_comm (pos b) (neg_ℤ (pos a)))
      where
        left : b < a → 0 < a - b
        left j = omega arith
    go false f g l = round-over false (a - b) c (λ e. absurd (clash e)) ∙ ap (λ z. over z c) (level (g refl) l)
      where
        level : a ≤ b → b ≤ a → pos (a - b) ≡ neg_ℤ (pos a) +ℤ pos b
        level i j = let e : a - b ≡ b - a = omega arith in ap pos e ∙ pos-less b a i ∙ +ℤ_comm (pos b) (neg_ℤ (pos a))

-- a negative double that is not -0 has a magnitude above 0
sized : (s : Bool) (m : ℕ) {a b : ℕ} → 0 < a → 0 < b → T (not (s && eqb m 0)) → s ≡ true → 0 < m * a * b
sized false m ha hb t e = absurd (clash e)
sized true zero ha hb t e = absurd t
sized true (suc m) ha hb t e = mul-pos (mul-pos (omega arith) ha) hb

-- x / e and y / f are u / c and v / d, so their sums are the same fraction
sum-crossed : (x y e f u v c d : ℤ) → x *ℤ c ≡ u *ℤ e → y *ℤ d ≡ v *ℤ f → (x *ℤ f +ℤ y *ℤ e) *ℤ (c *ℤ d) ≡ (u *ℤ d +ℤ v *ℤ c) *ℤ (e *ℤ f)
sum-crossed x y e f u v c d p q =
    solve (x ∷ y ∷ e ∷ f ∷ c ∷ d ∷ []) ((var 0 ⊗ var 3 ⊕ var 1 ⊗ var 2) ⊗ (var 4 ⊗ var 5)) (var 0 ⊗ var 4 ⊗ (var 3 ⊗ var 5) ⊕ var 1 ⊗ var 5 ⊗ (var 2 ⊗ var 4)) tt
    ∙ ap (λ z. z *ℤ (f *ℤ d) +ℤ y *ℤ d *ℤ (e *ℤ c)) p
    ∙ ap (λ z. u *ℤ e *ℤ (f *ℤ d) +ℤ z *ℤ (e *ℤ c)) q
    ∙ solve (u ∷ v ∷ e ∷ f ∷ c ∷ d ∷ []) (var 0 ⊗ var 2 ⊗ (var 3 ⊗ var 5) ⊕ var 1 ⊗ var 3 ⊗ (var 2 ⊗ var 4)) ((var 0 ⊗ var 5 ⊕ var 1 ⊗ var 4) ⊗ (var 2 ⊗ var 3)) tt

pub add-values : (x y : Float) (u v : ℤ) (c d : ℕ) → 0 < c → 0 < d → Value x u c → Value y v d → T (not (minus_zero x)) → T (not (minus_zero y))
    → add binary64 x y ≡ over (u *ℤ pos d +ℤ v *ℤ pos c) (c * d)
unfolding add Value minus_zero
add-values nan y u v c d hc hd p q zx zy = absurd p
add-values (inf s) y u v c d hc hd p q zx zy = absurd p
add-values (fin s m e) nan u v c d hc hd p q zx zy = absurd q
add-values (fin s m e) (inf t) u v c d hc hd p q zx zy = absurd q
add-values (fin s m e) (fin t n f) u v c d hc hd p q zx zy =
    sum_over s (m * up e * down f) t (n * up f * down e) (down e * down f) (sized s m (up_pos e) (down_pos f) zx) (sized t n (up_pos f) (down_pos e) zy)
    ∙ over-same (signed s (m * up e * down f) +ℤ signed t (n * up f * down e)) (down e * down f) (u *ℤ pos d +ℤ v *ℤ pos c) (c * d) (mul-pos (down_pos e) (down_pos f)) (mul-pos hc hd)
    (ap (λ z. (z +ℤ signed t (n * up f * down e)) *ℤ pos (c * d)) (signed-times s (m * up e) (down f))
    ∙ ap (λ z. (signed s (m * up e) *ℤ pos (down f) +ℤ z) *ℤ pos (c * d)) (signed-times t (n * up f) (down e))
    ∙ sum-crossed (signed s (m * up e)) (signed t (n * up f)) (pos (down e)) (pos (down f)) u v (pos c) (pos d) p q)

-- ---- a half

half-crossed : (x e u c : ℤ) → x *ℤ c ≡ u *ℤ e → x *ℤ pos 1 *ℤ (pos 2 *ℤ c) ≡ u *ℤ (pos 2 *ℤ e)
half-crossed x e u c p =
    solve (x ∷ c ∷ []) (var 0 ⊗ lit (pos 1) ⊗ (lit (pos 2) ⊗ var 1)) (lit (pos 2) ⊗ (var 0 ⊗ var 1)) tt
    ∙ ap (λ z. pos 2 *ℤ z) p
    ∙ solve (u ∷ e ∷ []) (lit (pos 2) ⊗ (var 0 ⊗ var 1)) (var 0 ⊗ (lit (pos 2) ⊗ var 1)) tt

unlike-plus : (s : Bool) → unlike s false ≡ s
unlike-plus false = refl
unlike-plus true = refl

pub half-value : (x : Float) (u : ℤ) (c : ℕ) → 0 < c → Value x u c → T (not (minus_zero x)) → div binary64 x two ≡ over u (2 * c)
unfolding div Value minus_zero
half-value nan u c hc p z = absurd p
half-value (inf s) u c hc p z = absurd p
half-value (fin s m e) u c hc p z =
    ap (λ t. round binary64 t (m * up e * 1) (2 * down e)) (unlike-plus s)
    ∙ round-over s (m * up e * 1) (2 * down e) (sized s m (up_pos e) (lit< tt) z)
    ∙ over-same (signed s (m * up e * 1)) (2 * down e) u (2 * c) (mul-pos (lit< tt) (down_pos e)) (mul-pos (lit< tt) hc)
    (ap (λ y. y *ℤ pos (2 * c)) (signed-times s (m * up e) 1) ∙ half-crossed (signed s (m * up e)) (pos (down e)) u (pos c) p)
