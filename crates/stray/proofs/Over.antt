-- One fraction, written over two divisors: s·z is t·v where s·c is t·e, so z / c is v / e. What is within a bound, or meets it, the one way does so the other way too. So what is said of the sums of
-- document 01 holds of the published values.
use mathlib.Core.Path.{◌≡◌, sym, ap, ◌∙◌}
use mathlib.Core.List.{[], ◌∷◌}
use Prim.Native.Nat.{ℕ, ◌*◌, ◌-◌, ◌^◌, ◌<◌}
use native.Mathlib.Nat.{mul_left_comm, mul-le-mul, le_refl, le_of_mul-le-mul_left, eq_of_mul-eq-mul_left}
use lib.IntN.{ℤ, pos, nat_abs, ◌+ℤ◌, ◌-ℤ◌, ◌*ℤ◌}
use Rattle.whole.proofs.Ring.{var, ◌⊕◌, ◌⊖◌, ◌⊗◌, solve, *ℤ-assoc}
use Rattle.whole.proofs.Fit.{nat_abs_mul}
use Rattle.curve.specs.declared.Basis.{Basis}
use Rattle.curve.specs.Published.{denominator}
use Rattle.curve.specs.Span.{fold, divisor}
use Rattle.curve.proofs.Span.{fold-pos, same-divisors}
use Rattle.stray.specs.Chord.{Bound, Within, Meets, off_chord, finer}

module _ (s t : ℕ) where
  module _ (f : Bound) (z v : ℤ) (c e : ℕ) (some : 0 < t) (values : pos s *ℤ z ≡ pos t *ℤ v) (under : s * c ≡ t * e) where
    size : t * (f.under * nat_abs v) ≡ s * (f.under * nat_abs z)
    size =
        mul_left_comm t f.under (nat_abs v)
        ∙ ap (λ (n : ℕ). f.under * n) (sym (nat_abs_mul (pos t) v) ∙ ap nat_abs (sym values) ∙ nat_abs_mul (pos s) z)
        ∙ mul_left_comm f.under s (nat_abs z)

    most : s * (f.over * c) ≡ t * (f.over * e)
    most = mul_left_comm s f.over c ∙ ap (λ (n : ℕ). f.over * n) under ∙ mul_left_comm f.over t e

    pub within-over : Within f z c → Within f v e
    within-over h = le_of_mul-le-mul_left (rw (size, ← most) (mul-le-mul (le_refl s) h)) some

    pub meets-over : Meets f z c → Meets f v e
    meets-over h = eq_of_mul-eq-mul_left t some (f.under * nat_abs v) (f.over * e) (size ∙ ap (λ (n : ℕ). s * n) h ∙ most)

  -- a chord, and how far a value is from it
  pub off-over : (w j : ℕ) (a c z a' c' z' : ℤ) → pos s *ℤ a ≡ pos t *ℤ a' → pos s *ℤ c ≡ pos t *ℤ c' → pos s *ℤ z ≡ pos t *ℤ z' → pos s *ℤ off_chord w j a c z ≡ pos t *ℤ off_chord w j a' c' z'
  off-over w j a c z a' c' z' on-a on-c on-z =
      times (pos s) a c z ∙ (λ i. pos w *ℤ on-z i -ℤ (pos (w - j) *ℤ on-a i +ℤ pos j *ℤ on-c i)) ∙ sym (times (pos t) a' c' z')
    where
      times : (m a c z : ℤ) → m *ℤ off_chord w j a c z ≡ pos w *ℤ (m *ℤ z) -ℤ (pos (w - j) *ℤ (m *ℤ a) +ℤ pos j *ℤ (m *ℤ c))
      times m a c z =
          solve (m ∷ pos w ∷ pos (w - j) ∷ pos j ∷ a ∷ c ∷ z ∷ []) (var 0 ⊗ (var 1 ⊗ var 6 ⊖ (var 2 ⊗ var 4 ⊕ var 3 ⊗ var 5))) (var 1 ⊗ (var 0 ⊗ var 6) ⊖ (var 2 ⊗ (var 0 ⊗ var 4) ⊕ var 3 ⊗ (var 0 ⊗ var 5))) tt

  pub finer-over : (l : ℕ) (z v : ℤ) → pos s *ℤ z ≡ pos t *ℤ v → pos s *ℤ finer l z ≡ pos t *ℤ finer l v
  finer-over l z v e = swapped (pos s) (pos (2 ^ (3 * l))) z ∙ ap (finer l) e ∙ sym (swapped (pos t) (pos (2 ^ (3 * l))) v)
    where
      swapped : (x y z : ℤ) → x *ℤ (y *ℤ z) ≡ y *ℤ (x *ℤ z)
      swapped x y z = solve (x ∷ y ∷ z ∷ []) (var 0 ⊗ (var 1 ⊗ var 2)) (var 1 ⊗ (var 0 ⊗ var 2)) tt

-- ---- the sums of a basis, and its published values

-- what a published value at depth k is over
abbrev published_under : Basis → ℕ → ℕ
published_under b k = denominator b * 2 ^ (3 * k)

-- a sum over the basis' divisor and a published value over its own are one fraction
pub record OneFraction (b : Basis) (sum value : ℤ) : Type 0 where
  pub same : pos (denominator b) *ℤ sum ≡ pos (fold b) *ℤ value

-- over the divisor of l depths more; and a whole number
pub finer-one : (l : ℕ) {b : Basis} {sum value : ℤ} → OneFraction b sum value → OneFraction b (finer l sum) (finer l value)
finer-one l {b} {sum} {value} one = record { same = finer-over (denominator b) (fold b) l sum value one.same }

pub whole-one : (b : Basis) (k : ℕ) (n : ℤ) → OneFraction b (pos (divisor b k) *ℤ n) (pos (published_under b k) *ℤ n)
whole-one b k n = record { same = sym (*ℤ-assoc (pos (denominator b)) (pos (divisor b k)) n) ∙ ap (λ (m : ℕ). pos m *ℤ n) (same-divisors b k) ∙ *ℤ-assoc (pos (fold b)) (pos (published_under b k)) n }

module _ (k w j : ℕ) (f : Bound) {b : Basis} {a c z a' c' z' : ℤ} (on-a : OneFraction b a a') (on-c : OneFraction b c c') (on-z : OneFraction b z z') where
  off : pos (denominator b) *ℤ off_chord w j a c z ≡ pos (fold b) *ℤ off_chord w j a' c' z'
  off = off-over (denominator b) (fold b) w j a c z a' c' z' on-a.same on-c.same on-z.same

  under : denominator b * (w * divisor b k) ≡ fold b * (w * published_under b k)
  under = mul_left_comm (denominator b) w (divisor b k) ∙ ap (λ (n : ℕ). w * n) (same-divisors b k) ∙ mul_left_comm w (fold b) (published_under b k)

  pub within-published : Within f (off_chord w j a c z) (w * divisor b k) → Within f (off_chord w j a' c' z') (w * published_under b k)
  within-published = within-over (denominator b) (fold b) f (off_chord w j a c z) (off_chord w j a' c' z') (w * divisor b k) (w * published_under b k) (fold-pos b) off under

  pub meets-published : Meets f (off_chord w j a c z) (w * divisor b k) → Meets f (off_chord w j a' c' z') (w * published_under b k)
  meets-published = meets-over (denominator b) (fold b) f (off_chord w j a c z) (off_chord w j a' c' z') (w * divisor b k) (w * published_under b k) (fold-pos b) off under
