-- 004's recursion on a span's own interval is the matrix of 001: from the knot s + 3 on, only N_{s+3,1} is not 0, so each N is a polynomial in i and h that the
-- recursion itself writes down (`polynomial`), and the four of order 4 are the matrix' columns.
use mathlib.Core.Path.{◌≡◌, refl, sym, ap, ◌∙◌}
use mathlib.Core.Bool.{Bool, true, false, ◌&&◌, cond}
use mathlib.Core.List.{List, [], ◌∷◌}
use Prim.Native.Nat.{ℕ, zero, suc, ◌+◌, ◌*◌, ◌≤◌, ◌<◌}
use native.Mathlib.Nat.{mul-le-mul_right, add-suc, suc-mul}
use native.Mathlib.Omega.{arith}
use borrow.Author.Tests.{le-leb, lt-leb, lt-ltb, le-ltb, ne_eqb}
use lib.Dec.{eqb, leb, ltb}
use lib.IntN.{ℤ, pos, ◌+ℤ◌, ◌-ℤ◌, ◌*ℤ◌}
use Rattle.whole.proofs.Ring.{Ex, var, ◌⊕◌, ◌⊖◌, ◌⊗◌, ev, solve}
use Rattle.curve.specs.declared.Four.{Four}
use Rattle.curve.specs.Four.{dot}
use Rattle.curve.specs.Published.{cubic, b_spline_matrix}
use Rattle.curve.specs.BSpline.{order}
use Rattle.curve.proofs.Reflect.{num, p, i, h, values, matrixᵉ, cubicᵉ}

-- how far the parameter is past knot s + r, in h-ths
offset : ℕ → Ex
offset r = num 3 ⊗ h ⊖ num r ⊗ h ⊕ i

-- N_{s+r,k+1} as a polynomial, by the recursion
polynomial : ℕ → ℕ → Ex
polynomial zero r = cond (eqb r 3) (num 1) (num 0)
polynomial (suc k) r = offset r ⊗ polynomial k r ⊕ (num (suc (suc k)) ⊗ h ⊖ offset r) ⊗ polynomial k (suc r)

module _ (s n x : ℕ) (below : x < n) (q : Four) where
  -- the parameter's numerator, in the interval from knot s + 3
  u : ℕ
  u = (s + 3) * n + x

  r⁰ : List ℤ
  r⁰ = values q (pos x) (pos n)

  -- knot s + r + 1 is reached where r is below 3, and knot s + r is not where r is above
  reached : (r : ℕ) → r < 3 → suc (s + r) * n ≤ u
  unfolding u
  reached r k = omega (arith, mul-le-mul_right {m = suc (s + r)} {n = s + 3} n (omega arith))

  ahead : (r : ℕ) → 3 < r → u < (s + r) * n
  unfolding u
  ahead r k = omega (arith, mul-le-mul_right {m = suc (s + 3)} {n = s + r} n (omega arith), suc-mul (s + 3) n)

  -- N_{s+r,1} by its two tests
  indicator : (r : ℕ) (b c : Bool) → leb ((s + r) * n) u ≡ b → ltb u (suc (s + r) * n) ≡ c → order 0 n (s + r) u ≡ cond (b && c) (pos 1) (pos 0)
  unfolding order
  indicator r b c e f = rw (e, f)

  before : (r : ℕ) → r < 3 → order 0 n (s + r) u ≡ pos 0
  before r k = indicator r true false (le-leb ((s + r) * n) u (omega (arith, reached r k, suc-mul (s + r) n))) (le-ltb u (suc (s + r) * n) (reached r k))

  here : order 0 n (s + 3) u ≡ pos 1
  unfolding u
  here = indicator 3 true true (le-leb ((s + 3) * n) u (omega arith)) (lt-ltb u (suc (s + 3) * n) (omega (arith, suc-mul (s + 3) n)))

  after : (r : ℕ) → 3 < r → order 0 n (s + r) u ≡ pos 0
  after r k = indicator r false (ltb u (suc (s + r) * n)) (lt-leb ((s + r) * n) u (ahead r k)) refl

  base : (r : ℕ) → order 0 n (s + r) u ≡ ev r⁰ (polynomial 0 r)
  unfolding polynomial
  base zero = before 0 (omega arith)
  base (suc zero) = before 1 (omega arith)
  base (suc (suc zero)) = before 2 (omega arith)
  base (suc (suc (suc zero))) = here
  base (suc (suc (suc (suc r)))) = after (suc (suc (suc (suc r)))) (omega arith) ∙ sym (ap (λ b. ev r⁰ (cond b (num 1) (num 0))) (ne_eqb (suc (suc (suc (suc r)))) 3 (omega arith)))

  -- one step of (94), in the offset
  step : (k r : ℕ) → order (suc k) n (s + r) u ≡ ev r⁰ (offset r) *ℤ order k n (s + r) u +ℤ (pos (suc (suc k)) *ℤ pos n -ℤ ev r⁰ (offset r)) *ℤ order k n (s + suc r) u
  unfolding order offset r⁰ u
  step k r =
      ap (λ z. z *ℤ order k n (s + r) u +ℤ (pos ((s + r + suc (suc k)) * n) -ℤ pos u) *ℤ order k n (suc (s + r)) u)
      (solve (pos s ∷ pos r ∷ pos n ∷ pos x ∷ []) ((var 0 ⊕ num 3) ⊗ var 2 ⊕ var 3 ⊖ (var 0 ⊕ var 1) ⊗ var 2) (num 3 ⊗ var 2 ⊖ var 1 ⊗ var 2 ⊕ var 3) tt)
      ∙ ap (λ z. ev r⁰ (offset r) *ℤ order k n (s + r) u +ℤ z *ℤ order k n (suc (s + r)) u)
      (solve (pos s ∷ pos r ∷ pos n ∷ pos x ∷ pos (suc (suc k)) ∷ []) ((var 0 ⊕ var 1 ⊕ var 4) ⊗ var 2 ⊖ ((var 0 ⊕ num 3) ⊗ var 2 ⊕ var 3)) (var 4 ⊗ var 2 ⊖ (num 3 ⊗ var 2 ⊖ var 1 ⊗ var 2 ⊕ var 3)) tt)
      ∙ ap (λ j. ev r⁰ (offset r) *ℤ order k n (s + r) u +ℤ (pos (suc (suc k)) *ℤ pos n -ℤ ev r⁰ (offset r)) *ℤ order k n j u) (sym (add-suc s r))

  written : (k r : ℕ) → order k n (s + r) u ≡ ev r⁰ (polynomial k r)
  unfolding polynomial r⁰
  written zero r = base r
  written (suc k) r =
      step k r
      ∙ ap (λ z. ev r⁰ (offset r) *ℤ z +ℤ (pos (suc (suc k)) *ℤ pos n -ℤ ev r⁰ (offset r)) *ℤ order k n (s + suc r) u) (written k r)
      ∙ ap (λ z. ev r⁰ (offset r) *ℤ ev r⁰ (polynomial k r) +ℤ (pos (suc (suc k)) *ℤ pos n -ℤ ev r⁰ (offset r)) *ℤ z) (written k (suc r))

-- 004 (88) with (94) at order 4, on the span from knot s + 3 to knot s + 4, is the matrix of 001: both are times 3! = 6 and h^3.
pub recursion-is-matrix : (s n x : ℕ) → x < n → (q : Four)
    → order 3 n (s + 0) ((s + 3) * n + x) *ℤ q.a +ℤ order 3 n (s + 1) ((s + 3) * n + x) *ℤ q.b +ℤ order 3 n (s + 2) ((s + 3) * n + x) *ℤ q.c +ℤ order 3 n (s + 3) ((s + 3) * n + x) *ℤ q.d
    ≡ cubic b_spline_matrix q (pos x) (pos n)
unfolding u r⁰ polynomial offset cubic dot
recursion-is-matrix s n x below q =
    cong4 (written s n x below q 3 0) (written s n x below q 3 1) (written s n x below q 3 2) (written s n x below q 3 3)
    ∙ solve (values q (pos x) (pos n)) (polynomial 3 0 ⊗ p.a ⊕ polynomial 3 1 ⊗ p.b ⊕ polynomial 3 2 ⊗ p.c ⊕ polynomial 3 3 ⊗ p.d) (cubicᵉ (matrixᵉ b_spline_matrix) p i h) tt
  where
    cong4 : {a a' b b' c c' d d' : ℤ} → a ≡ a' → b ≡ b' → c ≡ c' → d ≡ d' → a *ℤ q.a +ℤ b *ℤ q.b +ℤ c *ℤ q.c +ℤ d *ℤ q.d ≡ a' *ℤ q.a +ℤ b' *ℤ q.b +ℤ c' *ℤ q.c +ℤ d' *ℤ q.d
    cong4 e f g k = cc
