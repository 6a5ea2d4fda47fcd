-- The whole controls draw the published curves, and a span ends where the next one starts. Each is an identity of polynomials.
use mathlib.Core.Path.{◌≡◌, refl, sym, ap, ◌∙◌}
use mathlib.Core.List.{[], ◌∷◌}
use mathlib.Core.Logic.{◌↔◌}
use Prim.Native.Nat.{ℕ, suc, ◌+◌, ◌*◌, ◌^◌, ◌<◌}
use native.Mathlib.Nat.{mul_left_comm, mul-pos}
use native.Mathlib.Omega.{arith}
use lib.Dec.{lit<}
use lib.IntN.{ℤ, pos, ◌*ℤ◌}
use lib.Pow.{pow_pos}
use Rattle.whole.specs.Nearest.{nearest, remainder}
use Rattle.whole.proofs.Nearest.{nearest-scale}
use Rattle.whole.proofs.Remainder.{remainder-scale, times-nought}
use Rattle.whole.proofs.Ring.{var, lit, ◌⊖◌, ◌⊗◌, solve}
use Rattle.curve.specs.declared.Four.{Four}
use Rattle.curve.specs.declared.Basis.{Basis}
use Rattle.curve.specs.declared.Basis.TheVariants.{Bezier, BSpline, Cardinal, Hermite, Loop}
use Rattle.curve.specs.Four.{dot}
use Rattle.curve.specs.Published.{published, denominator, most_parameter, cardinal_to_bezier, cubic, weights, bezier_matrix, hermite_matrix, b_spline_matrix}
use Rattle.curve.specs.Span.{stride, fold, first_record, records_from, record_at, records, b_spline_controls, whole_controls, weighted, divisor, sum_at, point}
use Rattle.curve.proofs.Stride.{next-first}
use Rattle.curve.proofs.Reflect.{fourᵉ, num, p, i, h, taut, values, values_with, dotᵉ, matrixᵉ, cardinalᵉ, cubicᵉ, weightedᵉ, wholeᵉ}

-- For every basis, a cardinal one with any parameter, i and h: the weighted sum of the whole controls over `fold`·h^3 is the published value, a numerator over `denominator`·h^3.
pub controls-published : (b : Basis) (q : Four) (x y : ℤ) → weighted (whole_controls b q) x y *ℤ pos (denominator b) ≡ published b q x y *ℤ pos (fold b)
unfolding weighted whole_controls published weights cubic dot
controls-published Bezier q x y = solve (values_with Bezier q x y) (weightedᵉ (wholeᵉ Bezier p) i h ⊗ num 1) (cubicᵉ (matrixᵉ bezier_matrix) p i h ⊗ num 6) tt
controls-published BSpline q x y = solve (values_with BSpline q x y) (weightedᵉ (wholeᵉ BSpline p) i h ⊗ num 6) (cubicᵉ (matrixᵉ b_spline_matrix) p i h ⊗ num 6) tt
controls-published (Cardinal c) q x y = solve (values_with (Cardinal c) q x y) (weightedᵉ (wholeᵉ (Cardinal c) p) i h ⊗ num most_parameter) (cubicᵉ (cardinalᵉ taut (num most_parameter)) p i h ⊗ num 192) tt
controls-published Hermite q x y = solve (values_with Hermite q x y) (weightedᵉ (wholeᵉ Hermite p) i h ⊗ num 1) (cubicᵉ (matrixᵉ hermite_matrix) (fourᵉ p.a p.c p.b p.d) i h ⊗ num 6) tt
controls-published (Loop n) q x y = solve (values_with (Loop n) q x y) (weightedᵉ (wholeᵉ (Loop n) p) i h ⊗ num 6) (cubicᵉ (matrixᵉ b_spline_matrix) p i h ⊗ num 6) tt

-- For every parameter the cardinal controls are 192 times those of 000 (21) at a = c / 64.
pub cardinal-converted : (c : ℕ) (q : Four) → whole_controls (Cardinal c) q ≡ cardinal_to_bezier (pos c) (pos most_parameter) q
unfolding whole_controls dot
cardinal-converted c q =
    let r = values_with (Cardinal c) q (pos 0) (pos 0) in
    let e = wholeᵉ (Cardinal c) p in
    let start = solve r e.a (dotᵉ (fourᵉ (num 0) (num 3 ⊗ num 64) (num 0) (num 0)) p) tt in
    let left = solve r e.b (dotᵉ (fourᵉ (num 0 ⊖ taut) (num 3 ⊗ num 64) taut (num 0)) p) tt in
    let right = solve r e.c (dotᵉ (fourᵉ (num 0) taut (num 3 ⊗ num 64) (num 0 ⊖ taut)) p) tt in
    let finish = solve r e.d (dotᵉ (fourᵉ (num 0) (num 0) (num 3 ⊗ num 64) (num 0)) p) tt in
    λ k. record { a = start k; b = left k; c = right k; d = finish k }

pub denominator-pos : (b : Basis) → 0 < denominator b
denominator-pos Bezier = lit< tt
denominator-pos BSpline = lit< tt
denominator-pos (Cardinal c) = lit< tt
denominator-pos Hermite = lit< tt
denominator-pos (Loop n) = lit< tt

pub fold-pos : (b : Basis) → 0 < fold b
fold-pos Bezier = lit< tt
fold-pos BSpline = lit< tt
fold-pos (Cardinal c) = lit< tt
fold-pos Hermite = lit< tt
fold-pos (Loop n) = lit< tt

pub divisor-pos : (b : Basis) (k : ℕ) → 0 < divisor b k
divisor-pos b k = mul-pos (fold-pos b) (pow_pos (3 * k))

-- So both are one fraction: `denominator` times each part of the sum's is `fold` times each part of the published value's.
pub same-divisors : (b : Basis) (k : ℕ) → denominator b * divisor b k ≡ fold b * (denominator b * 2 ^ (3 * k))
same-divisors b k = mul_left_comm (denominator b) (fold b) (2 ^ (3 * k))

module _ (b : Basis) (k : ℕ) (p : Four) (i : ℕ) where
  abbrev value : ℤ
  value = published b p (pos i) (pos (2 ^ k))

  abbrev under : ℕ
  under = denominator b * 2 ^ (3 * k)

  under-pos : 0 < under
  under-pos = mul-pos (denominator-pos b) (pow_pos (3 * k))

  pub same-value : pos (denominator b) *ℤ sum_at b k p i ≡ pos (fold b) *ℤ value
  same-value =
      let swap : (x y : ℤ) → x *ℤ y ≡ y *ℤ x = λ x y. solve (x ∷ y ∷ []) (var 0 ⊗ var 1) (var 1 ⊗ var 0) tt in
      swap (pos (denominator b)) (sum_at b k p i) ∙ controls-published b p (pos i) (pos (2 ^ k)) ∙ swap value (pos (fold b))

  -- a point is the published value, rounded once
  pub point-published : point b k p i ≡ nearest value under
  unfolding point
  point-published =
      sym (nearest-scale (denominator b) (sum_at b k p i) (divisor b k) (denominator-pos b) (divisor-pos b k))
      ∙ (λ j. nearest (same-value j) (same-divisors b k j))
      ∙ nearest-scale (fold b) value under (fold-pos b) under-pos

  -- and what is left over of the sum is the same part of its divisor as what is left over of the published value
  pub remainder-published : pos (denominator b) *ℤ remainder (sum_at b k p i) (divisor b k) ≡ pos (fold b) *ℤ remainder value under
  remainder-published =
      sym (remainder-scale (denominator b) (sum_at b k p i) (divisor b k) (denominator-pos b) (divisor-pos b k))
      ∙ (λ j. remainder (same-value j) (same-divisors b k j))
      ∙ remainder-scale (fold b) value under (fold-pos b) under-pos

  -- nothing of the one where nothing of the other
  pub nought-published : (remainder (sum_at b k p i) (divisor b k) ≡ pos 0) ↔ (remainder value under ≡ pos 0)
  nought-published =
      let none : (m : ℕ) → pos m *ℤ pos 0 ≡ pos 0 = λ m. solve (pos m ∷ []) (var 0 ⊗ lit (pos 0)) (lit (pos 0)) tt in (
        (λ e. times-nought (fold b) (remainder value under) (fold-pos b) (sym remainder-published ∙ ap (λ z. pos (denominator b) *ℤ z) e ∙ none (denominator b))),
        (λ e. times-nought (denominator b) (remainder (sum_at b k p i) (divisor b k)) (denominator-pos b) (remainder-published ∙ ap (λ z. pos (fold b) *ℤ z) e ∙ none (fold b))),
      )

-- ---- joints

-- The sum at t = 0 has the first control alone, and at t = 1 the last.
pub weighted-start : (q : Four) (y : ℤ) → weighted q (pos 0) y ≡ y *ℤ y *ℤ y *ℤ q.a
unfolding weighted weights dot
weighted-start q y = solve (values q (pos 0) y) (weightedᵉ p (num 0) h) (h ⊗ h ⊗ h ⊗ p.a) tt

pub weighted-end : (q : Four) (y : ℤ) → weighted q y y ≡ y *ℤ y *ℤ y *ℤ q.d
unfolding weighted weights dot
weighted-end q y = solve (values q (pos 0) y) (weightedᵉ p h h) (h ⊗ h ⊗ h ⊗ p.d) tt

-- a B-spline's last control is the first one's of the records a place on
a-place-on : (r : ℕ) (at : ℕ → ℤ) → (b_spline_controls (records_from r at)).d ≡ (b_spline_controls (records_from (r + 1) at)).a
unfolding records_from
a-place-on r at =
    let e : r + 1 + 1 ≡ r + 2 = omega arith in
    let f : r + 1 + 2 ≡ r + 3 = omega arith in
    rw (e, f)

-- the last whole control of a span is the first of the next one, a stride on
a-stride-on : (b : Basis) (r : ℕ) (at : ℕ → ℤ) → (whole_controls b (records_from r at)).d ≡ (whole_controls b (records_from (r + stride b) at)).a
unfolding whole_controls records_from
a-stride-on Bezier r at = refl
a-stride-on BSpline r at = a-place-on r at
a-stride-on (Cardinal c) r at = ap (λ n. pos 192 *ℤ at n) (omega arith)
a-stride-on Hermite r at = refl
a-stride-on (Loop n) r at = a-place-on r at

controls-meet : (b : Basis) (s : ℕ) (at : ℕ → ℤ) → (whole_controls b (records b s at)).d ≡ (whole_controls b (records b (suc s) at)).a
controls-meet b s at =
    let counted : ℕ → ℤ = λ r. at (record_at b r) in
    a-stride-on b (first_record b s) counted ∙ ap (λ r. (whole_controls b (records_from r counted)).a) (sym (next-first b s))

-- For each basis the sum at a span's end, at t = 1, is the one at the next span's start, at t = 0.
pub joint : (b : Basis) (k s : ℕ) (at : ℕ → ℤ) → sum_at b k (records b s at) (2 ^ k) ≡ sum_at b k (records b (suc s) at) 0
joint b k s at =
    weighted-end (whole_controls b (records b s at)) (pos (2 ^ k))
    ∙ ap (λ z. pos (2 ^ k) *ℤ pos (2 ^ k) *ℤ pos (2 ^ k) *ℤ z) (controls-meet b s at)
    ∙ sym (weighted-start (whole_controls b (records b (suc s) at)) (pos (2 ^ k)))
