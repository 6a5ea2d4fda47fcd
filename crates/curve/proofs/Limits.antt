-- Boxes and limits, for any depth. A weighted sum grows with its controls, since no weight is negative, and the weights of four equal controls sum to one: so a
-- Bezier point stays between bounds of its controls, and so does a B-spline point, whose whole controls are sums of records with weights that make six.
-- Cardinal and Hermite weights have both signs. Of Hermite their sizes sum to 6h^3 + 6i(h-i)h, at most 5/4 of 6h^3; of a cardinal curve with parameter c to 192h^3 + 6c·i(h-i)h, at c = 64 at most 3/2 of 192h^3.
use mathlib.Core.Path.{◌≡◌, refl, sym, ap, ◌∙◌, subst, subst₂}
use mathlib.Core.List.{List, [], ◌∷◌}
use Prim.Native.Nat.{ℕ, ◌+◌, ◌*◌, ◌-◌, ◌^◌, ◌≤◌}
use native.Mathlib.Nat.{le_refl, le_of_eq, le_trans, add_comm, mul_comm, mul_right_comm}
use native.Mathlib.Decide.{dec_le}
use native.Mathlib.Omega.{arith}
use lib.Dec.{T, leb, lit≤}
use lib.IntN.{ℤ, pos, nat_abs, ◌+ℤ◌, ◌*ℤ◌}
use lib.Signed.{◌≤ℤ◌}
use Rattle.whole.proofs.Ring.{Ex, var, lit, ◌⊕◌, ◌⊖◌, ◌⊗◌, ev, solve}
use Rattle.whole.proofs.Order.{le-gap, le_of, +-mono, *-mono, pos-injective}
use Rattle.whole.proofs.Nearest.{nearest-above, nearest-below, nearest-size}
use Rattle.whole.proofs.Fit.{Bounded, size, ev-size}
use Rattle.curve.specs.declared.Four.{Four}
use Rattle.curve.specs.declared.Basis.{Basis}
use Rattle.curve.specs.declared.Basis.TheVariants.{Bezier, BSpline, Cardinal, Hermite, Loop}
use Rattle.curve.specs.Four.{four, dot}
use Rattle.curve.specs.Published.{most_parameter, weights}
use Rattle.curve.specs.Span.{fold, whole_controls, weighted, divisor, sum_at, point}
use Rattle.curve.specs.Limits.{limit, reach, parameter_of, Inside, AtMost, all, Box}
use Rattle.curve.specs.Inner.{widest}
use Rattle.curve.proofs.Powers.{cube, thrice}
use Rattle.curve.proofs.Span.{divisor-pos}
use Rattle.curve.proofs.Reflect.{Fourᵉ, fourᵉ, num, p, taut, values_with, weightedᵉ, wholeᵉ}

-- ---- boxes

-- greater controls give no smaller sum; h is i + j, so that h - i is the natural number j
weighted-mono : (i j : ℕ) (q r : Four) → AtMost q r → weighted q (pos i) (pos (i + j)) ≤ℤ weighted r (pos i) (pos (i + j))
unfolding weighted weights dot
weighted-mono i j q r below =
    let (ga, ea) = le-gap below.a in
    let (gb, eb) = le-gap below.b in
    let (gc, ec) = le-gap below.c in
    let (gd, ed) = le-gap below.d in
    let more : Four = four (q.a +ℤ pos ga) (q.b +ℤ pos gb) (q.c +ℤ pos gc) (q.d +ℤ pos gd) in
    let same : r ≡ more = λ k. record { a = ea k; b = eb k; c = ec k; d = ed k } in
    le_of (j * j * j * ga + 3 * (i * j * j) * gb + 3 * (i * i * j) * gc + i * i * i * gd)
    (ap (λ s. weighted s (pos i) (pos (i + j))) same
    ∙ solve (q.a ∷ q.b ∷ q.c ∷ q.d ∷ pos i ∷ pos j ∷ pos ga ∷ pos gb ∷ pos gc ∷ pos gd ∷ [])
    (weightedᵉ (record { a = var 0 ⊕ var 6; b = var 1 ⊕ var 7; c = var 2 ⊕ var 8; d = var 3 ⊕ var 9 }) (var 4) (var 4 ⊕ var 5))
    (weightedᵉ p (var 4) (var 4 ⊕ var 5) ⊕ (var 5 ⊗ var 5 ⊗ var 5 ⊗ var 6 ⊕ num 3 ⊗ (var 4 ⊗ var 5 ⊗ var 5) ⊗ var 7 ⊕ num 3 ⊗ (var 4 ⊗ var 4 ⊗ var 5) ⊗ var 8 ⊕ var 4 ⊗ var 4 ⊗ var 4 ⊗ var 9))
    tt)

-- four equal controls, f times z each: the curve is z
level : (f k i : ℕ) (z : ℤ) → weighted (all (pos f *ℤ z)) (pos i) (pos (2 ^ k)) ≡ pos (f * 2 ^ (3 * k)) *ℤ z
unfolding weighted weights dot cube
level f k i z =
    let q = var 3 ⊗ var 0 in
    solve (z ∷ pos i ∷ pos (2 ^ k) ∷ pos f ∷ []) (weightedᵉ (fourᵉ q q q q) (var 1) (var 2)) (var 3 ⊗ (var 2 ⊗ var 2 ⊗ var 2) ⊗ var 0) tt
    ∙ ap (λ (n : ℕ). pos (f * n) *ℤ z) (sym (thrice k))

-- where the whole controls are between as many times lo and hi, the point is between lo and hi
boxed : (b : Basis) (k i : ℕ) (q : Four) (lo hi : ℤ) → i ≤ 2 ^ k
    → AtMost (all (pos (fold b) *ℤ lo)) (whole_controls b q) → AtMost (whole_controls b q) (all (pos (fold b) *ℤ hi))
    → (lo ≤ℤ point b k q i) × (point b k q i ≤ℤ hi)
unfolding point
boxed b k i q lo hi within above below =
    let e : i + (2 ^ k - i) ≡ 2 ^ k = omega arith in
    let f = fold b in (
      nearest-above (divisor b k) (divisor-pos b k)
          (subst (λ z. z ≤ℤ weighted (whole_controls b q) (pos i) (pos (2 ^ k))) (level f k i lo)
          (subst (λ (n : ℕ). weighted (all (pos f *ℤ lo)) (pos i) (pos n) ≤ℤ weighted (whole_controls b q) (pos i) (pos n)) e (weighted-mono i (2 ^ k - i) (all (pos f *ℤ lo)) (whole_controls b q) above))),
      nearest-below (divisor b k) (divisor-pos b k)
          (subst (λ z. weighted (whole_controls b q) (pos i) (pos (2 ^ k)) ≤ℤ z) (level f k i hi)
          (subst (λ (n : ℕ). weighted (whole_controls b q) (pos i) (pos n) ≤ℤ weighted (all (pos f *ℤ hi)) (pos i) (pos n)) e (weighted-mono i (2 ^ k - i) (whole_controls b q) (all (pos f *ℤ hi)) below))),
    )

-- Every Bezier point lies in the box of its span's four controls.
pub bezier-box : (k i : ℕ) (q : Four) (lo hi : ℤ) → i ≤ 2 ^ k → Box lo hi q → (lo ≤ℤ point Bezier k q i) × (point Bezier k q i ≤ℤ hi)
unfolding whole_controls
bezier-box k i q lo hi within box =
    let l = box.low in
    let u = box.high in
    boxed Bezier k i q lo hi within
    (record { a = *-mono 6 l.a; b = *-mono 6 l.b; c = *-mono 6 l.c; d = *-mono 6 l.d })
    (record { a = *-mono 6 u.a; b = *-mono 6 u.b; c = *-mono 6 u.c; d = *-mono 6 u.d })

-- sums of records with weights that make six, as the B-spline's controls are
three : {x y z u v w : ℤ} → x ≤ℤ u → y ≤ℤ v → z ≤ℤ w → (x +ℤ pos 4 *ℤ y +ℤ z) ≤ℤ (u +ℤ pos 4 *ℤ v +ℤ w)
three e f g = +-mono (+-mono e (*-mono 4 f)) g

two : (m n : ℕ) {x y u v : ℤ} → x ≤ℤ u → y ≤ℤ v → (pos m *ℤ x +ℤ pos n *ℤ y) ≤ℤ (pos m *ℤ u +ℤ pos n *ℤ v)
two m n e f = +-mono (*-mono m e) (*-mono n f)

-- a record at most its fellow makes the B-spline controls so
b_spline-mono : {q r : Four} → AtMost q r → AtMost (whole_controls BSpline q) (whole_controls BSpline r)
unfolding whole_controls
b_spline-mono h = record { a = three h.a h.b h.c; b = two 4 2 h.b h.c; c = two 2 4 h.b h.c; d = three h.b h.c h.d }

b_spline-level : (z : ℤ) → whole_controls BSpline (all z) ≡ all (pos 6 *ℤ z)
unfolding whole_controls
b_spline-level z =
    let outer = solve (z ∷ []) (var 0 ⊕ num 4 ⊗ var 0 ⊕ var 0) (num 6 ⊗ var 0) tt in
    let left = solve (z ∷ []) (num 4 ⊗ var 0 ⊕ num 2 ⊗ var 0) (num 6 ⊗ var 0) tt in
    let right = solve (z ∷ []) (num 2 ⊗ var 0 ⊕ num 4 ⊗ var 0) (num 6 ⊗ var 0) tt in
    λ k. record { a = outer k; b = left k; c = right k; d = outer k }

-- So does every B-spline point.
pub b_spline-box : (k i : ℕ) (q : Four) (lo hi : ℤ) → i ≤ 2 ^ k → Box lo hi q → (lo ≤ℤ point BSpline k q i) × (point BSpline k q i ≤ℤ hi)
b_spline-box k i q lo hi within box =
    boxed BSpline k i q lo hi within
    (subst (λ c. AtMost c (whole_controls BSpline q)) (b_spline-level lo) (b_spline-mono box.low))
    (subst (λ c. AtMost (whole_controls BSpline q) c) (b_spline-level hi) (b_spline-mono box.high))

-- ---- limits

-- the sum of a B-spline with its weights in i = var 4 and j = h - i = var 5
abbrev b_spline_wide : Fourᵉ → Ex
b_spline_wide q =
    let i = var 4 in
    let j = var 5 in
    j ⊗ j ⊗ j ⊗ q.a
    ⊕ (i ⊗ i ⊗ i ⊕ num 6 ⊗ (i ⊗ i ⊗ j) ⊕ num 12 ⊗ (i ⊗ j ⊗ j) ⊕ num 4 ⊗ (j ⊗ j ⊗ j)) ⊗ q.b
    ⊕ (num 4 ⊗ (i ⊗ i ⊗ i) ⊕ num 12 ⊗ (i ⊗ i ⊗ j) ⊕ num 6 ⊗ (i ⊗ j ⊗ j) ⊕ j ⊗ j ⊗ j) ⊗ q.c
    ⊕ i ⊗ i ⊗ i ⊗ q.d

-- the sum of each basis with its weights in i = var 4 and j = h - i = var 5, no weight of mixed sign
wide : Basis → Fourᵉ → Ex
wide Bezier q =
    let i = var 4 in
    let j = var 5 in
    num 6 ⊗ (j ⊗ j ⊗ j) ⊗ q.a ⊕ num 18 ⊗ (i ⊗ j ⊗ j) ⊗ q.b ⊕ num 18 ⊗ (i ⊗ i ⊗ j) ⊗ q.c ⊕ num 6 ⊗ (i ⊗ i ⊗ i) ⊗ q.d
wide BSpline q = b_spline_wide q
wide (Cardinal c) q =
    let i = var 4 in
    let j = var 5 in
    (num 3 ⊗ taut ⊗ (i ⊗ i ⊗ j) ⊕ num 576 ⊗ (i ⊗ j ⊗ j) ⊕ num 192 ⊗ (j ⊗ j ⊗ j)) ⊗ q.b
    ⊕ (num 192 ⊗ (i ⊗ i ⊗ i) ⊕ num 576 ⊗ (i ⊗ i ⊗ j) ⊕ num 3 ⊗ taut ⊗ (i ⊗ j ⊗ j)) ⊗ q.c
    ⊖ num 3 ⊗ taut ⊗ (i ⊗ j ⊗ j) ⊗ q.a
    ⊖ num 3 ⊗ taut ⊗ (i ⊗ i ⊗ j) ⊗ q.d
wide Hermite q =
    let i = var 4 in
    let j = var 5 in
    (num 6 ⊗ (j ⊗ j ⊗ j) ⊕ num 18 ⊗ (i ⊗ j ⊗ j)) ⊗ q.a
    ⊕ num 6 ⊗ (i ⊗ j ⊗ j) ⊗ q.b
    ⊕ (num 6 ⊗ (i ⊗ i ⊗ i) ⊕ num 18 ⊗ (i ⊗ i ⊗ j)) ⊗ q.c
    ⊖ num 6 ⊗ (i ⊗ i ⊗ j) ⊗ q.d
wide (Loop n) q = b_spline_wide q

wide_is : (b : Basis) (q : Four) (i j : ℕ) → weighted (whole_controls b q) (pos i) (pos (i + j)) ≡ ev (values_with b q (pos i) (pos j)) (wide b p)
unfolding weighted weights dot whole_controls wide
wide_is Bezier q i j = solve (values_with Bezier q (pos i) (pos j)) (weightedᵉ (wholeᵉ Bezier p) (var 4) (var 4 ⊕ var 5)) (wide Bezier p) tt
wide_is BSpline q i j = solve (values_with BSpline q (pos i) (pos j)) (weightedᵉ (wholeᵉ BSpline p) (var 4) (var 4 ⊕ var 5)) (wide BSpline p) tt
wide_is (Cardinal c) q i j = solve (values_with (Cardinal c) q (pos i) (pos j)) (weightedᵉ (wholeᵉ (Cardinal c) p) (var 4) (var 4 ⊕ var 5)) (wide (Cardinal c) p) tt
wide_is Hermite q i j = solve (values_with Hermite q (pos i) (pos j)) (weightedᵉ (wholeᵉ Hermite p) (var 4) (var 4 ⊕ var 5)) (wide Hermite p) tt
wide_is (Loop n) q i j = solve (values_with (Loop n) q (pos i) (pos j)) (weightedᵉ (wholeᵉ (Loop n) p) (var 4) (var 4 ⊕ var 5)) (wide (Loop n) p) tt

-- how many times ijh the sizes of a basis' weights are more than `fold` times h^3, at most: of a cardinal one six times the parameter
further : Basis → ℕ
further Bezier = 6
further BSpline = 6
further (Cardinal c) = 6 * most_parameter
further Hermite = 6
further (Loop n) = 6

-- L times the sizes of all weights, where they are f·h^3 + g·ijh
whole-size : ℕ → ℕ → ℕ → ℕ → ℕ → ℕ
whole-size f g l i j = l * (f * ((i + j) * (i + j) * (i + j)) + g * (i * j * (i + j)))

bounds : ℕ → ℕ → ℕ → List ℕ
bounds l i j = l ∷ l ∷ l ∷ l ∷ i ∷ j ∷ most_parameter ∷ []

-- the same of expressions: L is var 0, i is var 4, j is var 5
whole-sizeᵉ : Ex → Ex → Ex
whole-sizeᵉ f g = let i = var 4 in let j = var 5 in var 0 ⊗ (f ⊗ ((i ⊕ j) ⊗ (i ⊕ j) ⊗ (i ⊕ j)) ⊕ g ⊗ (i ⊗ j ⊗ (i ⊕ j)))

-- four times L, and the part that Bezier and B-spline weights leave over
alike : Fourᵉ
alike = fourᵉ (var 0) (var 0) (var 0) (var 0)

left_over : Ex
left_over = var 0 ⊗ (num 6 ⊗ (var 4 ⊗ var 5 ⊗ (var 4 ⊕ var 5)))

-- every minus a plus
added : Ex → Ex
added (var n) = var n
added (lit z) = lit (pos (nat_abs z))
added (a ⊕ b) = added a ⊕ added b
added (a ⊖ b) = added a ⊕ added b
added (a ⊗ b) = added a ⊗ added b

-- the sizes of the weights, with nothing further for Bezier and B-spline
weights-size : (b : Basis) (l i j : ℕ) → size (bounds l i j) (wide b p) ≤ whole-size (fold b) (further b) l i j
unfolding wide further whole-size whole-sizeᵉ added bounds alike left_over
weights-size b l i j = go b
  where
    r : List ℤ
    r = pos l ∷ pos 0 ∷ pos 0 ∷ pos 0 ∷ pos i ∷ pos j ∷ pos most_parameter ∷ []

    go : (b : Basis) → size (bounds l i j) (wide b p) ≤ whole-size (fold b) (further b) l i j
    go Bezier = omega (arith, pos-injective (solve r (added (wide Bezier alike) ⊕ left_over) (whole-sizeᵉ (num 6) (num 6)) tt))
    go BSpline = omega (arith, pos-injective (solve r (added (wide BSpline alike) ⊕ left_over) (whole-sizeᵉ (num 6) (num 6)) tt))
    go (Cardinal c) = le_of_eq (pos-injective (solve r (added (wide (Cardinal c) alike)) (whole-sizeᵉ (num 192) (num 6 ⊗ taut)) tt))
    go Hermite = le_of_eq (pos-injective (solve r (added (wide Hermite alike)) (whole-sizeᵉ (num 6) (num 6)) tt))
    go (Loop n) = omega (arith, pos-injective (solve r (added (wide (Loop n) alike) ⊕ left_over) (whole-sizeᵉ (num 6) (num 6)) tt))

-- 4·i·j is at most h^2, by the square of the difference of i and j: so with L at 4,000,000 the whole is at most 4,000,000·f + 1,000,000·g times h^3, which is the reach, f times
near : (f g i d : ℕ) → whole-size f g limit i (i + d) + 1000000 * g * ((i + (i + d)) * (d * d)) ≡ (limit * f + 1000000 * g) * ((i + (i + d)) * (i + (i + d)) * (i + (i + d)))
unfolding whole-size
near f g i d =
    let h = var 0 ⊕ (var 0 ⊕ var 1) in
    pos-injective
    (solve (pos i ∷ pos d ∷ pos f ∷ pos g ∷ [])
    (num limit ⊗ (var 2 ⊗ (h ⊗ h ⊗ h) ⊕ var 3 ⊗ (var 0 ⊗ (var 0 ⊕ var 1) ⊗ h)) ⊕ num 1000000 ⊗ var 3 ⊗ (h ⊗ (var 1 ⊗ var 1)))
    ((num limit ⊗ var 2 ⊕ num 1000000 ⊗ var 3) ⊗ (h ⊗ h ⊗ h))
    tt)

swap : (f g l i j : ℕ) → whole-size f g l i j ≡ whole-size f g l j i
unfolding whole-size
swap f g l i j = rw (add_comm i j, mul_comm i j)

ordered : (f g i j : ℕ) → i ≤ j → whole-size f g limit i j ≤ (limit * f + 1000000 * g) * ((i + j) * (i + j) * (i + j))
ordered f g i j k =
    let e : i + (j - i) ≡ j = omega arith in
    subst (λ (m : ℕ). whole-size f g limit i m ≤ (limit * f + 1000000 * g) * ((i + m) * (i + m) * (i + m))) e (omega (arith, near f g i (j - i)))

fair : (f g i j : ℕ) → whole-size f g limit i j ≤ (limit * f + 1000000 * g) * ((i + j) * (i + j) * (i + j))
fair f g i j = go (dec_le i j)
  where
    go : Dec (i ≤ j) → whole-size f g limit i j ≤ (limit * f + 1000000 * g) * ((i + j) * (i + j) * (i + j))
    go (yes k) = ordered f g i j k
    go (no n) = subst₂ (λ (m n : ℕ). m ≤ (limit * f + 1000000 * g) * (n * n * n)) (swap f g limit j i) (add_comm j i) (ordered f g j i (omega arith))

reached : (b : Basis) → limit * fold b + 1000000 * further b ≡ fold b * reach b
unfolding further
reached Bezier = refl
reached BSpline = refl
reached (Cardinal c) = refl
reached Hermite = refl
reached (Loop n) = refl

-- Every sum of a span inside the limits, with a parameter that is offered, is within the divisor times the reach, at each of its 2^k + 1 steps.
pub sum-size : (b : Basis) (k i : ℕ) (q : Four) → i ≤ 2 ^ k → parameter_of b ≤ most_parameter → Inside limit q → nat_abs (sum_at b k q i) ≤ divisor b k * reach b
unfolding bounds cube
sum-size b k i q within offered inside =
    let j = 2 ^ k - i in
    let e : i + j ≡ 2 ^ k = omega arith in
    let ok : Bounded (values_with b q (pos i) (pos j)) (bounds limit i j) = (inside.a, (inside.b, (inside.c, (inside.d, (le_refl i, (le_refl j, (offered, tt))))))) in
    let all-steps : (limit * fold b + 1000000 * further b) * ((i + j) * (i + j) * (i + j)) ≡ divisor b k * reach b =
    (λ t. reached b t * (ap cube e ∙ sym (thrice k)) t) ∙ mul_right_comm (fold b) (reach b) (2 ^ (3 * k)) in
    subst (λ z. nat_abs z ≤ divisor b k * reach b) (sym (ap (λ (n : ℕ). weighted (whole_controls b q) (pos i) (pos n)) (sym e) ∙ wide_is b q i j))
    (le_trans (ev-size (values_with b q (pos i) (pos j)) (bounds limit i j) ok (wide b p))
    (le_trans (weights-size b limit i j) (subst (λ (n : ℕ). whole-size (fold b) (further b) limit i j ≤ n) all-steps (fair (fold b) (further b) i j))))

-- No point of any basis is beyond its reach either way.
pub point-size : (b : Basis) (k i : ℕ) (q : Four) → i ≤ 2 ^ k → parameter_of b ≤ most_parameter → Inside limit q → nat_abs (point b k q i) ≤ reach b
unfolding point
point-size b k i q within offered inside = nearest-size (sum_at b k q i) (divisor b k) (reach b) (divisor-pos b k) (sum-size b k i q within offered inside)

-- ---- the whole controls of records inside the limit

-- four expressions in records inside the limit and a parameter that is offered, whose sizes compute to at most the widest
abbrev limits : List ℕ
limits = limit ∷ limit ∷ limit ∷ limit ∷ 0 ∷ 0 ∷ most_parameter ∷ []

abbrev small : Ex → Type 0
small e = T (leb (size limits e) widest)

module _ (b : Basis) (q : Four) (offered : parameter_of b ≤ most_parameter) (inside : Inside limit q) where
  r : List ℤ
  r = values_with b q (pos 0) (pos 0)

  sized : (e : Fourᵉ) → small e.a → small e.b → small e.c → small e.d → Inside widest (four (ev r e.a) (ev r e.b) (ev r e.c) (ev r e.d))
  unfolding r
  sized e t u v w =
      let ok : Bounded r limits = (inside.a, (inside.b, (inside.c, (inside.d, (lit≤ tt, (lit≤ tt, (offered, tt))))))) in
      record {
        a = le_trans (ev-size r limits ok e.a) (lit≤ t);
        b = le_trans (ev-size r limits ok e.b) (lit≤ u);
        c = le_trans (ev-size r limits ok e.c) (lit≤ v);
        d = le_trans (ev-size r limits ok e.d) (lit≤ w);
      }

-- so the whole controls of each basis are
pub controls-inside : (b : Basis) (q : Four) → parameter_of b ≤ most_parameter → Inside limit q → Inside widest (whole_controls b q)
unfolding whole_controls r
controls-inside Bezier q offered inside = sized Bezier q offered inside (wholeᵉ Bezier p) tt tt tt tt
controls-inside BSpline q offered inside = sized BSpline q offered inside (wholeᵉ BSpline p) tt tt tt tt
controls-inside (Cardinal c) q offered inside = sized (Cardinal c) q offered inside (wholeᵉ (Cardinal c) p) tt tt tt tt
controls-inside Hermite q offered inside = sized Hermite q offered inside (wholeᵉ Hermite p) tt tt tt tt
controls-inside (Loop n) q offered inside = sized (Loop n) q offered inside (wholeᵉ (Loop n) p) tt tt tt tt
