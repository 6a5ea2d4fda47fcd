-- The points of mirrored controls are the mirrored points, and their remainders the mirrored remainders: a sum of negated records is the negated sum, and it is rounded alike.
use mathlib.Core.Path.{◌≡◌, refl, sym, ap, ◌∙◌}
use mathlib.Core.List.{List}
use Prim.Native.Nat.{ℕ, zero, suc, ◌+◌, ◌*◌, ◌-◌, ◌/◌, ◌%◌, ◌^◌, min}
use lib.IntN.{ℤ, pos, negsuc, neg_ℤ, ◌-ℤ◌}
use Rattle.whole.proofs.Ring.{◌⊖◌, solve, minus}
use Rattle.whole.specs.Nearest.{nearest, remainder}
use Rattle.whole.proofs.Nearest.{nearest-minus}
use Rattle.whole.proofs.Remainder.{remainder-minus}
use Rattle.curve.specs.declared.Four.{Four}
use Rattle.curve.specs.declared.Basis.{Basis}
use Rattle.curve.specs.declared.Basis.TheVariants.{Bezier, BSpline, Cardinal, Hermite, Loop}
use Rattle.curve.specs.Four.{four, dot}
use Rattle.curve.specs.Published.{weights}
use Rattle.curve.specs.Tab.{tab}
use Rattle.curve.specs.Span.{coordinate, records_from, records, whole_controls, weighted, divisor, sum_at}
use Rattle.curve.proofs.Reflect.{Fourᵉ, fourᵉ, num, p, i, h, values, values_with, weightedᵉ, wholeᵉ}
use Rattle.shape.specs.declared.Plan.{Plan}
use Rattle.spans.specs.Numbers.{sum_of, number, remainder_of, nought, noughts, exact_in}
use Rattle.mirror.specs.Mirror.{Axis, across, mirror}
use Rattle.mirror.proofs.Lists.{across-cases, coordinate-mirror}

-- ---- the sum, where -z is written 0 - z

abbrev pub from_zero : Four → Four
from_zero q = four (pos 0 -ℤ q.a) (pos 0 -ℤ q.b) (pos 0 -ℤ q.c) (pos 0 -ℤ q.d)

abbrev pub from_zeroᵉ : Fourᵉ → Fourᵉ
from_zeroᵉ q = fourᵉ (num 0 ⊖ q.a) (num 0 ⊖ q.b) (num 0 ⊖ q.c) (num 0 ⊖ q.d)

sum-from-zero : (b : Basis) (q : Four) (x y : ℤ) → weighted (whole_controls b (from_zero q)) x y ≡ pos 0 -ℤ weighted (whole_controls b q) x y
unfolding weighted whole_controls weights dot
sum-from-zero Bezier q x y = solve (values_with Bezier q x y) (weightedᵉ (wholeᵉ Bezier (from_zeroᵉ p)) i h) (num 0 ⊖ weightedᵉ (wholeᵉ Bezier p) i h) tt
sum-from-zero BSpline q x y = solve (values_with BSpline q x y) (weightedᵉ (wholeᵉ BSpline (from_zeroᵉ p)) i h) (num 0 ⊖ weightedᵉ (wholeᵉ BSpline p) i h) tt
sum-from-zero (Cardinal c) q x y = solve (values_with (Cardinal c) q x y) (weightedᵉ (wholeᵉ (Cardinal c) (from_zeroᵉ p)) i h) (num 0 ⊖ weightedᵉ (wholeᵉ (Cardinal c) p) i h) tt
sum-from-zero Hermite q x y = solve (values_with Hermite q x y) (weightedᵉ (wholeᵉ Hermite (from_zeroᵉ p)) i h) (num 0 ⊖ weightedᵉ (wholeᵉ Hermite p) i h) tt
sum-from-zero (Loop n) q x y = solve (values_with (Loop n) q x y) (weightedᵉ (wholeᵉ (Loop n) (from_zeroᵉ p)) i h) (num 0 ⊖ weightedᵉ (wholeᵉ (Loop n) p) i h) tt

plain-from-zero : (q : Four) (x y : ℤ) → weighted (from_zero q) x y ≡ pos 0 -ℤ weighted q x y
unfolding weighted weights dot
plain-from-zero q x y = solve (values q x y) (weightedᵉ (from_zeroᵉ p) i h) (num 0 ⊖ weightedᵉ p i h) tt

abbrev pub negated : Four → Four
negated q = four (neg_ℤ q.a) (neg_ℤ q.b) (neg_ℤ q.c) (neg_ℤ q.d)

sum-minus : (sum : Four → ℤ) → ((q : Four) → sum (from_zero q) ≡ pos 0 -ℤ sum q) → (q : Four) → sum (negated q) ≡ neg_ℤ (sum q)
sum-minus sum from q = ap sum (λ j. four (minus q.a j) (minus q.b j) (minus q.c j) (minus q.d j)) ∙ from q ∙ sym (minus (sum q))

controls-minus : (b : Basis) (q : Four) (x y : ℤ) → weighted (whole_controls b (negated q)) x y ≡ neg_ℤ (weighted (whole_controls b q) x y)
controls-minus b q x y = sum-minus (λ r. weighted (whole_controls b r) x y) (λ r. sum-from-zero b r x y) q

-- of the plain controls, as the preview has them
pub plain-minus : (q : Four) (x y : ℤ) → weighted (negated q) x y ≡ neg_ℤ (weighted q x y)
plain-minus q x y = sum-minus (λ r. weighted r x y) (λ r. plain-from-zero r x y) q

-- what is nought and what is not stays so
pub nought-minus : (z : ℤ) → nought (neg_ℤ z) ≡ nought z
nought-minus (pos zero) = refl
nought-minus (pos (suc n)) = refl
nought-minus (negsuc n) = refl

-- ---- every number of an outline

sum-mirror : (axis : Axis) (p : Plan) (controls : List ℤ) (q : ℕ) → sum_of p (mirror axis controls) q ≡ across neg_ℤ axis q (sum_of p controls q)
unfolding sum_of records_from
sum-mirror axis p controls q =
    let s = min (q / 2 / 2 ^ p.depth) (p.spans - 1) in
    let i = q / 2 - s * 2 ^ p.depth in
    let at = coordinate controls (q % 2) in
    ap (λ c. sum_at p.basis p.depth (records p.basis s c) i) (λ j r. coordinate-mirror axis controls q r j)
    ∙ across-cases neg_ℤ axis (λ g. sum_at p.basis p.depth (records p.basis s (λ r. g (at r))) i ≡ g (sum_at p.basis p.depth (records p.basis s at) i))
    refl
    (controls-minus p.basis (records p.basis s at) (pos i) (pos (2 ^ p.depth)))
    q

module _ (axis : Axis) (p : Plan) (controls : List ℤ) where
  -- what comes of the negated sum as the negative of what comes of the sum
  of-sum : (f : ℤ → ℤ) → ((z : ℤ) → f (neg_ℤ z) ≡ neg_ℤ (f z)) → (q : ℕ) → f (sum_of p (mirror axis controls) q) ≡ across neg_ℤ axis q (f (sum_of p controls q))
  of-sum f turned q =
      let z = sum_of p controls q in
      ap f (sum-mirror axis p controls q) ∙ across-cases neg_ℤ axis (λ g. f (g z) ≡ g (f z)) refl (turned z) q

  pub number-mirror : (q : ℕ) → number p (mirror axis controls) q ≡ across neg_ℤ axis q (number p controls q)
  unfolding number
  number-mirror = of-sum (λ z. nearest z (divisor p.basis p.depth)) (λ z. nearest-minus z (divisor p.basis p.depth))

  -- and what is left over of it
  pub remainder-mirror : (q : ℕ) → remainder_of p (mirror axis controls) q ≡ across neg_ℤ axis q (remainder_of p controls q)
  unfolding remainder_of
  remainder-mirror = of-sum (λ z. remainder z (divisor p.basis p.depth)) (λ z. remainder-minus z (divisor p.basis p.depth))

  -- ---- so as many are exact

  pub nought-mirror : (q : ℕ) → nought (remainder_of p (mirror axis controls) q) ≡ nought (remainder_of p controls q)
  nought-mirror q =
      let z = remainder_of p controls q in
      ap nought (remainder-mirror q) ∙ across-cases neg_ℤ axis (λ g. nought (g z) ≡ nought z) refl (nought-minus z) q

  pub exact-mirror : (q n : ℕ) → exact_in p (mirror axis controls) q n ≡ exact_in p controls q n
  unfolding tab noughts
  exact-mirror q zero = refl
  exact-mirror q (suc n) = λ i. nought-mirror q i + exact-mirror (suc q) n i
