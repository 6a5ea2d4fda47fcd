-- What a teacher would check of the published forms: each is an identity of polynomials in the four records, i and h.
use mathlib.Core.Path.{◌≡◌, refl}
use mathlib.Core.List.{List, [], ◌∷◌}
use Prim.Native.Nat.{ℕ}
use lib.IntN.{ℤ, pos, ◌+ℤ◌, ◌-ℤ◌, ◌*ℤ◌}
use Rattle.whole.proofs.Ring.{Ex, var, lit, ◌⊕◌, ◌⊖◌, ◌⊗◌, ev, Same, solve}
use Rattle.curve.specs.declared.Four.{Four}
use Rattle.curve.specs.Numbers.{neg}
use Rattle.curve.specs.Four.{four, dot}
use Rattle.curve.specs.Published.{Matrix, Ends, cubic, tangent, second_derivative, bezier_matrix, hermite_matrix, cardinal_matrix, b_spline_matrix, weights, blending}
use Rattle.curve.proofs.Reflect.{Fourᵉ, fourᵉ, litᵉ, num, p, i, h, values, dotᵉ, Matrixᵉ, matrixᵉ, cardinalᵉ, cubicᵉ, tangentᵉ, second_derivativeᵉ, weightedᵉ}

-- ---- the two forms of one curve

-- Bernstein's weights (000 (16)) give the Bezier matrix' curve (000 (13)).
pub bernstein-is-matrix : (q : Four) (x y : ℤ) → dot (weights x y) q ≡ cubic bezier_matrix q x y
unfolding dot weights cubic
bernstein-is-matrix q x y = solve (values q x y) (weightedᵉ p i h) (cubicᵉ (matrixᵉ bezier_matrix) p i h) tt

blendingᵉ : Fourᵉ
blendingᵉ =
    fourᵉ
    (num 2 ⊗ (i ⊗ i ⊗ i) ⊖ num 3 ⊗ (i ⊗ i ⊗ h) ⊕ h ⊗ h ⊗ h)
    (lit (neg 2) ⊗ (i ⊗ i ⊗ i) ⊕ num 3 ⊗ (i ⊗ i ⊗ h))
    (i ⊗ i ⊗ i ⊖ num 2 ⊗ (i ⊗ i ⊗ h) ⊕ i ⊗ h ⊗ h)
    (i ⊗ i ⊗ i ⊖ i ⊗ i ⊗ h)

-- The blending functions (000 (10)) give the Hermite matrix' curve (000 (9)).
pub blending-is-matrix : (g : Four) (x y : ℤ) → dot (blending x y) g ≡ cubic hermite_matrix g x y
unfolding dot blending cubic blendingᵉ
blending-is-matrix g x y = solve (values g x y) (dotᵉ blendingᵉ p) (cubicᵉ (matrixᵉ hermite_matrix) p i h) tt

-- 001 and 002 print the cardinal matrix at 1/2 as a half of whole numbers.
pub cardinal-half : cardinal_matrix (pos 1) (pos 2)
    ≡ record {
      cubed = four (neg 1) (pos 3) (neg 3) (pos 1);
      squared = four (pos 2) (neg 5) (pos 4) (neg 1);
      single = four (neg 1) (pos 0) (pos 1) (pos 0);
      constant = four (pos 0) (pos 2) (pos 0) (pos 0);
    }
cardinal-half = refl

-- ---- values and tangents at both ends

-- The promise holds where four identities in the records and h do: start, finish, leaving and arriving are expressions in the four records.
ends : (m : Matrix) (g : Four) (start finish leaving arriving : Ex)
    → Same (cubicᵉ (matrixᵉ m) p (num 0) h) (h ⊗ h ⊗ h ⊗ start)
    → Same (cubicᵉ (matrixᵉ m) p h h) (h ⊗ h ⊗ h ⊗ finish)
    → Same (tangentᵉ (matrixᵉ m) p (num 0) h) (h ⊗ h ⊗ leaving)
    → Same (tangentᵉ (matrixᵉ m) p h h) (h ⊗ h ⊗ arriving)
    → (y : ℤ)
    → (cubic m g (pos 0) y ≡ y *ℤ y *ℤ y *ℤ ev (values g (pos 0) y) start)
    × (cubic m g y y ≡ y *ℤ y *ℤ y *ℤ ev (values g (pos 0) y) finish)
    × (tangent m g (pos 0) y ≡ y *ℤ y *ℤ ev (values g (pos 0) y) leaving)
    × (tangent m g y y ≡ y *ℤ y *ℤ ev (values g (pos 0) y) arriving)
unfolding cubic tangent dot
ends m g start finish leaving arriving t u v w y =
    let r = values g (pos 0) y in (
      solve r (cubicᵉ (matrixᵉ m) p (num 0) h) (h ⊗ h ⊗ h ⊗ start) t,
      solve r (cubicᵉ (matrixᵉ m) p h h) (h ⊗ h ⊗ h ⊗ finish) u,
      solve r (tangentᵉ (matrixᵉ m) p (num 0) h) (h ⊗ h ⊗ leaving) v,
      solve r (tangentᵉ (matrixᵉ m) p h h) (h ⊗ h ⊗ arriving) w,
    )

-- 000 (11).
pub bezier-ends : (g : Four) → Ends bezier_matrix g g.a g.d (pos 3 *ℤ (g.b -ℤ g.a)) (pos 3 *ℤ (g.d -ℤ g.c))
bezier-ends g =
    let e = ends bezier_matrix g p.a p.d (num 3 ⊗ (p.b ⊖ p.a)) (num 3 ⊗ (p.d ⊖ p.c)) tt tt tt tt in
    record { starts = λ y. (e y).0; finishes = λ y. (e y).1; leaves = λ y. (e y).2; arrives = λ y. (e y).3 }

-- 000, section 3.1: the conditions from which M_h is made. The geometry is start, end, start tangent, end tangent.
pub hermite-ends : (g : Four) → Ends hermite_matrix g g.a g.b g.c g.d
hermite-ends g =
    let e = ends hermite_matrix g p.a p.b p.c p.d tt tt tt tt in
    record { starts = λ y. (e y).0; finishes = λ y. (e y).1; leaves = λ y. (e y).2; arrives = λ y. (e y).3 }

-- 000 (18) and after (20), for every parameter a = n / m, and times m: it passes through the middle records, along a times the difference of their neighbours. Here n and m are variables too.
abbrev with_parameter : Four → ℤ → ℤ → ℤ → ℤ → List ℤ
with_parameter g x y n m = g.a ∷ g.b ∷ g.c ∷ g.d ∷ x ∷ y ∷ n ∷ m ∷ []

abbrev cardinal : Matrixᵉ
cardinal = cardinalᵉ (var 6) (var 7)

pub cardinal-ends : (n m : ℤ) (g : Four) → Ends (cardinal_matrix n m) g (m *ℤ g.b) (m *ℤ g.c) (n *ℤ (g.c -ℤ g.a)) (n *ℤ (g.d -ℤ g.b))
unfolding cubic tangent dot
cardinal-ends n m g =
    record {
      starts = λ y. solve (with_parameter g (pos 0) y n m) (cubicᵉ cardinal p (num 0) h) (h ⊗ h ⊗ h ⊗ (var 7 ⊗ p.b)) tt;
      finishes = λ y. solve (with_parameter g (pos 0) y n m) (cubicᵉ cardinal p h h) (h ⊗ h ⊗ h ⊗ (var 7 ⊗ p.c)) tt;
      leaves = λ y. solve (with_parameter g (pos 0) y n m) (tangentᵉ cardinal p (num 0) h) (h ⊗ h ⊗ (var 6 ⊗ (p.c ⊖ p.a))) tt;
      arrives = λ y. solve (with_parameter g (pos 0) y n m) (tangentᵉ cardinal p h h) (h ⊗ h ⊗ (var 6 ⊗ (p.d ⊖ p.b))) tt;
    }

-- 000 (23) and (24), times 6, and by symmetry at the end.
pub b_spline-ends : (g : Four) → Ends b_spline_matrix g (g.a +ℤ pos 4 *ℤ g.b +ℤ g.c) (g.b +ℤ pos 4 *ℤ g.c +ℤ g.d) (pos 3 *ℤ (g.c -ℤ g.a)) (pos 3 *ℤ (g.d -ℤ g.b))
b_spline-ends g =
    let e = ends b_spline_matrix g (p.a ⊕ num 4 ⊗ p.b ⊕ p.c) (p.b ⊕ num 4 ⊗ p.c ⊕ p.d) (num 3 ⊗ (p.c ⊖ p.a)) (num 3 ⊗ (p.d ⊖ p.b)) tt tt tt tt in
    record { starts = λ y. (e y).0; finishes = λ y. (e y).1; leaves = λ y. (e y).2; arrives = λ y. (e y).3 }

-- 000 (25), times 6: the second derivative of a B-spline at its start.
pub b_spline-second-derivative : (g : Four) (y : ℤ) → second_derivative b_spline_matrix g (pos 0) y ≡ y *ℤ (pos 6 *ℤ (g.c -ℤ pos 2 *ℤ g.b +ℤ g.a))
unfolding second_derivative dot
b_spline-second-derivative g y = solve (values g (pos 0) y) (second_derivativeᵉ (matrixᵉ b_spline_matrix) p (num 0) h) (h ⊗ (num 6 ⊗ (p.c ⊖ num 2 ⊗ p.b ⊕ p.a))) tt

-- ---- the weights of each basis sum to one: where all points are 1, the curve is 1 throughout. (A Hermite curve with both ends 1 and no tangents.)

abbrev ones : Four
ones = four (pos 1) (pos 1) (pos 1) (pos 1)

sum_to : (m : Matrix) (g : Four) (n : ℕ) → Same (cubicᵉ (matrixᵉ m) (litᵉ g) i h) (h ⊗ h ⊗ h ⊗ num n) → (x y : ℤ) → cubic m g x y ≡ y *ℤ y *ℤ y *ℤ pos n
unfolding cubic dot
sum_to m g n t x y = solve (values g x y) (cubicᵉ (matrixᵉ m) (litᵉ g) i h) (h ⊗ h ⊗ h ⊗ num n) t

pub bezier-sum : (x y : ℤ) → cubic bezier_matrix ones x y ≡ y *ℤ y *ℤ y *ℤ pos 1
bezier-sum = sum_to bezier_matrix ones 1 tt

pub b_spline-sum : (x y : ℤ) → cubic b_spline_matrix ones x y ≡ y *ℤ y *ℤ y *ℤ pos 6
b_spline-sum = sum_to b_spline_matrix ones 6 tt

pub cardinal-sum : (n m x y : ℤ) → cubic (cardinal_matrix n m) ones x y ≡ y *ℤ y *ℤ y *ℤ m
unfolding cubic dot
cardinal-sum n m x y = solve (with_parameter ones x y n m) (cubicᵉ cardinal (litᵉ ones) i h) (h ⊗ h ⊗ h ⊗ var 7) tt

pub hermite-sum : (x y : ℤ) → cubic hermite_matrix (four (pos 1) (pos 1) (pos 0) (pos 0)) x y ≡ y *ℤ y *ℤ y *ℤ pos 1
hermite-sum = sum_to hermite_matrix (four (pos 1) (pos 1) (pos 0) (pos 0)) 1 tt
