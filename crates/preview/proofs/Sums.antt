-- The pieces of exact doubles are the exact doubles of the curve's sums, by induction on the cuts left: a cut of the doubles is a cut of the whole controls (`Cuts`), and
-- the two halves of a span are the span itself at twice the steps (curve's `left-half`, `right-half`).
use mathlib.Core.Path.{◌≡◌, refl, sym, ap, ◌∙◌, subst}
use mathlib.Core.Bool.{Bool, true, false, cond}
use mathlib.Core.List.{[], ◌∷◌, ◌++◌}
use Prim.Native.Nat.{ℕ, zero, suc, ◌+◌, ◌*◌, ◌/◌, ◌%◌, ◌^◌, ◌≤◌}
use native.Mathlib.Nat.{pow-suc, mul_assoc, le-mul_of_pos_right, one-le-pow}
use native.Mathlib.Omega.{arith}
use lib.Dec.{eqb, lit<}
use lib.IntN.{ℤ, pos}
use lib.Ieee.{Float}
use Rattle.whole.proofs.Ring.{var, lit, ◌⊗◌, solve}
use Rattle.curve.specs.declared.Four.{Four}
use Rattle.curve.specs.Tab.{tab}
use Rattle.curve.specs.Limits.{Inside}
use Rattle.curve.specs.Span.{weighted}
use Rattle.curve.specs.Ways.{left_half, right_half}
use Rattle.curve.proofs.Tab.{tab-append, tab-same}
use Rattle.curve.proofs.Span.{weighted-start}
use Rattle.curve.proofs.Ways.{eightfold, left-half, right-half}
use Rattle.doubles.specs.Exact.{dyadic}
use Rattle.doubles.specs.Midpoint.{mid_pair}
use Rattle.doubles.specs.declared.Pair.{Pair}
use Rattle.preview.specs.Halving.{two, pieces}
use Rattle.curve.proofs.Powers.{doubled}
use Rattle.preview.proofs.Cuts.{left-a, left-b, left-c, left-d, right-a, right-b, right-c, right-d}

-- a point whose numbers are exact, both over 2^e
abbrev pub exactly : ℕ → ℤ → ℤ → Pair
exactly e x y = record { x = dyadic x e; y = dyadic y e }

abbrev on_axis : Four → Four → ℕ → Four
on_axis x y j = cond (eqb (j % 2) 0) x y

-- number j of the 2^l pieces of controls over 2^e: step j / 2 on axis j % 2
unfoldable pub rule : ℕ → ℕ → Four → Four → ℕ → Float
rule l e x y j = dyadic (weighted (on_axis x y j) (pos (j / 2)) (pos (2 ^ l))) (e + 3 * l)

-- ---- one cut of the rule

axis-left : (b : Bool) (x y : Four) → cond b (left_half x) (left_half y) ≡ left_half (cond b x y)
axis-left true x y = refl
axis-left false x y = refl

axis-right : (b : Bool) (x y : Four) → cond b (right_half x) (right_half y) ≡ right_half (cond b x y)
axis-right true x y = refl
axis-right false x y = refl

deeper : (e l : ℕ) → e + 3 + 3 * l ≡ e + 3 * suc l
deeper e l = omega arith

left-number : (l e : ℕ) (x y : Four) (j : ℕ) → rule l (e + 3) (left_half x) (left_half y) j ≡ rule (suc l) e x y j
unfolding rule
left-number l e x y j =
    ap (λ q. dyadic (weighted q (pos (j / 2)) (pos (2 ^ l))) (e + 3 + 3 * l)) (axis-left (eqb (j % 2) 0) x y)
    ∙ ap (λ z. dyadic z (e + 3 + 3 * l)) (left-half (on_axis x y j) (pos (j / 2)) (pos (2 ^ l)))
    ∙ (λ k. dyadic (weighted (on_axis x y j) (pos (j / 2)) (pos (doubled l k))) (deeper e l k))

right-number : (l e : ℕ) (x y : Four) (j : ℕ) → rule l (e + 3) (right_half x) (right_half y) j ≡ rule (suc l) e x y (2 * 2 ^ l + j)
unfolding rule
right-number l e x y j =
    let same : j % 2 ≡ (2 * 2 ^ l + j) % 2 = omega arith in
    let on : 2 ^ l + j / 2 ≡ (2 * 2 ^ l + j) / 2 = omega arith in
    ap (λ q. dyadic (weighted q (pos (j / 2)) (pos (2 ^ l))) (e + 3 + 3 * l)) (axis-right (eqb (j % 2) 0) x y)
    ∙ ap (λ z. dyadic z (e + 3 + 3 * l)) (right-half (on_axis x y j) (pos (j / 2)) (pos (2 ^ l)))
    ∙ (λ k. dyadic (weighted (cond (eqb (same k) 0) x y) (pos (on k)) (pos (doubled l k))) (deeper e l k))

cut-rule : (l e : ℕ) (x y : Four)
    → tab (rule (suc l) e x y) 0 (2 * 2 ^ suc l) ≡ tab (rule l (e + 3) (left_half x) (left_half y)) 0 (2 * 2 ^ l) ++ tab (rule l (e + 3) (right_half x) (right_half y)) 0 (2 * 2 ^ l)
cut-rule l e x y =
    let w = 2 * 2 ^ l in
    let twice : 2 * 2 ^ suc l ≡ w + w = omega (arith, doubled l) in
    let f = rule (suc l) e x y in
    ap (tab f 0) twice
    ∙ tab-append f 0 w w
    ∙ ap (λ v. v ++ tab f (0 + w) w) (tab-same f (rule l (e + 3) (left_half x) (left_half y)) 0 0 w (λ j b. sym (left-number l e x y (0 + j))))
    ∙ ap (λ v. tab (rule l (e + 3) (left_half x) (left_half y)) 0 w ++ v) (tab-same f (rule l (e + 3) (right_half x) (right_half y)) (0 + w) 0 w (λ j b. moved j ∙ sym (right-number l e x y (0 + j))))
  where
    moved : (j : ℕ) → rule (suc l) e x y (0 + 2 * 2 ^ l + j) ≡ rule (suc l) e x y (2 * 2 ^ l + (0 + j))
    moved j = ap (rule (suc l) e x y) (omega arith)

-- ---- no cut left

uncut : (q : Four) → weighted q (pos 0) (pos 1) ≡ q.a
uncut q = weighted-start q (pos 1) ∙ solve (q.a ∷ []) (lit (pos 1) ⊗ lit (pos 1) ⊗ lit (pos 1) ⊗ var 0) (var 0) tt

uncut-rule : (e : ℕ) (x y : Four) → two (exactly e x.a y.a) ≡ tab (rule 0 e x y) 0 2
unfolding tab rule
uncut-rule e x y =
    let none : e ≡ e + 0 = omega arith in
    λ k. dyadic (sym (uncut x) k) (none k) ∷ dyadic (sym (uncut y) k) (none k) ∷ []

-- ---- sizes

-- what is left for the halves
next-size : (n l : ℕ) → n * 8 ^ suc l ≤ 2 ^ 53 → n * 8 * 8 ^ l ≤ 2 ^ 53
next-size n l h = subst (λ (m : ℕ). m ≤ 2 ^ 53) (ap (λ (m : ℕ). n * m) (pow-suc 8 l ∙ native.Mathlib.Nat.mul_comm (8 ^ l) 8) ∙ sym (mul_assoc n 8 (8 ^ l))) h

cut-size : (n l : ℕ) → n * 8 ^ suc l ≤ 2 ^ 53 → 8 * n ≤ 2 ^ 53
cut-size n l h = omega (arith, le-mul_of_pos_right (n * 8) (one-le-pow l 8 (lit< tt)), next-size n l h)

-- ---- all cuts

pub pieces_exact : (l e n : ℕ) (x y : Four) → Inside n x → Inside n y → n * 8 ^ l ≤ 2 ^ 53 → e + 3 * l ≤ 1074
    → pieces l (record { a = exactly e x.a y.a; b = exactly e x.b y.b; c = exactly e x.c y.c; d = exactly e x.d y.d }) ≡ tab (rule l e x y) 0 (2 * 2 ^ l)
unfolding pieces mid_pair
pieces_exact zero e n x y hx hy small deep = uncut-rule e x y
pieces_exact (suc l) e n x y hx hy small deep =
    let c = cut-size n l small in
    let t : e + 2 ≤ 1074 = omega arith in
    (λ k.
    pieces l
    (record {
      a = record { x = left-a e n x hx c t k; y = left-a e n y hy c t k };
      b = record { x = left-b e n x hx c t k; y = left-b e n y hy c t k };
      c = record { x = left-c e n x hx c t k; y = left-c e n y hy c t k };
      d = record { x = left-d e n x hx c t k; y = left-d e n y hy c t k };
    })
    ++ pieces l
    (record {
      a = record { x = right-a e n x hx c t k; y = right-a e n y hy c t k };
      b = record { x = right-b e n x hx c t k; y = right-b e n y hy c t k };
      c = record { x = right-c e n x hx c t k; y = right-c e n y hy c t k };
      d = record { x = right-d e n x hx c t k; y = right-d e n y hy c t k };
    }))
    ∙ (λ k.
    pieces_exact l (e + 3) (n * 8) (left_half x) (left_half y) (eightfold n (n * 8) x (omega arith) hx).0 (eightfold n (n * 8) y (omega arith) hy).0 (next-size n l small) (omega arith) k
    ++ pieces_exact l (e + 3) (n * 8) (right_half x) (right_half y) (eightfold n (n * 8) x (omega arith) hx).1 (eightfold n (n * 8) y (omega arith) hy).1 (next-size n l small) (omega arith) k)
    ∙ sym (cut-rule l e x y)
