-- Halving and differences list the same exact sums as the weights, at any depth. Halving: the two halves of a span are the span itself at twice the steps, so an
-- induction on the depth joins them. Differences: after x steps the state holds the sum at x and its differences there, so an induction on the steps lists them.
use mathlib.Core.Path.{◌≡◌, refl, sym, ap, ◌∙◌, subst}
use mathlib.Core.List.{[], ◌∷◌, ◌++◌}
use Prim.Native.Nat.{ℕ, zero, suc, ◌+◌, ◌*◌, ◌^◌, ◌≤◌}
use native.Mathlib.Nat.{zero-add, le_trans}
use native.Mathlib.Numerals.{add-one}
use native.Mathlib.Omega.{arith}
use lib.Dec.{lit≤}
use lib.IntN.{ℤ, pos, nat_abs, ◌+ℤ◌, ◌-ℤ◌, ◌*ℤ◌}
use Rattle.whole.proofs.Ring.{Ex, var, ◌⊕◌, ◌⊖◌, ◌⊗◌, solve}
use Rattle.whole.proofs.Fit.{Bounded, ev-size}
use Rattle.curve.specs.declared.Four.{Four}
use Rattle.curve.specs.declared.Differences.{Differences}
use Rattle.curve.specs.Tab.{tab}
use Rattle.curve.specs.Four.{dot}
use Rattle.curve.specs.Published.{weights, bezier_matrix}
use Rattle.curve.specs.Limits.{Inside}
use Rattle.curve.specs.Inner.{widest, Small}
use Rattle.curve.specs.Span.{weighted}
use Rattle.curve.specs.Ways.{deepest, by_weights, by_halving, by_differences, left_half, right_half, starts, differences, advance, values}
use Rattle.curve.proofs.Tab.{tab-append, tab-same}
use Rattle.curve.proofs.Powers.{cube, doubled, eights}
use Rattle.curve.proofs.Span.{weighted-start, weighted-end}
use Rattle.curve.proofs.Reflect as R
use Rattle.curve.proofs.Reflect.{num, p, i, h, litᵉ, dotᵉ, weightedᵉ, leftᵉ, rightᵉ}

-- ---- halving

pub left-half : (q : Four) (x y : ℤ) → weighted (left_half q) x y ≡ weighted q x (pos 2 *ℤ y)
unfolding weighted weights dot left_half
left-half q x y = solve (R.values q x y) (weightedᵉ (leftᵉ p) i h) (weightedᵉ p i (num 2 ⊗ h)) tt

pub right-half : (q : Four) (x y : ℤ) → weighted (right_half q) x y ≡ weighted q (y +ℤ x) (pos 2 *ℤ y)
unfolding weighted weights dot right_half
right-half q x y = solve (R.values q x y) (weightedᵉ (rightᵉ p) i h) (weightedᵉ p (h ⊕ i) (num 2 ⊗ h)) tt

-- the sum at step j of n
abbrev pub sum : Four → ℕ → ℕ → ℤ
sum q n j = weighted q (pos j) (pos n)

pub starts-are-sums : (k : ℕ) (q : Four) → starts k q ≡ tab (sum q (2 ^ k)) 0 (2 ^ k)
unfolding starts tab
starts-are-sums zero q = ap (λ z. z ∷ []) (sym (weighted-start q (pos 1) ∙ solve (q.a ∷ []) (num 1 ⊗ num 1 ⊗ num 1 ⊗ var 0) (var 0) tt))
starts-are-sums (suc k) q =
    ap (λ l. l ++ starts k (right_half q)) (starts-are-sums k (left_half q))
    ∙ ap (λ l. tab (sum (left_half q) (2 ^ k)) 0 (2 ^ k) ++ l) (starts-are-sums k (right_half q))
    ∙ ap (λ l. l ++ tab (sum (right_half q) (2 ^ k)) 0 (2 ^ k)) (tab-same (sum (left_half q) (2 ^ k)) (sum q (2 * 2 ^ k)) 0 0 (2 ^ k) (λ j b. left-half q (pos (0 + j)) (pos (2 ^ k))))
    ∙ ap (λ l. tab (sum q (2 * 2 ^ k)) 0 (2 ^ k) ++ l)
    (tab-same (sum (right_half q) (2 ^ k)) (sum q (2 * 2 ^ k)) 0 (0 + 2 ^ k) (2 ^ k)
    (λ j b. right-half q (pos (0 + j)) (pos (2 ^ k)) ∙ ap (λ (m : ℕ). weighted q (pos m) (pos (2 * 2 ^ k))) (moved j)))
    ∙ sym (tab-append (sum q (2 * 2 ^ k)) 0 (2 ^ k) (2 ^ k))
    ∙ ap (tab (sum q (2 * 2 ^ k)) 0) twice
    ∙ ap (λ (m : ℕ). tab (sum q m) 0 (2 ^ suc k)) (doubled k)
  where
    twice : 2 ^ k + 2 ^ k ≡ 2 ^ suc k
    twice = omega (arith, doubled k)

    moved : (j : ℕ) → 2 ^ k + (0 + j) ≡ 0 + 2 ^ k + j
    moved j = omega arith

-- all but the last sum, and the last
weights-split : (k : ℕ) (q : Four) → by_weights k q ≡ tab (sum q (2 ^ k)) 0 (2 ^ k) ++ (sum q (2 ^ k) (2 ^ k) ∷ [])
unfolding by_weights tab
weights-split k q =
    ap (tab (sum q (2 ^ k)) 0) (sym (add-one (2 ^ k)))
    ∙ tab-append (sum q (2 ^ k)) 0 (2 ^ k) 1
    ∙ ap (λ (j : ℕ). tab (sum q (2 ^ k)) 0 (2 ^ k) ++ (sum q (2 ^ k) j ∷ [])) (zero-add (2 ^ k))

pub halving-agrees : (k : ℕ) (q : Four) → by_halving k q ≡ by_weights k q
unfolding by_halving cube
halving-agrees k q =
    ap (λ l. l ++ ((pos (8 ^ k) *ℤ q.d) ∷ [])) (starts-are-sums k q)
    ∙ ap (λ z. tab (sum q (2 ^ k)) 0 (2 ^ k) ++ (z ∷ [])) (ap (λ (n : ℕ). pos n *ℤ q.d) (eights k) ∙ sym (weighted-end q (pos (2 ^ k))))
    ∙ sym (weights-split k q)

-- ---- differences

-- the state that holds the sum at x and its differences there
unfoldable pub state : Four → ℤ → ℤ → Differences
state q x y =
    record {
      value = weighted q x y;
      first = weighted q (x +ℤ pos 1) y -ℤ weighted q x y;
      second = weighted q (x +ℤ pos 2) y -ℤ pos 2 *ℤ weighted q (x +ℤ pos 1) y +ℤ weighted q x y;
      third = weighted q (x +ℤ pos 3) y -ℤ pos 3 *ℤ weighted q (x +ℤ pos 2) y +ℤ pos 3 *ℤ weighted q (x +ℤ pos 1) y -ℤ weighted q x y;
    }

at : Ex → Ex
at x = weightedᵉ p x h

firstᵉ : Ex → Ex
firstᵉ x = at (x ⊕ num 1) ⊖ at x

secondᵉ : Ex → Ex
secondᵉ x = at (x ⊕ num 2) ⊖ num 2 ⊗ at (x ⊕ num 1) ⊕ at x

thirdᵉ : Ex → Ex
thirdᵉ x = at (x ⊕ num 3) ⊖ num 3 ⊗ at (x ⊕ num 2) ⊕ num 3 ⊗ at (x ⊕ num 1) ⊖ at x

same-state : {s t : Differences} → s.value ≡ t.value → s.first ≡ t.first → s.second ≡ t.second → s.third ≡ t.third → s ≡ t
same-state e f g k = λ j. record { value = e j; first = f j; second = g j; third = k j }

-- the start values of 000 (12) are the differences at 0
pub begins : (q : Four) (y : ℤ) → differences q y ≡ state q (pos 0) y
unfolding differences state weighted weights dot at firstᵉ secondᵉ thirdᵉ
begins q y =
    let r = R.values q (pos 0) y in
    let a = dotᵉ (litᵉ bezier_matrix.cubed) p in
    let b = dotᵉ (litᵉ bezier_matrix.squared) p in
    let c = dotᵉ (litᵉ bezier_matrix.single) p in
    same-state
    (solve r (p.a ⊗ h ⊗ h ⊗ h) (at (num 0)) tt)
    (solve r (a ⊕ b ⊗ h ⊕ c ⊗ h ⊗ h) (firstᵉ (num 0)) tt)
    (solve r (num 6 ⊗ a ⊕ num 2 ⊗ b ⊗ h) (secondᵉ (num 0)) tt)
    (solve r (num 6 ⊗ a) (thirdᵉ (num 0)) tt)

-- three additions go on to the next step
pub advances : (q : Four) (x y : ℤ) → advance (state q x y) ≡ state q (x +ℤ pos 1) y
unfolding advance state weighted weights dot at firstᵉ secondᵉ thirdᵉ
advances q x y =
    let r = R.values q x y in
    same-state
    (solve r (at i ⊕ firstᵉ i) (at (i ⊕ num 1)) tt)
    (solve r (firstᵉ i ⊕ secondᵉ i) (firstᵉ (i ⊕ num 1)) tt)
    (solve r (secondᵉ i ⊕ thirdᵉ i) (secondᵉ (i ⊕ num 1)) tt)
    (solve r (thirdᵉ i) (thirdᵉ (i ⊕ num 1)) tt)

pub values-are-sums : (q : Four) (m j n : ℕ) → values n (state q (pos j) (pos m)) ≡ tab (sum q m) j n
unfolding values tab state
values-are-sums q m j zero = refl
values-are-sums q m j (suc n) =
    ap (λ l. sum q m j ∷ l) (ap (values n) (advances q (pos j) (pos m) ∙ ap (λ (k : ℕ). state q (pos k) (pos m)) (add-one j)) ∙ values-are-sums q m (suc j) n)

pub differences-agree : (k : ℕ) (q : Four) → by_differences k q ≡ by_weights k q
unfolding by_differences by_weights
differences-agree k q = ap (values (suc (2 ^ k))) (begins q (pos (2 ^ k))) ∙ values-are-sums q (2 ^ k) 0 (suc (2 ^ k))

-- no state on the way through a span is near the ends of 64 bits
pub state-small : (q : Four) (j m : ℕ) → Inside widest q → j ≤ 2 ^ deepest → m ≤ 2 ^ deepest → Small (state q (pos j) (pos m))
unfolding state weighted weights dot at firstᵉ secondᵉ thirdᵉ
state-small q j m inside hj hm =
    let r = R.values q (pos j) (pos m) in
    let bs = widest ∷ widest ∷ widest ∷ widest ∷ 2 ^ deepest ∷ 2 ^ deepest ∷ [] in
    let ok : Bounded r bs = (inside.a, (inside.b, (inside.c, (inside.d, (hj, (hm, tt)))))) in
    let a = dotᵉ (litᵉ bezier_matrix.cubed) p in
    let b = dotᵉ (litᵉ bezier_matrix.squared) p in
    let second = num 6 ⊗ a ⊗ (i ⊕ num 1) ⊕ num 2 ⊗ b ⊗ h in
    let third = num 6 ⊗ a in
    record {
      value = le_trans (ev-size r bs ok (at i)) (lit≤ tt);
      first = le_trans (ev-size r bs ok (firstᵉ i)) (lit≤ tt);
      second = subst (λ z. nat_abs z ≤ 2 ^ 61) (solve r second (secondᵉ i) tt) (le_trans (ev-size r bs ok second) (lit≤ tt));
      third = subst (λ z. nat_abs z ≤ 2 ^ 61) (solve r third (thirdᵉ i) tt) (le_trans (ev-size r bs ok third) (lit≤ tt));
    }

-- ---- sizes of halves: eight times as large

pub eightfold : (n m : ℕ) (q : Four) → 8 * n ≤ m → Inside n q → (Inside m (left_half q)) × (Inside m (right_half q))
unfolding left_half right_half
eightfold n m q most inside =
    let r = q.a ∷ q.b ∷ q.c ∷ q.d ∷ [] in
    let bs = n ∷ n ∷ n ∷ n ∷ [] in
    let ok : Bounded r bs = (inside.a, (inside.b, (inside.c, (inside.d, tt)))) in
    let l = leftᵉ p in
    let o = rightᵉ p in (
      record {
        a = le_trans (ev-size r bs ok l.a) (omega arith);
        b = le_trans (ev-size r bs ok l.b) (omega arith);
        c = le_trans (ev-size r bs ok l.c) (omega arith);
        d = le_trans (ev-size r bs ok l.d) (omega arith);
      },
      record {
        a = le_trans (ev-size r bs ok o.a) (omega arith);
        b = le_trans (ev-size r bs ok o.b) (omega arith);
        c = le_trans (ev-size r bs ok o.c) (omega arith);
        d = le_trans (ev-size r bs ok o.d) (omega arith);
      },
    )
