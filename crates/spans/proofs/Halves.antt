-- One cut: the sums of a piece are those of its left half and then those of its right half, and both halves can be cut on.
use mathlib.Core.Path.{◌≡◌, refl, sym, ap, ◌∙◌, subst}
use mathlib.Core.Bool.{Bool, true, false, cond}
use mathlib.Core.List.{List, [], ◌∷◌, ◌++◌}
use Prim.Native.Nat.{ℕ, suc, ◌+◌, ◌*◌, ◌-◌, ◌/◌, ◌%◌, ◌^◌, ◌≤◌, ◌<◌}
use native.Mathlib.Nat.{pow-suc, le_refl, le_trans, le-mul_of_pos_right, one-le-pow, pow-le-pow_right, mul-le-mul_left}
use native.Mathlib.Omega.{arith}
use lib.Dec.{eqb, lit≤, lit<}
use lib.IntN.{ℤ, pos, nat_abs}
use lib.ListN.{length}
use lib.Pow.{pow_pos}
use mir.Syntax.{w64}
use mir.Val.{SFits}
use Rattle.whole.specs.Outcome.{Outcome}
use Rattle.whole.proofs.Ring.{var, lit, ◌⊗◌, solve}
use Rattle.whole.proofs.Fit.{sfits}
use Rattle.curve.specs.declared.Four.{Four}
use Rattle.curve.specs.Tab.{tab}
use Rattle.curve.specs.Limits.{Inside}
use Rattle.curve.specs.Inner.{widest, far_reach}
use Rattle.curve.specs.Span.{weighted}
use Rattle.curve.specs.Ways.{deepest, left_half, right_half}
use Rattle.curve.proofs.Tab.{tab-append, tab-same, length-tab}
use Rattle.curve.proofs.Span.{weighted-start}
use Rattle.curve.proofs.Powers.{doubled, half-width}
use Rattle.curve.proofs.Ways.{eightfold, left-half, right-half}
use Rattle.spans.specs.Numbers.{per_span}
use Rattle.spans.specs.Inner.{Ready, on_axis, paired, rounds, Cuttable}
use Rattle.spans.proofs.Pairs.{paired-x, paired-y}
use Rattle.spans.proofs.Rounds.{onward, rounds-append}

-- half the numbers of a piece are those of its halves
pub halved : (left : ℕ) → 0 < left → per_span (left - 1) ≡ 2 ^ left
halved left h = half-width left h

-- ---- bounds

-- the bound of one cut more
next-bound : (l : ℕ) → l < deepest → 8 * (widest * 8 ^ (deepest - suc l)) ≡ widest * 8 ^ (deepest - l)
next-bound l h =
    let e : deepest - l ≡ suc (deepest - suc l) = omega arith in
    sym (ap (λ (n : ℕ). widest * n) (ap (λ (n : ℕ). 8 ^ n) e ∙ pow-suc 8 (deepest - suc l)) ∙ shuffle (8 ^ (deepest - suc l)))
  where
    shuffle : (n : ℕ) → widest * (n * 8) ≡ 8 * (widest * n)
    shuffle n = omega arith

module _ (l d : ℕ) (q : Four) (h : l < deepest) (cut : Cuttable (suc l) d q) where
  cut_left : Cuttable l d (left_half q)
  cut_left =
      record {
        inside = subst (λ (n : ℕ). Inside n (left_half q)) (next-bound l h) (eightfold (widest * 8 ^ (deepest - suc l)) (8 * (widest * 8 ^ (deepest - suc l))) q (le_refl _) cut.inside).0;
        near = λ i b.
            subst (λ z. nat_abs z ≤ d * far_reach) (ap (λ (n : ℕ). weighted q (pos i) (pos n)) (sym (doubled l)) ∙ sym (left-half q (pos i) (pos (2 ^ l))))
            (cut.near i (omega (arith, doubled l)));
      }

  cut_right : Cuttable l d (right_half q)
  cut_right =
      record {
        inside = subst (λ (n : ℕ). Inside n (right_half q)) (next-bound l h) (eightfold (widest * 8 ^ (deepest - suc l)) (8 * (widest * 8 ^ (deepest - suc l))) q (le_refl _) cut.inside).1;
        near = λ i b.
            subst (λ z. nat_abs z ≤ d * far_reach) (ap (λ (n : ℕ). weighted q (pos (2 ^ l + i)) (pos n)) (sym (doubled l)) ∙ sym (right-half q (pos i) (pos (2 ^ l))))
            (cut.near (2 ^ l + i) (omega (arith, doubled l)));
      }

-- the same where `left` cuts are left and one is made
pub cut_on : (left d : ℕ) (q : Four) → 0 < left → left ≤ deepest → Cuttable left d q → Cuttable (left - 1) d (left_half q) × Cuttable (left - 1) d (right_half q)
cut_on left d q h most cut =
    let whole : left ≡ suc (left - 1) = omega arith in
    let c = subst (λ (n : ℕ). Cuttable n d q) whole cut in
    (cut_left (left - 1) d q (omega arith) c, cut_right (left - 1) d q (omega arith) c)

-- a span that is ready can be cut to its depth
pub ready-cuttable : (k d : ℕ) (q : Four) → Ready k d q → Cuttable k d q
ready-cuttable k d q ready =
    let more : widest ≤ widest * 8 ^ (deepest - k) = le-mul_of_pos_right widest (one-le-pow (deepest - k) 8 (lit< tt)) in
    let i = ready.inside in
    record {
      inside = record { a = le_trans i.a more; b = le_trans i.b more; c = le_trans i.c more; d = le_trans i.d more };
      near = λ j b. ready.near j (omega arith);
    }

-- before a cut no control is past 2^59
pub cuttable-small : (l d : ℕ) (q : Four) → Cuttable l d q → Inside (2 ^ 59) q
cuttable-small l d q cut =
    let fewer : deepest - l ≤ deepest = omega arith in
    let small : widest * 8 ^ (deepest - l) ≤ 2 ^ 59 = le_trans (mul-le-mul_left widest (pow-le-pow_right (lit< tt) fewer)) (lit≤ tt) in
    let i = cut.inside in
    record { a = le_trans i.a small; b = le_trans i.b small; c = le_trans i.c small; d = le_trans i.d small }

-- ---- sums

axis-left : (b : Bool) (x y : Four) → cond b (left_half x) (left_half y) ≡ left_half (cond b x y)
axis-left true x y = refl
axis-left false x y = refl

axis-right : (b : Bool) (x y : Four) → cond b (right_half x) (right_half y) ≡ right_half (cond b x y)
axis-right true x y = refl
axis-right false x y = refl

left-sum : (l : ℕ) (x y : Four) (j : ℕ) → paired l (left_half x) (left_half y) j ≡ paired (suc l) x y j
unfolding paired
left-sum l x y j =
    ap (λ q. weighted q (pos (j / 2)) (pos (2 ^ l))) (axis-left (eqb (j % 2) 0) x y)
    ∙ left-half (on_axis x y j) (pos (j / 2)) (pos (2 ^ l))
    ∙ ap (λ (n : ℕ). weighted (on_axis x y j) (pos (j / 2)) (pos n)) (doubled l)

right-sum : (l : ℕ) (x y : Four) (j : ℕ) → paired l (right_half x) (right_half y) j ≡ paired (suc l) x y (per_span l + j)
unfolding paired
right-sum l x y j =
    let same : j % 2 ≡ (per_span l + j) % 2 = omega arith in
    let on : 2 ^ l + j / 2 ≡ (per_span l + j) / 2 = omega arith in
    ap (λ q. weighted q (pos (j / 2)) (pos (2 ^ l))) (axis-right (eqb (j % 2) 0) x y)
    ∙ right-half (on_axis x y j) (pos (j / 2)) (pos (2 ^ l))
    ∙ ap (λ (n : ℕ). weighted (on_axis x y j) (pos n) (pos (2 * 2 ^ l))) on
    ∙ ap (λ (n : ℕ). weighted (on_axis x y j) (pos ((per_span l + j) / 2)) (pos n)) (doubled l)
    ∙ ap (λ (n : ℕ). weighted (cond (eqb n 0) x y) (pos ((per_span l + j) / 2)) (pos (2 ^ suc l))) same

-- the sums of a piece are those of its halves
abbrev pub piece_sums : ℕ → Four → Four → List ℤ
piece_sums left x y = tab (paired left x y) 0 (per_span left)

cut_sums : (l : ℕ) (x y : Four) → piece_sums (suc l) x y ≡ piece_sums l (left_half x) (left_half y) ++ piece_sums l (right_half x) (right_half y)
cut_sums l x y =
    let e : per_span (suc l) ≡ per_span l + per_span l = omega (arith, doubled l) in
    let f = paired (suc l) x y in
    ap (tab f 0) e
    ∙ tab-append f 0 (per_span l) (per_span l)
    ∙ ap (λ v. v ++ tab f (0 + per_span l) (per_span l)) (tab-same f (paired l (left_half x) (left_half y)) 0 0 (per_span l) (λ j b. sym (left-sum l x y (0 + j))))
    ∙ ap (λ v. piece_sums l (left_half x) (left_half y) ++ v)
    (tab-same f (paired l (right_half x) (right_half y)) (0 + per_span l) 0 (per_span l) (λ j b. moved j ∙ sym (right-sum l x y (0 + j))))
  where
    moved : (j : ℕ) → paired (suc l) x y (0 + per_span l + j) ≡ paired (suc l) x y (per_span l + (0 + j))
    moved j = ap (paired (suc l) x y) (omega arith)

-- the sum at the start of a piece that is not cut on is its first control
uncut : (q : Four) → weighted q (pos 0) (pos 1) ≡ q.a
uncut q = weighted-start q (pos 1) ∙ solve (q.a ∷ []) (lit (pos 1) ⊗ lit (pos 1) ⊗ lit (pos 1) ⊗ var 0) (var 0) tt

-- a piece that is not cut on has its start alone
pub leaf-sums : (left : ℕ) (x y : Four) → left ≡ 0 → x.a ∷ y.a ∷ [] ≡ piece_sums left x y
unfolding tab
leaf-sums left x y e =
    sym
    (ap (λ (n : ℕ). piece_sums n x y) e
    ∙ ap (λ z. z ∷ paired 0 x y 1 ∷ []) (paired-x 0 x y 0 ∙ uncut x)
    ∙ ap (λ z. x.a ∷ z ∷ []) (paired-y 0 x y 0 ∙ uncut y))

-- the left half rounded, and then the right half from half the numbers on
pub halves-rounded : (left d : ℕ) (x y : Four) (at n : ℕ) (l : List ℤ) → 0 < left → {first second : Outcome ℕ (List ℤ)}
    → first ≡ rounds d (piece_sums (left - 1) (left_half x) (left_half y)) at n l
    → second ≡ onward d (piece_sums (left - 1) (right_half x) (right_half y)) (at + 2 ^ left) first
    → second ≡ rounds d (piece_sums left x y) at n l
halves-rounded left d x y at n l h {first} {second} e f =
    let m = left - 1 in
    let whole : left ≡ suc m = omega arith in
    let a = piece_sums m (left_half x) (left_half y) in
    let b = piece_sums m (right_half x) (right_half y) in
    let half : 2 ^ left ≡ length a = ap (λ (n : ℕ). 2 ^ n) whole ∙ sym (doubled m) ∙ sym (length-tab (paired m (left_half x) (left_half y)) 0 (per_span m)) in
    f
    ∙ ap (onward d b (at + 2 ^ left)) e
    ∙ ap (λ (k : ℕ). onward d b (at + k) (rounds d a at n l)) half
    ∙ rounds-append d a b at n l
    ∙ ap (λ sums. rounds d sums at n l) (sym (cut_sums m x y))
    ∙ ap (λ (k : ℕ). rounds d (piece_sums k x y) at n l) (sym whole)

-- and that start is within the divisor's reach
pub leaf-near : (left d : ℕ) (q : Four) → left ≡ 0 → Cuttable left d q → nat_abs q.a ≤ d * far_reach
leaf-near left d q e cut = subst (λ z. nat_abs z ≤ d * far_reach) (ap (λ (n : ℕ). weighted q (pos 0) (pos (2 ^ n))) e ∙ uncut q) (cut.near 0 (pow_pos left))

-- a first control is inside 64 bits
pub leaf-fits : (left d : ℕ) (q : Four) → Cuttable left d q → SFits w64 q.a
leaf-fits left d q cut = sfits w64 q.a (2 ^ 59) (cuttable-small left d q cut).a tt
