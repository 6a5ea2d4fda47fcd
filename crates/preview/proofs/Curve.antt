-- The preview and the curve: a sum of controls inside the limits is below 2^53, so its double loses nothing of it and is never -0; and the outline's point is that same
-- value, rounded once.
use Rattle.std.specs.Prelude.{Ok, Result}
use mathlib.Core.Path.{◌≡◌, sym, ap, ◌∙◌, subst}
use mathlib.Core.Bool.{not}
use mathlib.Core.List.{List, [], ◌∷◌, ◌++◌}
use mathlib.Core.Logic.{⊎_elim}
use Prim.Native.Nat.{ℕ, suc, ◌+◌, ◌*◌, ◌-◌, ◌/◌, ◌%◌, ◌^◌, min, ◌≤◌, ◌<◌}
use native.Mathlib.Nat.{le_trans, suc-mul, mod-lt, div-add-mod', min-eq_left, min-eq_right, min-le_right, pow-le-pow_right}
use native.Mathlib.Omega.{arith}
use borrow.Author.Tests.{leb-true, leb-false, eqb-true, not-false}
use lib.Dec.{T, leb, eqb, lit<, lit≤}
use lib.IntN.{ℤ, pos, nat_abs, ◌*ℤ◌}
use lib.Ieee.{Float, nan}
use lib.ListN.{length, get_or, drop, get_or-append}
use lib.Pow.{pow_pos}
use lib.Seq.{sets, sets-eq}
use Rattle.whole.specs.Nearest.{nearest}
use Rattle.whole.proofs.Fit.{Bounded, ev-size}
use Rattle.whole.proofs.Nearest.{nearest-scale}
use Rattle.whole.proofs.Ring.{◌⊗◌, solve}
use Rattle.whole.specs.Outcome.{Outcome, outcome}
use Rattle.curve.specs.declared.Four.{Four}
use Rattle.curve.specs.declared.Basis.TheVariants.{Bezier}
use Rattle.curve.specs.Limits.{Inside, limit}
use Rattle.curve.specs.Tab.{tab}
use Rattle.curve.specs.Four.{dot}
use Rattle.curve.specs.Published.{weights}
use Rattle.curve.specs.Span.{divisor, weighted, whole_controls, point}
use Rattle.curve.specs.Ways.{deepest}
use Rattle.curve.proofs.Reflect as R
use Rattle.curve.proofs.Reflect.{p, i, h, num, weightedᵉ, wholeᵉ}
use Rattle.curve.proofs.Tab.{length-tab, get_or-tab}
use Rattle.shape.specs.declared.Shape.{Shape}
use Rattle.shape.specs.Shape.{points_of}
use Rattle.shape.specs.Refusals.{shape_rows, list_rows, plan_of}
use Rattle.shape.proofs.Refusals.{none-earlier, none-later, row-fails, good-plan, none-facts}
use Rattle.shape.proofs.Tests.{passes}
use Rattle.doubles.specs.Exact.{Value, minus_zero}
use Rattle.doubles.proofs.Exact.{dyadic-exact, dyadic-not-minus-zero}
use Rattle.preview.proofs.Spans.{points-are}
use Rattle.preview.proofs.Numbers.{plain}
use Rattle.preview.proofs.Rows.{bezier-inside}
use Rattle.preview.proofs.Exactly.{drawn-none, none-drawn}
use Rattle.preview.specs.Preview.{sum, value, bezier_row, preview_rows, accepts, previewing}
use Rattle.shape.specs.declared.Refusal.{Refusal}

-- ---- a sum is below 2^53

weighted-small : (q : Four) (j n : ℕ) → Inside limit q → j ≤ 2 ^ deepest → n ≤ 2 ^ deepest → nat_abs (weighted q (pos j) (pos n)) ≤ 2 ^ 53
unfolding weighted weights dot
weighted-small q j n inside hj hn =
    let r = R.values q (pos j) (pos n) in
    let bs = limit ∷ limit ∷ limit ∷ limit ∷ 2 ^ deepest ∷ 2 ^ deepest ∷ [] in
    let ok : Bounded r bs = (inside.a, (inside.b, (inside.c, (inside.d, (hj, (hn, tt)))))) in
    le_trans (ev-size r bs ok (weightedᵉ p i h)) (lit≤ tt)

-- point g of m spans of w steps is at most w steps into its span
step-inside : (g m w : ℕ) → 0 < w → 0 < m → g ≤ m * w → g - min (g / w) (m - 1) * w ≤ w
step-inside g m w hw hm hg =
    ⊎_elim
    (λ e. let l : g / w ≤ m - 1 = leb-true (g / w) (m - 1) e in subst (λ (s : ℕ). g - s * w ≤ w) (sym (min-eq_left l)) (omega (arith, div-add-mod' g w, mod-lt g hw)))
    (λ e. let l : m - 1 < g / w = leb-false (g / w) (m - 1) e in subst (λ (s : ℕ). g - s * w ≤ w) (sym (min-eq_right (before l))) (omega (arith, last)))
    (passes (leb (g / w) (m - 1)))
  where
    before : m - 1 < g / w → m - 1 ≤ g / w
    before l = omega arith

    last : m * w ≡ (m - 1) * w + w
    last = let e : m ≡ suc (m - 1) = omega arith in ap (λ (n : ℕ). n * w) e ∙ suc-mul (m - 1) w

module _ (k m : ℕ) (controls : List ℤ) (deep : k ≤ deepest) (some : 0 < m) (inside : (s axis : ℕ) → s < m → axis < 2 → Inside limit (plain k m controls s axis)) where
  sum-small : (q : ℕ) → q < 2 * points_of k m → nat_abs (sum k m controls q) ≤ 2 ^ 53
  unfolding sum
  sum-small q h =
      let s = min (q / 2 / 2 ^ k) (m - 1) in
      let few : 2 ^ k ≤ 2 ^ deepest = pow-le-pow_right (lit< tt) deep in
      let at : q / 2 ≤ m * 2 ^ k = omega (arith, points-are k m) in
      weighted-small (plain k m controls s (q % 2)) (q / 2 - s * 2 ^ k) (2 ^ k)
      (inside s (q % 2) (omega (arith, min-le_right (q / 2 / 2 ^ k) (m - 1))) (mod-lt q (lit< tt)))
      (le_trans (step-inside (q / 2) m (2 ^ k) (pow_pos k) some at) few)
      few

  -- each value times 2^(3k) equals the whole weighted sum
  pub value-exact : (q : ℕ) → q < 2 * points_of k m → Value (value k m controls q) (sum k m controls q) (2 ^ (3 * k))
  unfolding value
  value-exact q h = dyadic-exact (sum k m controls q) (3 * k) (sum-small q h) (omega arith)

  -- zero is positive zero
  pub value-not-minus-zero : (q : ℕ) → q < 2 * points_of k m → T (not (minus_zero (value k m controls q)))
  unfolding value
  value-not-minus-zero q h = dyadic-not-minus-zero (sum k m controls q) (3 * k) (sum-small q h) (omega arith)

-- ---- whatever is drawn

front : (points vs : List Float) (q : ℕ) → length vs ≤ length points → q < length vs → get_or (sets points 0 vs) q nan ≡ get_or vs q nan
front points vs q room l =
    ap (λ v. get_or v q nan) (sets-eq vs points 0 (omega arith)) ∙ get_or-append vs (drop (0 + length vs) points) nan q l

-- Where the preview draws n points, each of the 2n numbers has exactly the value of its weighted sum over 2^(3k), and none is -0.
pub drawn-exact : (s : Shape) (controls : List ℤ) (points : List Float) (n : ℕ) (l : List Float) → previewing s controls points ≡ outcome (Ok n) l → (q : ℕ) → q < 2 * n
    → Value (get_or l q nan) (sum s.depth (plan_of s).spans controls q) (2 ^ (3 * s.depth)) × T (not (minus_zero (get_or l q nan)))
unfolding plan_of
drawn-exact s controls points n l e q below =
    let none = drawn-none s controls points n l e in
    let plan = plan_of s in
    let k = plan.depth in
    let m = plan.spans in
    let count = points_of k m in
    let lists = list_rows s.count controls count (length points) in
    let good = good-plan s (none-earlier (shape_rows s) (bezier_row s ∷ lists) none) in
    let lent = none-facts s.count controls count (length points) (none-later (shape_rows s ++ bezier_row s ∷ []) lists none) in
    let first : s.basis ≡ 1 = eqb-true s.basis 1 (not-false (eqb s.basis 1) (row-fails 4 (preview_rows s controls (length points)) none)) in
    let inside = bezier-inside s plan controls points good first count (length points) lent in
    let numbers = tab (value k m controls) 0 (2 * count) in
    let long = length-tab (value k m controls) 0 (2 * count) in
    let drawn : outcome (Ok n) l ≡ accepts plan controls points = sym e ∙ none-drawn s controls points none in
    let answer : Ok n ≡ Ok count = λ i. (drawn i).answer in
    let all : n ≡ count = cc in
    let q-in : q < 2 * count = omega arith in
    let here : get_or l q nan ≡ value k m controls q =
    ap (λ (o : Outcome (Result ℕ Refusal) (List Float)). get_or o.held q nan) drawn
    ∙ front points numbers q (omega (arith, long, lent.points-room)) (omega (arith, long))
    ∙ get_or-tab (value k m controls) 0 (2 * count) q q-in nan
    ∙ ap (value k m controls) (omega arith) in (
      subst (λ x. Value x (sum k m controls q) (2 ^ (3 * k))) (sym here) (value-exact k m controls good.depth-most good.spans-least inside q q-in),
      subst (λ x. T (not (minus_zero x))) (sym here) (value-not-minus-zero k m controls good.depth-most good.spans-least inside q q-in),
    )

-- ---- the outline's point is the same value, rounded

sixfold-sum : (q : Four) (x y : ℤ) → weighted (whole_controls Bezier q) x y ≡ pos 6 *ℤ weighted q x y
unfolding weighted weights dot whole_controls
sixfold-sum q x y = solve (R.values q x y) (weightedᵉ (wholeᵉ Bezier p) i h) (num 6 ⊗ weightedᵉ p i h) tt

pub point-rounds : (k : ℕ) (q : Four) (j : ℕ) → point Bezier k q j ≡ nearest (weighted q (pos j) (pos (2 ^ k))) (2 ^ (3 * k))
unfolding point
point-rounds k q j =
    ap (λ z. nearest z (divisor Bezier k)) (sixfold-sum q (pos j) (pos (2 ^ k))) ∙ nearest-scale 6 (weighted q (pos j) (pos (2 ^ k))) (2 ^ (3 * k)) (lit< tt) (pow_pos (3 * k))
