-- The halved spans are the numbers of the reading: those of span s from its start on are the span's own pieces (`pieces_exact`), and the last two are the last span's end.
use mathlib.Core.Path.{◌≡◌, refl, sym, ap, ◌∙◌}
use mathlib.Core.Bool.{cond}
use mathlib.Core.List.{List, [], ◌∷◌, ◌++◌}
use Prim.Native.Nat.{ℕ, zero, suc, ◌+◌, ◌*◌, ◌-◌, ◌/◌, ◌%◌, ◌^◌, min, ◌≤◌, ◌<◌}
use native.Mathlib.Nat.{suc-mul, zero-mul, mod-lt, min-eq_left, min-eq_right, le_trans, mul-le-mul_left, pow-le-pow_right}
use native.Mathlib.Omega.{arith}
use lib.Arith.{digits_div}
use lib.Dec.{eqb, lit<, lit≤}
use lib.IntN.{ℤ, pos, ◌*ℤ◌}
use lib.Pow.{pow_pos}
use Rattle.whole.proofs.Ring.{var, ◌⊗◌, solve}
use Rattle.curve.specs.declared.Four.{Four}
use Rattle.curve.specs.declared.Basis.TheVariants.{Bezier}
use Rattle.curve.specs.Limits.{Inside, limit}
use Rattle.curve.specs.Tab.{tab}
use Rattle.curve.specs.Span.{coordinate, first_record, records_from, records, weighted}
use Rattle.curve.specs.Ways.{deepest}
use Rattle.curve.proofs.Powers.{cube, thrice}
use Rattle.curve.proofs.Span.{weighted-end}
use Rattle.curve.proofs.Tab.{tab-append, tab-same}
use Rattle.shape.specs.Shape.{points_of}
use Rattle.doubles.specs.Exact.{dyadic}
use Rattle.doubles.proofs.Exact.{dyadic-scale}
use Rattle.preview.specs.Halving.{two, control, span_pieces, halved}
use Rattle.preview.specs.Preview.{sum, value}
use Rattle.preview.proofs.Spans.{points-are, spans-meet}
use Rattle.preview.proofs.Sums.{rule, pieces_exact}

module _ (k m : ℕ) (controls : List ℤ) where
  -- the plain controls of span s on an axis
  abbrev pub plain : ℕ → ℕ → Four
  plain s axis = records Bezier s (coordinate controls axis)

  -- where number q is: at step i of span s on axis q % 2
  located : (q s i : ℕ) → min (q / 2 / 2 ^ k) (m - 1) ≡ s → q / 2 ≡ s * 2 ^ k + i → sum k m controls q ≡ weighted (plain s (q % 2)) (pos i) (pos (2 ^ k))
  unfolding sum
  located q s i e f =
      ap (λ (t : ℕ). weighted (plain t (q % 2)) (pos (q / 2 - t * 2 ^ k)) (pos (2 ^ k))) e
      ∙ ap (λ (t : ℕ). weighted (plain s (q % 2)) (pos t) (pos (2 ^ k))) left
    where
      left : q / 2 - s * 2 ^ k ≡ i
      left = omega arith

  -- an axis is x or y
  axis-is : (s a : ℕ) → a < 2 → plain s a ≡ cond (eqb a 0) (plain s 0) (plain s 1)
  axis-is s zero h = refl
  axis-is s (suc zero) h = refl
  axis-is s (suc (suc a)) h = absurd (omega arith)

  -- ---- a span

  span-sum : (s j : ℕ) → s < m → j < 2 * 2 ^ k → sum k m controls (2 * (s * 2 ^ k) + j) ≡ weighted (cond (eqb (j % 2) 0) (plain s 0) (plain s 1)) (pos (j / 2)) (pos (2 ^ k))
  span-sum s j h below =
      let q = 2 * (s * 2 ^ k) + j in
      let half : q / 2 ≡ s * 2 ^ k + j / 2 = omega arith in
      let same : q % 2 ≡ j % 2 = omega arith in
      let inner : j / 2 < 2 ^ k = omega arith in
      let span : min (q / 2 / 2 ^ k) (m - 1) ≡ s = ap (λ (n : ℕ). min (n / 2 ^ k) (m - 1)) half ∙ ap (λ (n : ℕ). min n (m - 1)) (digits_div s inner) ∙ min-eq_left (omega arith) in
      located q s (j / 2) span half ∙ ap (λ z. weighted z (pos (j / 2)) (pos (2 ^ k))) (ap (plain s) same ∙ axis-is s (j % 2) (mod-lt j (lit< tt)))

  span_value : (s j : ℕ) → s < m → j < 2 * 2 ^ k → value k m controls (2 * (s * 2 ^ k) + j) ≡ rule k 0 (plain s 0) (plain s 1) j
  unfolding value rule
  span_value s j h below = let depth : 3 * k ≡ 0 + 3 * k = omega arith in λ t. dyadic (span-sum s j h below t) (depth t)

  -- ---- the end of the last span

  end-sum : (r : ℕ) → 0 < m → r < 2 → sum k m controls (2 * (m * 2 ^ k) + r) ≡ coordinate controls r (first_record Bezier m) *ℤ pos (2 ^ (3 * k))
  unfolding records_from cube
  end-sum r h below =
      let q = 2 * (m * 2 ^ k) + r in
      let before : m ≡ suc (m - 1) = omega arith in
      let whole : m * 2 ^ k ≡ (m - 1) * 2 ^ k + 2 ^ k = ap (λ (n : ℕ). n * 2 ^ k) before ∙ suc-mul (m - 1) (2 ^ k) in
      let half : q / 2 ≡ m * 2 ^ k = omega arith in
      let same : q % 2 ≡ r = omega arith in
      let none : m * 2 ^ k ≡ m * 2 ^ k + 0 = omega arith in
      let span : min (q / 2 / 2 ^ k) (m - 1) ≡ m - 1 = ap (λ (n : ℕ). min (n / 2 ^ k) (m - 1)) (half ∙ none) ∙ ap (λ (n : ℕ). min n (m - 1)) (digits_div m (pow_pos k)) ∙ min-eq_right (omega arith) in
      let last : first_record Bezier (m - 1) + 3 ≡ first_record Bezier m = spans-meet (m - 1) ∙ ap (first_record Bezier) (sym before) in
      located q (m - 1) (2 ^ k) span (half ∙ whole)
      ∙ ap (λ (a : ℕ). weighted (plain (m - 1) a) (pos (2 ^ k)) (pos (2 ^ k))) same
      ∙ weighted-end (plain (m - 1) r) (pos (2 ^ k))
      ∙ (λ t. pos (sym (thrice k) t) *ℤ coordinate controls r (last t))
      ∙ solve (coordinate controls r (first_record Bezier m) ∷ pos (2 ^ (3 * k)) ∷ []) (var 1 ⊗ var 0) (var 0 ⊗ var 1) tt

  end-value : (r : ℕ) → 0 < m → r < 2 → dyadic (coordinate controls r (first_record Bezier m)) 0 ≡ value k m controls (2 * (m * 2 ^ k) + r)
  unfolding value
  end-value r h below =
      let depth : 0 + 3 * k ≡ 3 * k = omega arith in
      sym (dyadic-scale (coordinate controls r (first_record Bezier m)) (3 * k) 0) ∙ (λ t. dyadic (sym (end-sum r h below) t) (depth t))

  -- ---- all spans

  module _ (deep : k ≤ deepest) (inside : (s axis : ℕ) → s < m → axis < 2 → Inside limit (plain s axis)) where
    small : limit * 8 ^ k ≤ 2 ^ 53
    small = le_trans (mul-le-mul_left limit (pow-le-pow_right (lit< tt) deep)) (lit≤ tt)

    span-list : (s : ℕ) → s < m → span_pieces controls k s ≡ tab (value k m controls) (2 * (s * 2 ^ k)) (2 * 2 ^ k)
    unfolding span_pieces control records_from
    span-list s h =
        pieces_exact k 0 limit (plain s 0) (plain s 1) (inside s 0 h (lit< tt)) (inside s 1 h (lit< tt)) small (omega arith)
        ∙ tab-same (rule k 0 (plain s 0) (plain s 1)) (value k m controls) 0 (2 * (s * 2 ^ k)) (2 * 2 ^ k) (λ j b. from j ∙ sym (span_value s j h b))
      where
        from : (j : ℕ) → rule k 0 (plain s 0) (plain s 1) (0 + j) ≡ rule k 0 (plain s 0) (plain s 1) j
        from j = ap (rule k 0 (plain s 0) (plain s 1)) (omega arith)

    end_list : 0 < m → two (control controls (first_record Bezier m)) ≡ tab (value k m controls) (2 * (m * 2 ^ k)) 2
    unfolding control tab
    end_list h =
        let first : 2 * (m * 2 ^ k) + 0 ≡ 2 * (m * 2 ^ k) = omega arith in
        let second : 2 * (m * 2 ^ k) + 1 ≡ suc (2 * (m * 2 ^ k)) = omega arith in
        let x = end-value 0 h (lit< tt) ∙ ap (value k m controls) first in
        let y = end-value 1 h (lit< tt) ∙ ap (value k m controls) second in
        λ t. x t ∷ y t ∷ []

    halved-from : (n s : ℕ) → 0 < m → s + n ≡ m → halved controls k s n ≡ tab (value k m controls) (2 * (s * 2 ^ k)) (2 * (n * 2 ^ k + 1))
    unfolding halved
    halved-from zero s h e =
        let here : m ≡ s = omega arith in
        let pair : 2 ≡ 2 * (0 * 2 ^ k + 1) = omega (arith, zero-mul (2 ^ k)) in
        (λ t. two (control controls (first_record Bezier (sym here t)))) ∙ end_list h ∙ (λ t. tab (value k m controls) (2 * (here t * 2 ^ k)) (pair t))
    halved-from (suc n) s h e =
        let on : 2 * (suc s * 2 ^ k) ≡ 2 * (s * 2 ^ k) + 2 * 2 ^ k = omega (arith, suc-mul s (2 ^ k)) in
        let all : 2 * 2 ^ k + 2 * (n * 2 ^ k + 1) ≡ 2 * (suc n * 2 ^ k + 1) = omega (arith, suc-mul n (2 ^ k)) in
        let f = value k m controls in
        (λ t. span-list s (omega arith) t ++ halved-from n (suc s) h (omega arith) t)
        ∙ ap (λ (i : ℕ). tab f (2 * (s * 2 ^ k)) (2 * 2 ^ k) ++ tab f i (2 * (n * 2 ^ k + 1))) on
        ∙ sym (tab-append f (2 * (s * 2 ^ k)) (2 * 2 ^ k) (2 * (n * 2 ^ k + 1)))
        ∙ ap (tab f (2 * (s * 2 ^ k))) all

    pub halved_is : 0 < m → halved controls k 0 m ≡ tab (value k m controls) 0 (2 * points_of k m)
    halved_is h =
        let start : 2 * (0 * 2 ^ k) ≡ 0 = omega (arith, zero-mul (2 ^ k)) in
        let all : 2 * (m * 2 ^ k + 1) ≡ 2 * points_of k m = omega (arith, points-are k m) in
        halved-from m 0 h (omega arith) ∙ (λ t. tab (value k m controls) (start t) (all t))
