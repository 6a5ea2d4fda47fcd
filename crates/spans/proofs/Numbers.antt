-- The sums of an outline's numbers, span by span: those of span t from its start on are the span's own pairs, and the two after them are its end.
use mathlib.Core.Path.{◌≡◌, refl, sym, ap, ◌∙◌}
use mathlib.Core.Bool.{cond}
use mathlib.Core.List.{List, [], ◌∷◌, ◌++◌}
use mathlib.Core.Logic.{⊎_elim}
use Prim.Native.Nat.{ℕ, zero, suc, ◌+◌, ◌*◌, ◌-◌, ◌/◌, ◌%◌, ◌^◌, min, ◌≤◌, ◌<◌}
use native.Mathlib.Nat.{zero-add, mul_left_comm, suc-mul, zero-mul, mod-lt, mod-eq_of_lt, mul-le-mul, le_refl, lt_of_le_of_lt, min-eq_left, min-eq_right}
use native.Mathlib.Numerals.{add-one}
use native.Mathlib.Omega.{arith}
use lib.Arith.{digits_div}
use lib.Dec.{eqb, lit<}
use lib.IntN.{ℤ, pos}
use lib.Pow.{pow_pos, pow_mono}
use Rattle.whole.specs.Nearest.{nearest}
use Rattle.curve.specs.declared.Four.{Four}
use Rattle.curve.specs.declared.Basis.{Basis}
use Rattle.curve.specs.Tab.{tab}
use Rattle.curve.specs.Span.{coordinate, records, whole_controls, weighted, divisor, sum_at, point}
use Rattle.curve.specs.Ways.{deepest}
use Rattle.curve.proofs.Span.{joint}
use Rattle.curve.proofs.Tab.{tab-append, tab-same}
use Rattle.shape.specs.declared.Plan.{Plan}
use Rattle.shape.proofs.Tests.{either}
use Rattle.spans.specs.Numbers.{sum_of, number, per_span}
use Rattle.spans.specs.Inner.{paired, on_axis, ending}

-- 2 shifted left by the depth is a span's numbers
pub stride-is : (k : ℕ) → k ≤ deepest → 2 * 2 ^ k % 2 ^ 64 ≡ per_span k
stride-is k h = mod-eq_of_lt (lt_of_le_of_lt (mul-le-mul (le_refl 2) (pow_mono {i = k} {j = deepest} h)) (lit< tt))

-- the whole controls of span s on an axis
abbrev pub span_controls : Basis → List ℤ → ℕ → ℕ → Four
span_controls b controls s axis = whole_controls b (records b s (coordinate controls axis))

-- a span's numbers are twice its steps
pub per-span : (s k : ℕ) → s * per_span k ≡ 2 * (s * 2 ^ k)
per-span s k = mul_left_comm s 2 (2 ^ k)

-- an axis is x or y
axis-sum : (b : Basis) (k s i : ℕ) (controls : List ℤ) (j : ℕ) → sum_at b k (records b s (coordinate controls (j % 2))) i
    ≡ weighted (on_axis (span_controls b controls s 0) (span_controls b controls s 1) j) (pos i) (pos (2 ^ k))
axis-sum b k s i controls j = go (j % 2) (mod-lt j (lit< tt))
  where
    go : (a : ℕ) → a < 2 → weighted (span_controls b controls s a) (pos i) (pos (2 ^ k))
        ≡ weighted (cond (eqb a 0) (span_controls b controls s 0) (span_controls b controls s 1)) (pos i) (pos (2 ^ k))
    go zero h = refl
    go (suc zero) h = refl
    go (suc (suc a)) h = absurd (omega arith)

-- ---- number j of the 2^k + 1 points of span t, its end among them: the next span's start where there is one

module _ (p : Plan) (controls : List ℤ) (t j : ℕ) (there : t < p.spans) where
  abbrev b : Basis
  b = p.basis

  abbrev k : ℕ
  k = p.depth

  abbrev q : ℕ
  q = t * per_span k + j

  abbrev at : ℕ → ℤ
  at = coordinate controls (j % 2)

  half : q / 2 ≡ t * 2 ^ k + j / 2
  half = omega (arith, per-span t k)

  -- as the outline has it: step i of span s
  stands : (s i : ℕ) → min (q / 2 / 2 ^ k) (p.spans - 1) ≡ s → q / 2 ≡ s * 2 ^ k + i → sum_of p controls q ≡ sum_at b k (records b s at) i
  unfolding sum_of
  stands s i span step =
      let axis : q % 2 ≡ j % 2 = omega (arith, per-span t k) in
      let left : q / 2 - s * 2 ^ k ≡ i = omega arith in
      ap (λ (n : ℕ). sum_at b k (records b n (coordinate controls (q % 2))) (q / 2 - n * 2 ^ k)) span
      ∙ ap (sum_at b k (records b s (coordinate controls (q % 2)))) left
      ∙ ap (λ (a : ℕ). sum_at b k (records b s (coordinate controls a)) i) axis

  -- the span of a point that is i steps from the start of span s
  span_of : (s i : ℕ) → q / 2 ≡ s * 2 ^ k + i → i < 2 ^ k → min (q / 2 / 2 ^ k) (p.spans - 1) ≡ min s (p.spans - 1)
  span_of s i e h = ap (λ (n : ℕ). min (n / 2 ^ k) (p.spans - 1)) e ∙ ap (λ (n : ℕ). min n (p.spans - 1)) (digits_div s h)

  next : 2 ^ k ≡ j / 2 → q / 2 ≡ suc t * 2 ^ k + 0
  next e = omega (arith, half, suc-mul t (2 ^ k))

  pub span-sum : j < per_span k + 2 → sum_of p controls q ≡ sum_at b k (records b t at) (j / 2)
  span-sum within =
      ⊎_elim (λ (before : j / 2 < 2 ^ k). stands t (j / 2) (span_of t (j / 2) half before ∙ min-eq_left (omega arith)) half)
      (λ (past : 2 ^ k ≤ j / 2).
      let end : 2 ^ k ≡ j / 2 = omega arith in
      let on = span_of (suc t) 0 (next end) (pow_pos k) in
      ⊎_elim (λ (more : suc t < p.spans). stands (suc t) 0 (on ∙ min-eq_left (omega arith)) (next end) ∙ sym (joint b k t at) ∙ ap (sum_at b k (records b t at)) end)
      (λ (last : p.spans ≤ suc t).
      let final : p.spans - 1 ≡ t = omega arith in
      stands t (j / 2) (on ∙ min-eq_right (omega arith) ∙ final) half)
      (either (suc t) p.spans))
      (either (j / 2) (2 ^ k))

  pub span-point : j < per_span k + 2 → number p controls q ≡ point b k (records b t at) (j / 2)
  unfolding number point
  span-point within = ap (λ z. nearest z (divisor b k)) (span-sum within)

-- ---- the sums of a span but its end, and those of its end

pub span-sums : (p : Plan) (controls : List ℤ) (t : ℕ) → t < p.spans
    → tab (sum_of p controls) (t * per_span p.depth) (per_span p.depth) ≡ tab (paired p.depth (span_controls p.basis controls t 0) (span_controls p.basis controls t 1)) 0 (per_span p.depth)
unfolding paired
span-sums p controls t h =
    let f = paired p.depth (span_controls p.basis controls t 0) (span_controls p.basis controls t 1) in
    tab-same (sum_of p controls) f (t * per_span p.depth) 0 (per_span p.depth)
    (λ j below. span-sum p controls t j h (omega arith) ∙ axis-sum p.basis p.depth t (j / 2) controls j ∙ ap f (sym (zero-add j)))

pub end-sum : (p : Plan) (controls : List ℤ) (t r : ℕ) → t < p.spans → r < 2
    → sum_of p controls ((t + 1) * per_span p.depth + r) ≡ sum_at p.basis p.depth (records p.basis t (coordinate controls r)) (2 ^ p.depth)
end-sum p controls t r there below =
    let w = per_span p.depth in
    let here : (t + 1) * w + r ≡ t * w + (w + r) = omega (arith, ap (λ (n : ℕ). n * w) (add-one t), suc-mul t w) in
    let axis : (w + r) % 2 ≡ r = omega arith in
    let step : (w + r) / 2 ≡ 2 ^ p.depth = omega arith in
    ap (sum_of p controls) here
    ∙ span-sum p controls t (w + r) there (omega arith)
    ∙ ap (λ (a : ℕ). sum_at p.basis p.depth (records p.basis t (coordinate controls a)) ((w + r) / 2)) axis
    ∙ ap (sum_at p.basis p.depth (records p.basis t (coordinate controls r))) step

-- ---- a run of spans, taken one span at a time

-- the sums from span s to the end of span m - 1 are span s's and those from span s + 1
pub next-span : (f : ℕ → ℤ) (k m s : ℕ) → s < m
    → tab f (s * per_span k) ((m - s) * per_span k + 2) ≡ tab f (s * per_span k) (per_span k) ++ tab f ((s + 1) * per_span k) ((m - (s + 1)) * per_span k + 2)
next-span f k m s h =
    let w = per_span k in
    let rest = (m - (s + 1)) * w in
    let e : m - s ≡ suc (m - (s + 1)) = omega arith in
    let count : (m - s) * w + 2 ≡ w + (rest + 2) = omega (arith, ap (λ (n : ℕ). n * w) e, suc-mul (m - (s + 1)) w) in
    let on : s * w + w ≡ (s + 1) * w = omega (arith, ap (λ (n : ℕ). n * w) (add-one s), suc-mul s w) in
    ap (tab f (s * w)) count ∙ tab-append f (s * w) w (rest + 2) ∙ ap (λ (n : ℕ). tab f (s * w) w ++ tab f n (rest + 2)) on

-- after the last span of a run two sums are left: those of its end
pub last-two : (p : Plan) (controls : List ℤ) (m t : ℕ) → t < p.spans → m ≤ t + 1
    → tab (sum_of p controls) ((t + 1) * per_span p.depth) ((m - (t + 1)) * per_span p.depth + 2) ≡ ending p.depth (span_controls p.basis controls t 0) (span_controls p.basis controls t 1)
unfolding tab
last-two p controls m t there done =
    let w = per_span p.depth in
    let none : m - (t + 1) ≡ 0 = omega arith in
    let two : (m - (t + 1)) * w + 2 ≡ 2 = ap (λ (n : ℕ). n * w + 2) none ∙ ap (λ (n : ℕ). n + 2) (zero-mul w) in
    let f = sum_of p controls in
    let q = (t + 1) * w in
    let here : q ≡ q + 0 = omega arith in
    let next : suc q ≡ q + 1 = omega arith in
    ap (tab f q) two
    ∙ ap (λ z. z ∷ f (suc q) ∷ []) (ap f here ∙ end-sum p controls t 0 there (lit< tt))
    ∙ ap (λ z. sum_at p.basis p.depth (records p.basis t (coordinate controls 0)) (2 ^ p.depth) ∷ z ∷ []) (ap f next ∙ end-sum p controls t 1 there (lit< tt))
