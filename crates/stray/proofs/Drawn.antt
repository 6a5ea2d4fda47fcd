-- Between two neighbouring points of an even outline the curve stays within the chord theorem's bound for their span, and within half a micrometre more of the chord between the points as they stand in
-- the list.
use Rattle.std.specs.Prelude.{Ok}
use mathlib.Core.Path.{◌≡◌, sym, ap, ◌∙◌}
use mathlib.Core.List.{List}
use Prim.Native.Nat.{ℕ, ◌+◌, ◌*◌, ◌/◌, ◌%◌, ◌^◌, ◌≤◌, ◌<◌}
use native.Mathlib.Nat.{mul_comm, mul_assoc, add-mul, mul-le-mul, le_refl, mod-lt, div-add-mod, div-lt_iff_lt-mul}
use native.Mathlib.Omega.{arith}
use lib.IntN.{ℤ, pos, nat_abs, ◌-ℤ◌, ◌*ℤ◌}
use lib.ListN.{get_or}
use lib.Pow.{pow-add, pow_pos}
use Rattle.whole.specs.Outcome.{outcome}
use Rattle.curve.specs.Span.{coordinate, divisor, records, sum_at}
use Rattle.shape.specs.declared.Shape.{Shape}
use Rattle.shape.specs.declared.Plan.{Plan}
use Rattle.shape.specs.Depth.{plan_at}
use Rattle.shape.specs.Refusals.{plan_of}
use Rattle.shape.specs.Shape.{points_of}
use Rattle.spans.specs.Numbers.{sum_of, number}
use Rattle.outline.specs.declared.Figures.{Figures}
use Rattle.outline.specs.Outline.{draws}
use Rattle.outline.proofs.Held.{held_number}
use Rattle.tolerance.proofs.Along.{at-step}
use Rattle.stray.specs.Chord.{Within, span_bound, half_more, off_chord, finer}
use Rattle.stray.proofs.Again.{points-are, close-again}
use Rattle.stray.proofs.Rounded.{rounded-within}
use Rattle.stray.proofs.Spans.{sums-within}

-- ---- over the sums, from step g of a plan at depth k to the next

module _ (p : Plan) (controls : List ℤ) (k l g axis : ℕ) (h : g < p.spans * 2 ^ k) (a : axis < 2) where
  -- the span that they are in, and how many steps from its start
  abbrev span : ℕ
  span = g / 2 ^ k

  abbrev i : ℕ
  i = g % 2 ^ k

  is-there : span < p.spans
  is-there = (div-lt_iff_lt-mul (pow_pos k)).1 h

  step_is : span * 2 ^ k + i ≡ g
  step_is = omega (arith, div-add-mod g (2 ^ k), mul_comm (2 ^ k) span)

  below : i < 2 ^ k
  below = mod-lt g (pow_pos k)

  abbrev sum : ℕ → ℕ → ℤ
  sum depth n = sum_of (plan_at depth p) controls (2 * n + axis)

  abbrev own : ℕ → ℕ → ℤ
  own depth n = sum_at p.basis depth (records p.basis span (coordinate controls axis)) n

  start : sum k g ≡ own k i
  start = ap (sum k) (sym step_is) ∙ at-step p controls span is-there k i axis (omega (arith, below)) a

  end : sum k (g + 1) ≡ own k (i + 1)
  end = ap (sum k) (omega (arith, step_is)) ∙ at-step p controls span is-there k (i + 1) axis (omega (arith, below)) a

  between : (j : ℕ) → j ≤ 2 ^ l → sum (k + l) (g * 2 ^ l + j) ≡ own (k + l) (i * 2 ^ l + j)
  between j b =
      let place : span * 2 ^ (k + l) + (i * 2 ^ l + j) ≡ g * 2 ^ l + j =
      omega (arith, ap (λ (n : ℕ). span * n) (pow-add 2 k l), mul_assoc span (2 ^ k) (2 ^ l), add-mul (span * 2 ^ k) i (2 ^ l), ap (λ (n : ℕ). n * 2 ^ l) step_is) in
      let inside : i * 2 ^ l + j ≤ 2 ^ (k + l) =
      let next : i + 1 ≤ 2 ^ k = omega (arith, below) in
      omega (arith, pow-add 2 k l, mul-le-mul next (le_refl (2 ^ l)), add-mul i 1 (2 ^ l)) in
      ap (sum (k + l)) (sym place) ∙ at-step p controls span is-there (k + l) (i * 2 ^ l + j) axis inside a

  pub steps-within : (j : ℕ) → j ≤ 2 ^ l → Within (span_bound p.basis k controls span axis) (off_chord (2 ^ l) j (finer l (sum k g)) (finer l (sum k (g + 1))) (sum (k + l) (g * 2 ^ l + j))) (2 ^ l * divisor p.basis (k + l))
  steps-within j b = rw (start, end, between j b) (sums-within p.basis (records p.basis span (coordinate controls axis)) k l i j below b)

-- ---- after an accepted drawing

module _ (s : Shape) (controls lent : List ℤ) (fs : Figures) (held : List ℤ) (done : draws s controls lent ≡ outcome (Ok fs) held) (l g axis : ℕ) (h : g + 1 < fs.points) (a : axis < 2) where
  abbrev pl : Plan
  pl = plan_of s

  abbrev d : ℕ
  d = divisor pl.basis (s.depth + l)

  before_last : g < pl.spans * 2 ^ s.depth
  before_last = omega (arith, points-are s controls lent fs held done)

  close : (n : ℕ) → n < fs.points → 2 * nat_abs (finer l (sum_of pl controls (2 * n + axis)) -ℤ pos d *ℤ get_or held (2 * n + axis) (pos 0)) ≤ d
  unfolding points_of plan_of number
  close n b =
      close-again pl.basis s.depth l (sum_of pl controls (2 * n + axis)) (get_or held (2 * n + axis) (pos 0)) (held_number s controls lent fs held done (2 * n + axis) (omega (arith, points-are s controls lent fs held done)))

  pub drawn-router : (j : ℕ) → j ≤ 2 ^ l
      → Within (half_more (span_bound pl.basis s.depth controls (g / 2 ^ s.depth) axis)) (off_chord (2 ^ l) j (pos d *ℤ get_or held (2 * g + axis) (pos 0)) (pos d *ℤ get_or held (2 * (g + 1) + axis) (pos 0)) (sum_of (plan_at (s.depth + l) pl) controls (2 * (g * 2 ^ l + j) + axis))) (2 ^ l * d)
  unfolding plan_of
  drawn-router j b =
      rounded-within (2 ^ l) j d (finer l (sum_of pl controls (2 * g + axis))) (finer l (sum_of pl controls (2 * (g + 1) + axis))) (sum_of (plan_at (s.depth + l) pl) controls (2 * (g * 2 ^ l + j) + axis)) (get_or held (2 * g + axis) (pos 0)) (get_or held (2 * (g + 1) + axis) (pos 0)) b
      (close g (omega arith)) (close (g + 1) h) (span_bound pl.basis s.depth controls (g / 2 ^ s.depth) axis) (steps-within pl controls s.depth l g axis before_last a j b)
