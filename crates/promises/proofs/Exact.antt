-- Which points were exact (document 02, request 9): how far each point is from the published curve, by its remainder, and what the answered figures count. Those of an edit are with the
-- other promises of an edit.
use Rattle.std.specs.Prelude.{Ok}
use mathlib.Core.Path.{◌≡◌, refl, sym, ap, ◌∙◌, subst}
use mathlib.Core.Bool.{true, false, cond}
use mathlib.Core.List.{List, map}
use mathlib.Core.Logic.{⊎_elim, ◌↔◌}
use Prim.Native.Nat.{ℕ, zero, suc, ◌+◌, ◌*◌, ◌-◌, ◌/◌, ◌%◌, ◌^◌, ◌≤◌, ◌<◌, min}
use native.Mathlib.Nat.{mul-pos}
use borrow.Author.Tests.{eqb-true, eqb-false}
use lib.IntN.{ℤ, pos, nat_abs, ◌-ℤ◌, ◌*ℤ◌}
use lib.ListN.{get_or}
use lib.Pow.{pow_pos}
use Rattle.whole.specs.Nearest.{remainder}
use Rattle.whole.specs.Outcome.{outcome}
use Rattle.whole.proofs.Remainder.{remainder-close, divides-nought, nought-divides}
use Rattle.curve.specs.declared.Four.{Four}
use Rattle.curve.specs.Published.{denominator}
use Rattle.curve.specs.Span.{fold, coordinate, records, divisor}
use Rattle.curve.specs.Tab.{tab}
use Rattle.curve.specs.Ways.{by_weights, by_halving, by_differences}
use Rattle.curve.proofs.Span as curve
use Rattle.shape.specs.declared.Shape.{Shape}
use Rattle.shape.specs.declared.Plan.{Plan}
use Rattle.shape.specs.Refusals.{plan_of}
use Rattle.shape.proofs.Tests.{passes}
use Rattle.spans.specs.Numbers.{sum_of, remainder_of, nought, noughts, exact_in}
use Rattle.spans.proofs.Rounds.{not-nought}
use Rattle.outline.specs.declared.Figures.{Figures}
use Rattle.outline.specs.Outline.{figures_of, draws}
use Rattle.outline.proofs.Exactly.{done-figures}
use Rattle.sequences.specs.Calls.{Way, MeetsDrawing}
use Rattle.sequences.proofs.Calls.{meets-draws}
use Rattle.promises.specs.Points.{published_divisor, published_value, published_number, is_whole, whole_values}
use Rattle.promises.proofs.Points.{three_ways, drawn-published}
use Rattle.promises.proofs.Rounding.{nought-exactly}

-- ---- the remainder of a number

module _ (p : Plan) (controls : List ℤ) (q : ℕ) where
  abbrev value : ℤ
  value = published_value p controls q

  abbrev under : ℕ
  under = published_divisor p.basis p.depth

  pub under-pos : 0 < under
  under-pos = mul-pos (curve.denominator-pos p.basis) (pow_pos (3 * p.depth))

  -- over its divisor, 6 · 2^(3k) or 192 · 2^(3k), it is what the published value is more than the number: both sides are that difference, times the two divisors and over 2^(3k)
  pub remainder-published : pos (denominator p.basis) *ℤ remainder_of p controls q ≡ pos (fold p.basis) *ℤ (value -ℤ pos under *ℤ published_number p controls q)
  unfolding sum_of remainder_of published_value published_number remainder
  remainder-published =
      let s = min (q / 2 / 2 ^ p.depth) (p.spans - 1) in
      curve.remainder-published p.basis p.depth (records p.basis s (coordinate controls (q % 2))) (q / 2 - s * 2 ^ p.depth)

  -- twice its size is at most the divisor
  pub remainder-half : 2 * nat_abs (remainder_of p controls q) ≤ divisor p.basis p.depth
  unfolding remainder_of
  remainder-half = remainder-close (sum_of p controls q) (divisor p.basis p.depth) (curve.divisor-pos p.basis p.depth)

  nought-published : (remainder_of p controls q ≡ pos 0) ↔ (remainder value under ≡ pos 0)
  unfolding sum_of remainder_of published_value
  nought-published =
      let s = min (q / 2 / 2 ^ p.depth) (p.spans - 1) in
      curve.nought-published p.basis p.depth (records p.basis s (coordinate controls (q % 2))) (q / 2 - s * 2 ^ p.depth)

  -- it is nought exactly where the published value is whole
  pub remainder-nought : (remainder_of p controls q ≡ pos 0) ↔ ((n : ℤ) × (value ≡ pos under *ℤ n))
  remainder-nought =
      let whole = nought-exactly value under under-pos in
      ((λ e. whole.0 (nought-published.0 e)), (λ e. nought-published.1 (whole.1 e)))

  -- and counts one there
  pub counts_whole : nought (remainder_of p controls q) ≡ cond (is_whole value under) 1 0
  counts_whole =
      let r = remainder_of p controls q in
      ⊎_elim
      (λ (t : is_whole value under ≡ true). ap nought (nought-published.1 (divides-nought value under under-pos (eqb-true (nat_abs value % under) 0 t))) ∙ sym (ap (λ w. cond w 1 0) t))
      (λ (f : is_whole value under ≡ false). not-nought r (λ e. eqb-false (nat_abs value % under) 0 f (nought-divides value under (nought-published.0 e))) ∙ sym (ap (λ w. cond w 1 0) f))
      (passes (is_whole value under))

-- the three ways have the same sums of a span, so the same is left over of each
pub three-ways-leave : (k : ℕ) (q : Four) (d : ℕ) → (map (λ z. remainder z d) (by_halving k q) ≡ map (λ z. remainder z d) (by_weights k q)) × (map (λ z. remainder z d) (by_differences k q) ≡ map (λ z. remainder z d) (by_weights k q))
three-ways-leave k q d = (ap (map (λ z. remainder z d)) (three_ways k q).0, ap (map (λ z. remainder z d)) (three_ways k q).1)

-- as many numbers are exact as published values are whole
pub exact-whole : (p : Plan) (controls : List ℤ) (q n : ℕ) → exact_in p controls q n ≡ whole_values p controls q n
unfolding tab noughts whole_values
exact-whole p controls q zero = refl
exact-whole p controls q (suc n) = λ i. counts_whole p controls q i + exact-whole p controls (suc q) n i

-- ---- after an accepted drawing, by whichever way

module _ (s : Shape) (controls lent : List ℤ) (fs : Figures) (held : List ℤ) (done : draws s controls lent ≡ outcome (Ok fs) held) where
  -- the figure is the count of whole published values
  pub drawn-exact : fs.exact ≡ whole_values (plan_of s) controls 0 (2 * fs.points)
  drawn-exact =
      subst (λ (f : Figures). f.exact ≡ whole_values (plan_of s) controls 0 (2 * f.points)) (done-figures s controls lent fs held done)
      (exact-whole (plan_of s) controls 0 (2 * (figures_of (plan_of s) controls).points))

  -- and each number, as it stands in the list, is at most half a micrometre from the published curve on its axis
  pub drawn-half : (q : ℕ) → q < 2 * fs.points
      → 2 * nat_abs (published_value (plan_of s) controls q -ℤ pos (published_divisor (plan_of s).basis (plan_of s).depth) *ℤ get_or held q (pos 0)) ≤ published_divisor (plan_of s).basis (plan_of s).depth
  unfolding remainder published_number
  drawn-half q h =
      let p = plan_of s in
      let under = published_divisor p.basis p.depth in
      let within = subst (λ (f : Figures). q < 2 * f.points) (sym (done-figures s controls lent fs held done)) h in
      subst (λ n. 2 * nat_abs (published_value p controls q -ℤ pos under *ℤ n) ≤ under) (sym (drawn-published s controls lent fs held done q within))
      (remainder-close (published_value p controls q) under (under-pos p controls q))

-- and this is said of the code: of a drawing call by any way
pub code-exact : (w : Way) (s : Shape) (controls lent : List ℤ) (fs : Figures) (held : List ℤ)
    → MeetsDrawing w (s, controls, lent) (outcome (Ok fs) held)
    → fs.exact ≡ whole_values (plan_of s) controls 0 (2 * fs.points)
code-exact w s controls lent fs held met = drawn-exact s controls lent fs held (meets-draws w s controls lent _ met)
