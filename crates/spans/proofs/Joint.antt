-- A loop is closed: its last point is its first one again, coordinate by coordinate, with what is left over of each (document 02, request 8).
use mathlib.Core.Bool.{true}
use mathlib.Core.List.{List}
use mathlib.Core.Logic.{⊎_elim}
use mathlib.Core.Path.{◌≡◌, sym, ap, ◌∙◌, subst}
use Prim.Native.Nat.{ℕ, suc, ◌+◌, ◌*◌, ◌-◌, ◌/◌, ◌%◌, ◌≤◌, ◌<◌}
use native.Mathlib.Nat.{zero-mul}
use native.Mathlib.Omega.{arith}
use lib.IntN.{ℤ}
use Rattle.whole.specs.Nearest.{nearest, remainder}
use Rattle.curve.specs.declared.Basis.{Basis}
use Rattle.curve.specs.Span.{coordinate, is_loop, records, divisor, sum_at}
use Rattle.curve.specs.Tab.{tab}
use Rattle.curve.proofs.Round.{loop-closes}
use Rattle.curve.proofs.Span.{joint}
use Rattle.curve.proofs.Tab.{tab-same}
use Rattle.shape.specs.declared.Plan.{Plan}
use Rattle.shape.specs.Inner.{RunsRound}
use Rattle.shape.proofs.Spans.{loop-is, runs-least}
use Rattle.spans.specs.Numbers.{sum_of, number, remainder_of, per_span}
use Rattle.spans.specs.Inner.{Joint, ending}
use Rattle.spans.proofs.Numbers.{span_controls, span-sum, end-sum, last-two}

-- past its last span comes its first again
closes : (b : Basis) (m : ℕ) (at : ℕ → ℤ) → RunsRound b m → is_loop b ≡ true → records b m at ≡ records b 0 at
closes b m at round loop = subst (λ x. records x m at ≡ records x 0 at) (sym (loop-is b m round loop)) (loop-closes m at (runs-least b m round loop))

module _ (p : Plan) (controls : List ℤ) (round : RunsRound p.basis p.spans) (loop : is_loop p.basis ≡ true) (some : 1 ≤ p.spans) where
  abbrev b : Basis
  b = p.basis

  abbrev k : ℕ
  k = p.depth

  abbrev m : ℕ
  m = p.spans

  abbrev w : ℕ
  w = per_span k

  pub joint-sum : (r : ℕ) → r < 2 → sum_of p controls (m * w + r) ≡ sum_of p controls r
  joint-sum r two =
      let at = coordinate controls r in
      let last : m - 1 + 1 ≡ m = omega arith in
      let next : suc (m - 1) ≡ m = omega arith in
      let axis : r % 2 ≡ r = omega arith in
      let step : r / 2 ≡ 0 = omega arith in
      let here : 0 * w + r ≡ r = ap (λ (n : ℕ). n + r) (zero-mul w) ∙ omega arith in
      ap (λ (n : ℕ). sum_of p controls (n * w + r)) (sym last)
      ∙ end-sum p controls (m - 1) r (omega arith) two
      ∙ joint b k (m - 1) at
      ∙ ap (λ (s : ℕ). sum_at b k (records b s at) 0) next
      ∙ ap (λ q. sum_at b k q 0) (closes b m at round loop)
      ∙ sym
      (ap (sum_of p controls) (sym here)
      ∙ span-sum p controls 0 r (omega arith) (omega arith)
      ∙ (λ i. sum_at b k (records b 0 (coordinate controls (axis i))) (step i)))

  pub joint-number : (r : ℕ) → r < 2 → number p controls (m * w + r) ≡ number p controls r
  unfolding number
  joint-number r two = ap (λ z. nearest z (divisor b k)) (joint-sum r two)

  pub joint-remainder : (r : ℕ) → r < 2 → remainder_of p controls (m * w + r) ≡ remainder_of p controls r
  unfolding remainder_of
  joint-remainder r two = ap (λ z. remainder z (divisor b k)) (joint-sum r two)

  -- so the end of the last span is what stands at either place
  pub joint-sums : (at : ℕ) → Joint p at → tab (sum_of p controls) at 2 ≡ ending k (span_controls b controls (m - 1) 0) (span_controls b controls (m - 1) 1)
  joint-sums at (_, place) = ⊎_elim (λ e. ap (λ (q : ℕ). tab f q 2) e ∙ first) (λ e. ap (λ (q : ℕ). tab f q 2) e ∙ last) place
    where
      f : ℕ → ℤ
      f = sum_of p controls

      last : tab f (m * w) 2 ≡ ending k (span_controls b controls (m - 1) 0) (span_controls b controls (m - 1) 1)
      last =
          let end : m - 1 + 1 ≡ m = omega arith in
          let none : m - (m - 1 + 1) ≡ 0 = omega arith in
          let two : (m - (m - 1 + 1)) * w + 2 ≡ 2 = ap (λ (n : ℕ). n * w + 2) none ∙ ap (λ (n : ℕ). n + 2) (zero-mul w) in
          ap (λ (n : ℕ). tab f (n * w) 2) (sym end) ∙ ap (tab f ((m - 1 + 1) * w)) (sym two) ∙ last-two p controls m (m - 1) (omega arith) (omega arith)

      first : tab f 0 2 ≡ ending k (span_controls b controls (m - 1) 0) (span_controls b controls (m - 1) 1)
      first = tab-same f f 0 (m * w) 2 (λ r two. ap f (omega arith) ∙ sym (joint-sum r two)) ∙ last
