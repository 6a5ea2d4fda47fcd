-- Demand 3, one edit, in terms of its answer and for any contents of the lent points: it works afresh exactly the spans that it touches, and every other span holds what an
-- old one held, in place or one span on or back. What any sequence of edits leaves is in `Sequences`.
use Rattle.std.specs.Prelude.{Ok}
use mathlib.Core.Path.{◌≡◌, sym, ap, ◌∙◌}
use mathlib.Core.Bool.{true, false, cond}
use mathlib.Core.Logic.{◌↔◌}
use mathlib.Core.List.{List}
use Prim.Native.Nat.{ℕ, ◌+◌, ◌*◌, ◌-◌, ◌/◌, ◌^◌, ◌≤◌, ◌<◌}
use native.Mathlib.Nat.{le_of_eq}
use native.Mathlib.Omega.{arith}
use lib.IntN.{ℤ, pos}
use lib.ListN.{get_or, length, replicate, length-replicate}
use Rattle.whole.specs.Outcome.{outcome}
use Rattle.curve.specs.Span.{coordinate, is_loop, records}
use Rattle.shape.specs.declared.Shape.{Shape}
use Rattle.shape.specs.declared.Plan.{Plan}
use Rattle.shape.specs.Refusals.{plan_of}
use Rattle.spans.specs.Numbers.{remainder_of, exact_in, nought, total, per_span}
use Rattle.spans.proofs.Totals.{total-same}
use Rattle.outline.specs.Outline.{points}
use Rattle.asked.specs.declared.Edit.{Edit}
use Rattle.asked.specs.declared.Run.{Run}
use Rattle.asked.specs.Edits.{asked, is_fresh, exact_fresh}
use Rattle.asked.proofs.Fresh.{open-stretch}
use Rattle.edit.specs.declared.Change.{Change}
use Rattle.edit.specs.Reading.{shape_after, edits}
use Rattle.edit.proofs.Worked.{stretch-exact, none-exact}
use Rattle.sequences.specs.Touched.{Touched, InRun, Fresh, old_span}
use Rattle.sequences.proofs.Touched.{held-within}
use Rattle.sequences.proofs.Answered.{answered_shape, answered-controls, answered-run, answered-nought, answered-exact, answered-open, answered_test, answered-every, answered-fresh, answered-other, answered-past, answered-past-controls, answered-records, answered-needed}
use Rattle.promises.specs.Points.{published_number, whole_at, whole_values}
use Rattle.promises.proofs.Points.{number-published}
use Rattle.promises.proofs.Exact.{counts_whole, exact-whole}

-- a list with so much room
zeros : (n : ℕ) → n ≤ length (replicate n (pos 0))
zeros n = le_of_eq (sym (length-replicate n (pos 0)))

-- The call answered c, and left the controls `new` and the points `held`.
module _ (e : Edit) (s : Shape) (j : ℕ) (controls lent : List ℤ) (c : Change) (new held : List ℤ) (done : edits e s j controls lent ≡ outcome (Ok c) (new, held)) where
  abbrev p : Plan
  p = plan_of c.shape

  abbrev k : ℕ
  k = p.depth

  abbrev w : ℕ
  w = per_span k

  -- the shape that is answered and the controls that are left are those that the edit asks for
  pub as-asked : (c.shape ≡ shape_after e s) × (new ≡ asked e j controls c.shape.count)
  as-asked = (answered_shape e s j controls lent c new held done, answered-controls e s j controls lent c new held done)

  -- the run that is answered is of those spans of the new shape that the edit touches
  pub run-exactly : (t : ℕ) → InRun c p.spans t ↔ ((t < p.spans) × Touched e p.basis j t)
  run-exactly = answered-run e s j controls lent c new held done

  -- where there are none, and only there, both numbers are 0
  pub nought-exactly : ((c.first ≡ 0) × (c.fresh ≡ 0)) ↔ ((t : ℕ) → t < p.spans → Touched e p.basis j t → ⊥)
  nought-exactly = answered-nought e s j controls lent c new held done

  -- the run as it was answered
  abbrev run : Run
  run = record { first = c.first; count = c.fresh }

  -- in an open outline a span of the run has a number among its points exactly when its point is from the first span's start to the last one's end, both included (for loops: `Loops.joint-fresh`)
  pub fresh-exactly : is_loop p.basis ≡ false → (q : ℕ) → Fresh c p q ↔ ((0 < c.fresh) × (c.first * 2 ^ k ≤ q / 2) × (q / 2 ≤ (c.first + c.fresh) * 2 ^ k))
  fresh-exactly ends q = held-within p run q ends (answered-open e s j controls lent c new held done ends)

  -- and of every outline exactly when the test of fresh numbers says so
  pub fresh-test : (q : ℕ) → q < 2 * points p → Fresh c p q ↔ (is_fresh run p q ≡ true)
  fresh-test = answered_test e s j controls lent c new held done

  -- such a number is the published curve's for the controls as they then stand
  pub fresh-points : (q : ℕ) → Fresh c p q → get_or held q (pos 0) ≡ published_number p new q
  fresh-points q fresh = answered-fresh e s j controls lent c new held done q fresh ∙ number-published p new q

  -- how many of them are exact is answered: so many of their published values are whole, each number of the outline counted once
  pub fresh-exact : c.exact ≡ total (λ q. cond (is_fresh run p q) (whole_at p new q) 0) 0 (2 * points p)
  unfolding exact_fresh
  fresh-exact =
      answered-exact e s j controls lent c new held done
      ∙ total-same (λ q. cond (is_fresh run p q) (nought (remainder_of p new q)) 0) (λ q. cond (is_fresh run p q) (whole_at p new q) 0) 0 (2 * points p) (λ q _ _. ap (λ (n : ℕ). cond (is_fresh run p q) n 0) (counts_whole p new q))

  -- in an open outline, from the start of the run's first span to the end of its last; none where no span is fresh
  pub open-exact : is_loop p.basis ≡ false → (0 < c.fresh → c.exact ≡ whole_values p new (c.first * w) (c.fresh * w + 2)) × (c.fresh ≡ 0 → c.exact ≡ 0)
  open-exact ends =
      let is = answered-exact e s j controls lent c new held done in
      let room = zeros (p.spans * w + 2) in
      let left : c.first + c.fresh - c.first ≡ c.fresh = omega arith in (
        (λ some.
            is
            ∙ stretch-exact run p new (replicate (p.spans * w + 2) (pos 0)) room c.first (c.first + c.fresh) (open-stretch run p ends some (answered-open e s j controls lent c new held done ends))
            ∙ ap (λ (n : ℕ). exact_in p new (c.first * w) (n * w + 2)) left
            ∙ exact-whole p new (c.first * w) (c.fresh * w + 2)),
        (λ none. is ∙ none-exact run p new (replicate (p.spans * w + 2) (pos 0)) room none),
      )

  -- number i of a span is, where it is not fresh, what number i of the old span held: the same one, the one before (insert) or the one after (remove)
  pub other-points : (t i : ℕ) → t < p.spans → i < w + 2 → (Fresh c p (t * w + i) → ⊥) → get_or held (t * w + i) (pos 0) ≡ get_or lent (old_span e j t * w + i) (pos 0)
  other-points = answered-other e s j controls lent c new held done

  -- and every number of the outline is one of some span
  pub every-number : (q : ℕ) → q < 2 * points p → (t : ℕ) × (i : ℕ) × (t < p.spans) × (i < w + 2) × (q ≡ t * w + i)
  every-number = answered-every e s j controls lent c new held done

  -- every number past the last point keeps what it held
  pub past_points : (length held ≡ length lent) × ((q : ℕ) → 2 * points p ≤ q → get_or held q (pos 0) ≡ get_or lent q (pos 0))
  past_points = answered-past e s j controls lent c new held done

  -- and so does every number past the last control
  pub past-controls : (length new ≡ length controls) × ((q : ℕ) → 2 * c.shape.count ≤ q → get_or new q (pos 0) ≡ get_or controls q (pos 0))
  past-controls = answered-past-controls e s j controls lent c new held done

  -- why a span that is not in the run needs no work: it has the four records of the old span
  pub other-records : (t axis : ℕ) → t < p.spans → axis < 2 → (InRun c p.spans t → ⊥) → records p.basis t (coordinate new axis) ≡ records (plan_of s).basis (old_span e j t) (coordinate controls axis)
  other-records = answered-records e s j controls lent c new held done

  -- and why one that is in it does: no old span has its records whatever the controls hold
  pub run-needed : (t u : ℕ) → InRun c p.spans t → u < (plan_of s).spans
      → ((old : List ℤ) → length old ≡ length controls → records p.basis t (coordinate (asked e j old c.shape.count) 0) ≡ records (plan_of s).basis u (coordinate old 0))
      → ⊥
  run-needed = answered-needed e s j controls lent c new held done
