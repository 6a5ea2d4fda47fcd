-- Closed loops (document 02, request 8), of what the calls answer: a loop is the open B-spline of its records with the first three repeated; its last point is its first, after every drawing and
-- after any edits; an edit's run is counted round the new loop, and the first and the last point are both fresh where the first or the last span is.
use Rattle.std.specs.Prelude.{Ok}
use mathlib.Core.Path.{◌≡◌, refl, sym, ap, ◌∙◌, subst}
use mathlib.Core.Bool.{true}
use mathlib.Core.List.{List, [], ◌∷◌, ◌++◌}
use mathlib.Core.Logic.{◌⊎◌, inl, inr, ⊎_elim, ◌↔◌}
use Prim.Native.Nat.{ℕ, zero, suc, ◌+◌, ◌*◌, ◌-◌, ◌/◌, ◌%◌, ◌^◌, min, ◌≤◌, ◌<◌}
use native.Mathlib.Nat.{mul-le-mul_right, zero-mul, one-mul, min-le_right}
use native.Mathlib.Omega.{arith}
use borrow.Author.Tests.{ltb-false}
use lib.IntN.{ℤ, pos}
use lib.ListN.{get_or, length, take, get_or-append}
use lib.Pow.{pow_pos}
use lib.Seq.{get_or-take, length-take-le}
use Rattle.whole.specs.Nearest.{nearest}
use Rattle.whole.specs.Outcome.{outcome}
use Rattle.curve.specs.declared.Basis.{Basis}
use Rattle.curve.specs.declared.Basis.TheVariants.{BSpline, Loop}
use Rattle.curve.specs.declared.Four.{Four}
use Rattle.curve.specs.Published.{published}
use Rattle.curve.specs.Span.{first_record, coordinate, round_end, is_loop, records}
use Rattle.curve.proofs.Round.{round-below, round-past, same-records, loop-first}
use Rattle.curve.proofs.Stride.{unit-first}
use Rattle.shape.specs.declared.Shape.{Shape}
use Rattle.shape.specs.declared.Plan.{Plan}
use Rattle.shape.specs.Inner.{Good}
use Rattle.shape.specs.Shape.{loop, basis_of, spans_of, points_of, least_records}
use Rattle.shape.specs.Refusals.{plan_of, shape_rows, list_rows}
use Rattle.shape.proofs.Refusals.{none-earlier, none-later, good-plan, row-fails}
use Rattle.shape.proofs.Spans.{loop-spans}
use Rattle.shape.proofs.Tests.{either}
use Rattle.spans.specs.Numbers.{per_span}
use Rattle.spans.proofs.Joint.{joint-number}
use Rattle.spans.proofs.Numbers.{per-span}
use Rattle.outline.specs.declared.Figures.{Figures}
use Rattle.outline.specs.Outline.{points, figures_of, draws}
use Rattle.outline.proofs.Draws.{all-numbers}
use Rattle.outline.proofs.Exactly.{done_none, done-figures}
use Rattle.outline.proofs.Held.{held_number}
use Rattle.asked.specs.declared.Edit.{Edit}
use Rattle.asked.specs.Edits.{count_round}
use Rattle.asked.proofs.Fresh.{next-span}
use Rattle.edit.specs.declared.Change.{Change}
use Rattle.edit.specs.Reading.{edits}
use Rattle.sequences.specs.Played.{Call, state, played}
use Rattle.sequences.specs.Touched.{InRun, Fresh}
use Rattle.sequences.proofs.Again.{drawn-played-redraws}
use Rattle.sequences.proofs.Played.{played-leaves}
use Rattle.sequences.proofs.Answered.{answered_shape, answered-round}
use Rattle.promises.specs.Loops.{again, repeated, opened}
use Rattle.promises.specs.Points.{published_value, published_number, published_divisor}
use Rattle.promises.proofs.Points.{drawn-published}

-- ---- the plan of a loop

loop-basis : (s : Shape) → s.basis ≡ loop → (plan_of s).basis ≡ Loop s.count
unfolding plan_of basis_of
loop-basis s five = ap (λ (b : ℕ). basis_of b s.parameter s.count) five

loop-count : (s : Shape) → s.basis ≡ loop → (plan_of s).spans ≡ s.count
unfolding plan_of
loop-count s five = ap (λ (b : Basis). spans_of b s.count) (loop-basis s five) ∙ loop-spans s.count s.count

runs-round : (s : Shape) → s.basis ≡ loop → is_loop (plan_of s).basis ≡ true
runs-round s five = ap is_loop (loop-basis s five)

-- ---- the open B-spline of the records with the first three repeated

past-append : (l r : List ℤ) (d : ℤ) (i : ℕ) → length l ≤ i → get_or (l ++ r) i d ≡ get_or r (i - length l) d
past-append [] r d i h = ap (λ (n : ℕ). get_or r n d) (omega arith)
past-append (x ∷ l) r d zero h = absurd (omega arith)
past-append (x ∷ l) r d (suc i) h = past-append l r d i (omega arith) ∙ ap (λ (n : ℕ). get_or r n d) (omega arith)

module _ (n : ℕ) (controls : List ℤ) (least : least_records ≤ n) (room : 2 * n ≤ length controls) where
  -- record r of them is record r of the loop, counted round
  repeats : (axis r : ℕ) → axis < 2 → r < n + 3 → coordinate (repeated n controls) axis r ≡ coordinate controls axis (round_end n r)
  unfolding coordinate
  repeats axis r two few =
      let long : length (take (2 * n) controls) ≡ 2 * n = length-take-le (2 * n) controls room in
      ⊎_elim
      (λ (below : r < n).
      get_or-append (take (2 * n) controls) (take (2 * again) controls) (pos 0) (2 * r + axis) (omega (arith, long))
      ∙ get_or-take (2 * n) controls (2 * r + axis) (pos 0) (omega arith)
      ∙ ap (λ (i : ℕ). get_or controls (2 * i + axis) (pos 0)) (sym (round-below n r below)))
      (λ (past : n ≤ r).
      let on : 2 * r + axis - length (take (2 * n) controls) ≡ 2 * (r - n) + axis = omega (arith, long) in
      past-append (take (2 * n) controls) (take (2 * again) controls) (pos 0) (2 * r + axis) (omega (arith, long))
      ∙ ap (λ (i : ℕ). get_or (take (2 * again) controls) i (pos 0)) on
      ∙ get_or-take (2 * again) controls (2 * (r - n) + axis) (pos 0) (omega arith)
      ∙ ap (λ (i : ℕ). get_or controls (2 * i + axis) (pos 0)) (sym (round-past n r past)))
      (either r n)

  same-four : (s axis : ℕ) → s < n → axis < 2 → records (Loop n) s (coordinate controls axis) ≡ records BSpline s (coordinate (repeated n controls) axis)
  same-four s axis here two =
      same-records (first_record (Loop n) s) (first_record BSpline s) (λ r. coordinate controls axis (round_end n r)) (coordinate (repeated n controls) axis)
      (λ i few.
      let own = loop-first n s in
      ap (λ (r : ℕ). coordinate controls axis (round_end n (r + i))) own
      ∙ sym (repeats axis (s + i) two (omega arith))
      ∙ ap (λ (r : ℕ). coordinate (repeated n controls) axis (r + i)) (sym (open-first s)))
    where
      open-first : (s : ℕ) → first_record BSpline s ≡ s
      open-first s = unit-first BSpline refl s

  -- so each number of the loop's outline is that outline's
  number-opened : (k q : ℕ) → published_number (record { basis = Loop n; depth = k; spans = n }) controls q ≡ published_number (opened k n) (repeated n controls) q
  unfolding published_number published_value published
  number-opened k q =
      let s = min (q / 2 / 2 ^ k) (n - 1) in
      ap (λ (p : Four). nearest (published BSpline p (pos (q / 2 - s * 2 ^ k)) (pos (2 ^ k))) (published_divisor BSpline k)) (same-four s (q % 2) (omega (arith, min-le_right (q / 2 / 2 ^ k) (n - 1))) (omega arith))

-- ---- after an accepted drawing of a loop, by whichever way

module _ (s : Shape) (five : s.basis ≡ loop) (controls lent : List ℤ) (fs : Figures) (held : List ℤ) (done : draws s controls lent ≡ outcome (Ok fs) held) where
  good : Good s (plan_of s)
  good = good-plan s (none-earlier (shape_rows s) (list_rows s.count controls (points (plan_of s)) (length lent)) (done_none s controls lent fs held done))

  plan-is : plan_of s ≡ record { basis = Loop s.count; depth = s.depth; spans = s.count }
  unfolding plan_of
  plan-is = λ i. record { basis = loop-basis s five i; depth = s.depth; spans = loop-count s five i }

  many : fs.points ≡ points_of s.depth s.count
  many = ap (λ (f : Figures). f.points) (sym (done-figures s controls lent fs held done)) ∙ ap points plan-is

  -- there are n·2^k + 1 points
  pub loop-points : fs.points ≡ s.count * 2 ^ s.depth + 1
  unfolding points_of
  loop-points = many

  -- they are those of the open B-spline of its records with the first three repeated at the end
  pub loop-opened : (q : ℕ) → q < 2 * fs.points → get_or held q (pos 0) ≡ published_number (opened s.depth s.count) (repeated s.count controls) q
  loop-opened q h =
      let none = done_none s controls lent fs held done in
      let room = ltb-false (length controls) (2 * s.count) (row-fails 7 (list_rows s.count controls (points (plan_of s)) (length lent)) (none-later (shape_rows s) (list_rows s.count controls (points (plan_of s)) (length lent)) none)) in
      drawn-published s controls lent fs held done q (omega (arith, h, many, ap points plan-is))
      ∙ ap (λ (p : Plan). published_number p controls q) plan-is
      ∙ number-opened s.count controls good.records-least room s.depth q

  -- and the last is the first, on both axes; both stand in the list
  pub loop-closed : (axis : ℕ) → axis < 2 → get_or held (2 * (fs.points - 1) + axis) (pos 0) ≡ get_or held axis (pos 0)
  loop-closed axis two =
      let p = plan_of s in
      let all = all-numbers p.depth p.spans in
      let count : fs.points ≡ points p = ap (λ (f : Figures). f.points) (sym (done-figures s controls lent fs held done)) in
      let last : 2 * (fs.points - 1) + axis ≡ p.spans * per_span p.depth + axis = omega (arith, all, count) in
      ap (λ (q : ℕ). get_or held q (pos 0)) last
      ∙ held_number s controls lent fs held done (p.spans * per_span p.depth + axis) (omega (arith, all))
      ∙ joint-number p controls good.round (runs-round s five) good.spans-least axis two
      ∙ sym (held_number s controls lent fs held done axis (omega (arith, all)))

-- and so it is after any edits of it, refused ones among them
pub played-closed : (s : Shape) (controls lent : List ℤ) (fs : Figures) (held : List ℤ) (calls : List Call) → draws s controls lent ≡ outcome (Ok fs) held
    → s.basis ≡ loop
    → (axis : ℕ) → axis < 2
    → get_or (played (state s controls held) calls).held (2 * (points (plan_of (played (state s controls held) calls).shape) - 1) + axis) (pos 0) ≡ get_or (played (state s controls held) calls).held axis (pos 0)
played-closed s controls lent fs held calls done five axis two =
    let t = played (state s controls held) calls in
    loop-closed t.shape (played-leaves (λ u. u.basis) (λ e u. refl) (state s controls held) calls ∙ five) t.controls t.held (figures_of (plan_of t.shape) t.controls) t.held (drawn-played-redraws s controls lent fs held calls done) axis two

-- ---- an accepted edit of a loop

module _ (e : Edit) (s : Shape) (five : s.basis ≡ loop) (j : ℕ) (controls lent : List ℤ) (c : Change) (new held : List ℤ) (done : edits e s j controls lent ≡ outcome (Ok c) (new, held)) where
  abbrev p : Plan
  p = plan_of c.shape

  abbrev m : ℕ
  m = c.shape.count

  abbrev d : ℕ
  d = 2 ^ p.depth

  still-five : c.shape.basis ≡ loop
  still-five = ap (λ (t : Shape). t.basis) (answered_shape e s j controls lent c new held done) ∙ five

  -- the run begins three before the place, counted round the new loop, and is of four spans (move, insert) or three (remove): of all four where there are no more
  pub loop-run : (c.first ≡ round_end m (j + m - 3)) × (c.fresh ≡ count_round e)
  loop-run =
      let spans = loop-count c.shape still-five in
      let (first, count) = answered-round e s j controls lent c new held done (runs-round c.shape still-five) in
      (first ∙ ap (λ (n : ℕ). round_end n (j + n - 3)) spans, count)

  -- the first and the last point are both fresh exactly where the first or the last span is
  abbrev EndIn : Type 0
  EndIn = InRun c p.spans 0 ⊎ InRun c p.spans (p.spans - 1)

  pub joint-fresh : (axis : ℕ) → axis < 2 → (Fresh c p axis ↔ EndIn) × (Fresh c p (p.spans * per_span p.depth + axis) ↔ EndIn)
  joint-fresh axis two = ((first_to, first-from), (last-to, last-from))
    where
      has : is_loop p.basis ≡ true
      has = runs-round c.shape still-five

      nought : axis / 2 ≡ 0
      nought = omega arith

      end : (p.spans * per_span p.depth + axis) / 2 ≡ p.spans * 2 ^ p.depth
      end = omega (arith, per-span p.spans p.depth)

      first_to : Fresh c p axis → EndIn
      first_to (t, has-it, inl (low, high)) =
          let none : t ≡ 0 = ⊎_elim (λ (some : 0 < t). absurd (omega (arith, low, nought, one-mul d, pow_pos p.depth, mul-le-mul_right {m = 1} {n = t} d (omega arith)))) (λ (h : t ≤ 0). omega arith) (either 0 t) in
          inl (subst (InRun c p.spans) none has-it)
      first_to (t, has-it, inr (_, inl (_, last))) = inr (subst (InRun c p.spans) (omega (arith, last)) has-it)
      first_to (t, has-it, inr (_, inr (_, first))) = inl (subst (InRun c p.spans) first has-it)

      first-from : EndIn → Fresh c p axis
      first-from (inl first) = (0, first, inl (omega (arith, zero-mul d), omega (arith, nought)))
      first-from (inr last) = (p.spans - 1, last, inr (has, inl (nought, omega (arith, last.0))))

      last-to : Fresh c p (p.spans * per_span p.depth + axis) → EndIn
      last-to (t, has-it, inl (low, high)) =
          let is : t ≡ p.spans - 1 =
          ⊎_elim
          (λ (early : t + 1 < p.spans).
          absurd (omega (arith, high, end, next-span (t + 1) d, pow_pos p.depth, mul-le-mul_right {m = t + 1 + 1} {n = p.spans} d (omega arith))))
          (λ (late : p.spans ≤ t + 1). omega (arith, has-it.0))
          (either (t + 1) p.spans) in
          inr (subst (InRun c p.spans) is has-it)
      last-to (t, has-it, inr (_, inl (_, last))) = inr (subst (InRun c p.spans) (omega (arith, last)) has-it)
      last-to (t, has-it, inr (_, inr (_, first))) = inl (subst (InRun c p.spans) first has-it)

      last-from : EndIn → Fresh c p (p.spans * per_span p.depth + axis)
      last-from (inl first) = (0, first, inr (has, inr (end, refl)))
      last-from (inr last) =
          let one : p.spans - 1 + 1 ≡ p.spans = omega (arith, last.0) in
          let on = ap (λ (n : ℕ). n * d) one in
          (p.spans - 1, last, inl (omega (arith, end, on, next-span (p.spans - 1) d), omega (arith, end, on)))
