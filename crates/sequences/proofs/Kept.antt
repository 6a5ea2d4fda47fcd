-- Why the spans that are not in an edit's run need no work: such a span has the four records that its old span had, so each of its numbers is the old outline's.
use mathlib.Core.Path.{◌≡◌, refl, sym, ap, ◌∙◌, subst}
use mathlib.Core.Bool.{true, false}
use mathlib.Core.Logic.{⊎_elim, ◌⊎◌, inl, inr}
use mathlib.Core.List.{List}
use Prim.Native.Nat.{ℕ, ◌+◌, ◌*◌, ◌-◌, ◌/◌, ◌%◌, ◌≤◌, ◌<◌}
use native.Mathlib.Nat.{mul-le-mul_right}
use native.Mathlib.Omega.{arith}
use borrow.Author.Tests.{ltb-true, leb-true}
use lib.Dec.{ltb}
use lib.IntN.{ℤ, pos}
use lib.ListN.{get_or, length}
use Rattle.curve.specs.declared.Basis.{Basis}
use Rattle.curve.specs.Span.{first_record, coordinate, round_end, is_loop, record_at, records, point}
use Rattle.curve.proofs.Round.{round-below, round-past, record-open, same-records, recount-point}
use Rattle.curve.proofs.Stride.{stride-bounds, first-least}
use Rattle.shape.specs.declared.Plan.{Plan}
use Rattle.shape.specs.Inner.{RunsRound}
use Rattle.shape.specs.Shape.{records_of}
use Rattle.shape.proofs.Tests.{passes, either}
use Rattle.shape.proofs.Spans.{tail-few, last-record, first-loop, record-loop, record-below, recount-first, recount-loop, recount-records, round-records, runs-least}
use Rattle.spans.specs.Numbers.{number, per_span}
use Rattle.spans.proofs.Filled.{in-filled}
use Rattle.spans.proofs.Numbers.{span-point}
use Rattle.asked.specs.declared.Edit.{Edit}
use Rattle.asked.specs.declared.Edit.TheVariants.{Move, Insert, Remove}
use Rattle.asked.specs.Edits.{count_after, spans_after, offered, in_range, control_at, asked, run_of, carried_from, is_fresh, point_at}
use Rattle.asked.proofs.Splines.{spline-first, spline-records, offered-again}
use Rattle.asked.proofs.Controls.{Beyond, control-before, control-beyond}
use Rattle.asked.proofs.Runs.{cond_same}
use Rattle.edit.specs.Reading.{plan_after}
use Rattle.asked.proofs.Fresh.{next-span}
use Rattle.edit.proofs.Worked.{fresh_at}
use Rattle.edit.proofs.Rows.{records-then, place_after}
use Rattle.sequences.specs.Touched.{record_in, Touched, old_span}
use Rattle.sequences.proofs.Touched.{AtPlace, not-past}
use Rattle.sequences.proofs.OldSpans.{old-early, old-late, in-some-span, not-touched, stale-at}

-- ---- the records of the new controls, by what each of their numbers is

module _ (e : Edit) (j : ℕ) (old : List ℤ) (r axis : ℕ) (a : axis < 2) where
  pub record-before : r < j → control_at e j old (2 * r + axis) ≡ coordinate old axis r
  unfolding coordinate
  record-before h = control-before j old (2 * r + axis) e (omega arith)

  pub coordinate-asked : (n : ℕ) → 2 * n ≤ length old → r < n → coordinate (asked e j old n) axis r ≡ control_at e j old (2 * r + axis)
  unfolding asked coordinate
  coordinate-asked n fits h = in-filled (control_at e j old) 0 (2 * n) old (2 * r + axis) (omega arith) (omega arith) (omega arith)

pub record-beyond : (e : Edit) (j : ℕ) (old : List ℤ) (r axis : ℕ) → axis < 2 → Beyond e j r → control_at e j old (2 * r + axis) ≡ coordinate old axis (carried_from e 1 r)
unfolding coordinate
record-beyond (Move x y) j old r axis a h = control-beyond j old (2 * r + axis) (Move x y) (omega arith)
record-beyond (Insert x y) j old r axis a h =
    let back : 2 * r + axis - 2 ≡ 2 * (r - 1) + axis = omega arith in
    control-beyond j old (2 * r + axis) (Insert x y) (omega arith) ∙ ap (λ (i : ℕ). get_or old i (pos 0)) back
record-beyond Remove j old r axis a h =
    let on : 2 * r + axis + 2 ≡ 2 * (r + 1) + axis = omega arith in
    control-beyond j old (2 * r + axis) Remove (omega arith) ∙ ap (λ (i : ℕ). get_or old i (pos 0)) on

-- ---- where the records of a span that is not touched stand

-- after a record past the place come others past it
span-beyond : (e : Edit) (j r i : ℕ) → Beyond e j r → Beyond e j (r + i)
span-beyond (Move x y) j r i h = omega arith
span-beyond (Insert x y) j r i h = omega arith
span-beyond Remove j r i h = omega arith

-- All four are before the place; or the first is past it, and so are the others, but for those that come round the end of n records before the place.
abbrev Apart : Edit → ℕ → ℕ → ℕ → Type 0
Apart e j n a = (a + 3 < j) ⊎ (Beyond e j a × (a + 3 < j + n))

-- in an open outline nothing comes round
open-apart : (e : Edit) (b : Basis) (j n t : ℕ) → is_loop b ≡ false → first_record b t + 3 < n → (Touched e b j t → ⊥) → Apart e j n (first_record b t)
open-apart e b j n t ends has not =
    ⊎_elim (λ (early : first_record b t + 3 < j). inl early)
    (λ (high : j ≤ first_record b t + 3). inr (beyond e (λ back. not (not-past e b j t ends back high)), omega arith))
    (either (first_record b t + 3) j)
  where
    beyond : (e : Edit) → ((Beyond e j (first_record b t) → ⊥) → ⊥) → Beyond e j (first_record b t)
    beyond (Move x y) f = ⊎_elim (λ (h : j < first_record b t). h) (λ (h : first_record b t ≤ j). absurd (f (λ g. omega (arith, g)))) (either j (first_record b t))
    beyond (Insert x y) f = ⊎_elim (λ (h : j < first_record b t). h) (λ (h : first_record b t ≤ j). absurd (f (λ g. omega (arith, g)))) (either j (first_record b t))
    beyond Remove f = ⊎_elim (λ (h : first_record b t < j). absurd (f (λ g. omega (arith, g)))) (λ (h : j ≤ first_record b t). h) (either (first_record b t) j)

-- in a loop a span that is neither so has the place among its records
module _ (b : Basis) (j n t : ℕ) (round : RunsRound b n) (loop : is_loop b ≡ true) (here : t < n) where
  counted : (i : ℕ) → record_in b t i ≡ round_end n (t + i)
  counted i = ap (λ (r : ℕ). record_at b (r + i)) (first-loop b loop t) ∙ record-loop b n round loop (t + i)

  new-touched : (i : ℕ) → i < 4 → j < n → (t + i ≡ j) ⊎ (t + i ≡ j + n) → (i : ℕ) × (i < 4) × (record_in b t i ≡ j)
  new-touched i few below (inl is) = (i, few, counted i ∙ round-below n (t + i) (omega (arith, is)) ∙ is)
  new-touched i few below (inr is) = (i, few, counted i ∙ round-past n (t + i) (omega (arith, is)) ∙ omega (arith, is))

  gap-touched : (i : ℕ) → i < 3 → (t + (i + 1) ≡ j) ⊎ (t + (i + 1) ≡ j + n) → (i : ℕ) × (i < 3) × (record_in b t (i + 1) ≡ record_at b j)
  gap-touched i few (inl is) = (i, few, counted (i + 1) ∙ ap (round_end n) is ∙ sym (record-loop b n round loop j))
  gap-touched i few (inr is) =
      let least = runs-least b n round loop in
      let below : j < n = omega (arith, is, least) in
      (i, few, counted (i + 1) ∙ round-past n (t + (i + 1)) (omega (arith, is)) ∙ omega (arith, is) ∙ sym (round-below n j below) ∙ sym (record-loop b n round loop j))

  -- by a record of its own
  own-apart : j < n → ((i : ℕ) × (i < 4) × (record_in b t i ≡ j) → ⊥) → (t + 3 < j) ⊎ ((j < t) × (t + 3 < j + n))
  own-apart below not =
      ⊎_elim (λ (early : t + 3 < j). inl early)
      (λ (high : j ≤ t + 3).
      ⊎_elim
      (λ (past : j < t).
      ⊎_elim (λ (near : t + 3 < j + n). inr (past, near)) (λ (far : j + n ≤ t + 3). absurd (not (new-touched (j + n - t) (omega arith) below (inr (omega arith))))) (either (t + 3) (j + n)))
      (λ (low : t ≤ j). absurd (not (new-touched (j - t) (omega arith) below (inl (omega arith)))))
      (either j t))
      (either (t + 3) j)

  loop-apart : (e : Edit) → AtPlace e j n → (Touched e b j t → ⊥) → Apart e j n t
  loop-apart (Move x y) at not = own-apart at not
  loop-apart (Insert x y) at not = own-apart at not
  loop-apart Remove at not =
      ⊎_elim (λ (early : t + 3 < j). inl early)
      (λ (high : j ≤ t + 3).
      ⊎_elim (λ (low : t < j). absurd (not (gap-touched (j - t - 1) (omega arith) (inl (omega arith)))))
      (λ (past : j ≤ t).
      ⊎_elim (λ (near : t + 3 < j + n). inr (past, near)) (λ (far : j + n ≤ t + 3). absurd (not (gap-touched (j + n - t - 1) (omega arith) (inr (omega arith))))) (either (t + 3) (j + n)))
      (either t j))
      (either (t + 3) j)

-- ---- the records of the old span

-- a record that is carried, in a span past the place, is the old span's
span-from : (e : Edit) (b : Basis) (j s i : ℕ) → offered e b ≡ true → Beyond e j (first_record b s) → carried_from e 1 (first_record b s + i) ≡ first_record b (carried_from e 1 s) + i
span-from (Move x y) b j s i o h = refl
span-from (Insert x y) b j s i o h = omega (arith, spline-first b o s, spline-first b o (s - 1))
span-from Remove b j s i o h = omega (arith, spline-first b o s, spline-first b o (s + 1))

-- in a loop of m spans before the edit it is counted round that many: not yet past the end, and past it
round-from : (e : Edit) (j m s i : ℕ) → 1 ≤ m → s < spans_after e m → Beyond e j s → s + i < spans_after e m → round_end m (carried_from e 1 s + i) ≡ carried_from e 1 (s + i)
round-from (Move x y) j m s i some h past below = round-below m (s + i) below
round-from (Insert x y) j m s i some h past below = round-below m (s - 1 + i) (omega arith) ∙ omega arith
round-from Remove j m s i some h past below = round-below m (s + 1 + i) (omega arith) ∙ omega arith

round-back : (e : Edit) (j m s i : ℕ) → 1 ≤ m → s < spans_after e m → Beyond e j s → spans_after e m ≤ s + i → round_end m (carried_from e 1 s + i) ≡ s + i - spans_after e m
round-back (Move x y) j m s i some h past end = round-past m (s + i) end
round-back (Insert x y) j m s i some h past end = round-past m (s - 1 + i) (omega arith) ∙ omega arith
round-back Remove j m s i some h past end = round-past m (s + 1 + i) (omega arith) ∙ omega arith

-- which old span it is where they are past the place: the one that it is carried from
old-later : (e : Edit) (b : Basis) (j s : ℕ) → offered e b ≡ true → Beyond e j (first_record b s) → old_span e j s ≡ carried_from e 1 s
old-later (Move x y) b j s o h = cond_same (ltb s j) s
old-later (Insert x y) b j s o h = old-late (Insert x y) j s (omega (arith, spline-first b o s))
old-later Remove b j s o h = old-late Remove j s (omega (arith, spline-first b o s))

-- it exists
later-exists : (e : Edit) (b : Basis) (j m s : ℕ) → offered e b ≡ true → s < spans_after e m → Beyond e j (first_record b s) → carried_from e 1 s < m
later-exists (Move x y) b j m s o h past = h
later-exists (Insert x y) b j m s o h past = omega (arith, spline-first b o s)
later-exists Remove b j m s o h past = omega arith

early-exists : (e : Edit) (b : Basis) (j m s : ℕ) → offered e b ≡ true → in_range e j (records_of b m) ≡ true → s < spans_after e m → first_record b s + 3 < j → s < m
early-exists (Move x y) b j m s o range h first = h
early-exists (Insert x y) b j m s o range h first = omega (arith, leb-true j (records_of b m) range, spline-records b o m, spline-first b o s, tail-few b, (stride-bounds b).0)
early-exists Remove b j m s o range h first = omega arith

-- no place is past the old count
range-most : (e : Edit) (j n : ℕ) → in_range e j n ≡ true → j ≤ n
range-most (Move x y) j n t = omega (arith, ltb-true j n t)
range-most (Insert x y) j n t = leb-true j n t
range-most Remove j n t = omega (arith, ltb-true j n t)

-- An edit of plan p, and `old` is the list of the old controls.
module _ (e : Edit) (p : Plan) (j : ℕ) (old : List ℤ) (o : offered e p.basis ≡ true) (some : 1 ≤ p.spans) (round : RunsRound p.basis p.spans) (round' : RunsRound (plan_after e p).basis (plan_after e p).spans)
    (range : in_range e j (records_of p.basis p.spans) ≡ true) (fits : 2 * count_after e (records_of p.basis p.spans) ≤ length old) where
  abbrev b : Basis
  b = p.basis

  abbrev p' : Plan
  p' = plan_after e p

  abbrev b' : Basis
  b' = p'.basis

  abbrev n : ℕ
  n = records_of b p.spans

  -- the controls as the edit leaves them
  abbrev new : List ℤ
  new = asked e j old (count_after e n)

  count-is : records_of b' p'.spans ≡ count_after e n
  count-is = recount-records p'.spans b p'.spans ∙ records-then e b p.spans o some

  was-loop : is_loop b' ≡ true → is_loop b ≡ true
  was-loop loop = sym (recount-loop p'.spans b) ∙ loop

  -- it may be done in the new loop
  pub at : is_loop b' ≡ true → AtPlace e j p'.spans
  at loop = go e (sym (round-records b' p'.spans loop) ∙ count-is) range (round-records b p.spans (was-loop loop))
    where
      go : (e : Edit) → spans_after e p.spans ≡ count_after e n → in_range e j n ≡ true → n ≡ p.spans → AtPlace e j (spans_after e p.spans)
      go (Move x y) same t is = omega (arith, ltb-true j n t, is)
      go (Insert x y) same t is = omega (arith, leb-true j n t, is)
      go Remove same t is = omega (arith, ltb-true j n t, is)

  module _ (s : ℕ) (here : s < p'.spans) (not : Touched e b' j s → ⊥) where
    abbrev f : ℕ
    f = first_record b s

    first-is : first_record b' s ≡ f
    first-is = recount-first p'.spans b s

    apart : Apart e j (records_of b' p'.spans) f
    apart =
        ⊎_elim
        (λ loop.
        subst (λ (a : ℕ). Apart e j (records_of b' p'.spans) a) (sym (first-loop b (was-loop loop) s))
        (subst (λ (a : ℕ). Apart e j a s) (sym (round-records b' p'.spans loop)) (loop-apart b' j p'.spans s round' loop here e (at loop) not)))
        (λ ends. subst (λ (a : ℕ). Apart e j (records_of b' p'.spans) a) first-is (open-apart e b' j (records_of b' p'.spans) s ends (last-record b' ends p'.spans s here) not))
        (passes (is_loop b'))

    pub old-exists : old_span e j s < p.spans
    old-exists =
        ⊎_elim (λ early. subst (λ (t : ℕ). t < p.spans) (sym (old-early e j s (omega (arith, first-least b s, early)))) (early-exists e b j p.spans s o range here early))
        (λ (past, near). subst (λ (t : ℕ). t < p.spans) (sym (old-later e b j s o past)) (later-exists e b j p.spans s o here past))
        apart

    -- a record of it is the old span's
    module _ (axis i : ℕ) (two : axis < 2) (few : i < 4) where
      asked-at : (r : ℕ) → r < count_after e n → coordinate new axis r ≡ control_at e j old (2 * r + axis)
      asked-at r below = coordinate-asked e j old r axis two (count_after e n) fits below

      kept-early : f + 3 < j → coordinate new axis (record_at b' (f + i)) ≡ coordinate old axis (record_at b (first_record b (old_span e j s) + i))
      kept-early early =
          let most = place_after e j n range in
          let stands : record_at b' (f + i) ≡ f + i = record-below b' p'.spans round' (f + i) (λ loop. omega (arith, early, most, count-is, round-records b' p'.spans loop)) in
          let stood : record_at b (first_record b (old_span e j s) + i) ≡ f + i =
          ap (λ (t : ℕ). record_at b (first_record b t + i)) (old-early e j s (omega (arith, first-least b s, early)))
          ∙ record-below b p.spans round (f + i) (λ loop. omega (arith, early, range-most e j n range, round-records b p.spans loop)) in
          ap (coordinate new axis) stands
          ∙ asked-at (f + i) (omega (arith, early, most))
          ∙ record-before e j old (f + i) axis two (omega arith)
          ∙ ap (coordinate old axis) (sym stood)

      kept-later : Beyond e j f → f + 3 < j + records_of b' p'.spans → coordinate new axis (record_at b' (f + i)) ≡ coordinate old axis (record_at b (first_record b (old_span e j s) + i))
      kept-later past near = ⊎_elim in-loop in-open (passes (is_loop b'))
        where
          on : record_at b (first_record b (old_span e j s) + i) ≡ record_at b (first_record b (carried_from e 1 s) + i)
          on = ap (λ (t : ℕ). record_at b (first_record b t + i)) (old-later e b j s o past)

          in-open : is_loop b' ≡ false → coordinate new axis (record_at b' (f + i)) ≡ coordinate old axis (record_at b (first_record b (old_span e j s) + i))
          in-open ends =
              let was : is_loop b ≡ false = sym (recount-loop p'.spans b) ∙ ends in
              ap (coordinate new axis) (record-open b' ends (f + i))
              ∙ asked-at (f + i) (omega (arith, last-record b' ends p'.spans s here, first-is, count-is))
              ∙ record-beyond e j old (f + i) axis two (span-beyond e j f i past)
              ∙ ap (coordinate old axis) (span-from e b j s i o past ∙ sym (on ∙ record-open b was (first_record b (carried_from e 1 s) + i)))

          in-loop : is_loop b' ≡ true → coordinate new axis (record_at b' (f + i)) ≡ coordinate old axis (record_at b (first_record b (old_span e j s) + i))
          in-loop loop =
              let m = p.spans in
              let m' = p'.spans in
              let was = was-loop loop in
              let own = first-loop b was s in
              let all = round-records b' m' loop in
              let beyond : Beyond e j s = subst (Beyond e j) own past in
              let stood : record_at b (first_record b (old_span e j s) + i) ≡ round_end m (carried_from e 1 s + i) =
              on ∙ ap (λ (r : ℕ). record_at b (r + i)) (first-loop b was (carried_from e 1 s)) ∙ record-loop b m round was (carried_from e 1 s + i) in
              let stands : record_at b' (f + i) ≡ round_end m' (s + i) = record-loop b' m' round' loop (f + i) ∙ ap (λ (r : ℕ). round_end m' (r + i)) own in
              ap (coordinate new axis) stands
              ∙ ⊎_elim
              (λ (below : s + i < m').
              ap (coordinate new axis) (round-below m' (s + i) below)
              ∙ asked-at (s + i) (omega (arith, below, all, count-is))
              ∙ record-beyond e j old (s + i) axis two (span-beyond e j s i beyond)
              ∙ ap (coordinate old axis) (sym (round-from e j m s i some here beyond below)))
              (λ (end : m' ≤ s + i).
              let before : s + i - m' < j = omega (arith, near, own, all, few) in
              ap (coordinate new axis) (round-past m' (s + i) end)
              ∙ asked-at (s + i - m') (omega (arith, here, few, all, count-is, runs-least b' m' round' loop))
              ∙ record-before e j old (s + i - m') axis two before
              ∙ ap (coordinate old axis) (sym (round-back e j m s i some here beyond end)))
              (either (s + i) m')
              ∙ ap (coordinate old axis) (sym stood)

      kept : coordinate new axis (record_at b' (f + i)) ≡ coordinate old axis (record_at b (first_record b (old_span e j s) + i))
      kept = ⊎_elim kept-early (λ (past, near). kept-later past near) apart

    -- it has the four records of the old span
    pub old-records : (axis : ℕ) → axis < 2 → records b' s (coordinate new axis) ≡ records b (old_span e j s) (coordinate old axis)
    old-records axis two =
        same-records (first_record b' s) (first_record b (old_span e j s)) (λ r. coordinate new axis (record_at b' r)) (λ r. coordinate old axis (record_at b r))
        (λ i few. ap (λ (r : ℕ). coordinate new axis (record_at b' (r + i))) first-is ∙ kept axis i two few)

  -- ---- the numbers

  abbrev k : ℕ
  k = p.depth

  abbrev w : ℕ
  w = per_span k

  -- number i of a span that is not touched is the old outline's, number i of the old span
  number-kept : (s i : ℕ) (here : s < p'.spans) → i < w + 2 → (not : Touched e b' j s → ⊥) → number p' new (s * w + i) ≡ number p old (old_span e j s * w + i)
  number-kept s i here few not =
      span-point p' new s i here few
      ∙ ap (λ r. point b' k r (i / 2)) (old-records s here not (i % 2) (omega arith))
      ∙ recount-point p'.spans b k (records b (old_span e j s) (coordinate old (i % 2))) (i / 2)
      ∙ sym (span-point p old (old_span e j s) i (old-exists s here not) few)

  -- So where the lent points are the old outline, what the edit leaves is the new outline's number.
  module _ (left : 1 ≤ p'.spans) (lent : List ℤ) (room : p'.spans * w + 2 ≤ length lent) (held : (i : ℕ) → i < p.spans * w + 2 → get_or lent i (pos 0) ≡ number p old i) where
    offered' : offered e b' ≡ true
    offered' = offered-again e p'.spans b o

    span-drawn : (s i : ℕ) → s < p'.spans → i < w + 2 → point_at e p' j new lent (s * w + i) ≡ number p' new (s * w + i)
    span-drawn s i h few =
        ⊎_elim (fresh_at e p' j new lent round' left room (s * w + i))
        (λ stale.
        let not = not-touched e p' j offered' round' at new lent left room s i h few stale in
        let t = old_span e j s in
        stale-at p' j round' new lent left room s i h few e offered' at stale
        ∙ held (t * w + i) (omega (arith, next-span t w, mul-le-mul_right {m = t + 1} {n = p.spans} w (omega (arith, old-exists s h not))))
        ∙ sym (number-kept s i h few not))
        (passes (is_fresh (run_of e p' j) p' (s * w + i)))

    pub point-drawn : (q : ℕ) → q < p'.spans * w + 2 → point_at e p' j new lent q ≡ number p' new q
    point-drawn q h =
        let (s, i, here, few, is) = in-some-span k p'.spans q left h in
        subst (λ (n : ℕ). point_at e p' j new lent n ≡ number p' new n) (sym is) (span-drawn s i here few)
