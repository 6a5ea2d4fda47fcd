-- An edit in terms of its answer: from an outcome that is done, for any contents of the lent points. The reading of an edit that no row refuses has each fact, and what was
-- answered is that reading.
use Rattle.std.specs.Prelude.{Ok, Result}
use mathlib.Core.Path.{◌≡◌, refl, sym, ap, ◌∙◌, subst}
use mathlib.Core.Bool.{true, false}
use mathlib.Core.Logic.{⊎_elim, ◌↔◌}
use mathlib.Core.List.{List}
use Prim.Native.Nat.{ℕ, ◌+◌, ◌*◌, ◌-◌, ◌^◌, ◌≤◌, ◌<◌}
use native.Mathlib.Nat.{mul-le-mul_right}
use native.Mathlib.Omega.{arith}
use lib.IntN.{ℤ, pos}
use lib.ListN.{get_or, length}
use Rattle.whole.specs.Outcome.{Outcome, outcome}
use Rattle.curve.specs.declared.Basis.{Basis}
use Rattle.curve.specs.Span.{coordinate, round_end, is_loop, records}
use Rattle.shape.specs.declared.Shape.{Shape}
use Rattle.shape.specs.declared.Plan.{Plan}
use Rattle.shape.specs.Shape.{records_of}
use Rattle.shape.specs.Refusals.{NoRow, plan_of}
use Rattle.shape.proofs.Spans.{has-record, recount-loop}
use Rattle.shape.proofs.Tests.{passes}
use Rattle.spans.specs.Numbers.{number, per_span}
use Rattle.spans.proofs.Filled.{length-filled, in-filled, past-filled}
use Rattle.spans.proofs.Numbers.{per-span}
use Rattle.outline.specs.Outline.{points}
use Rattle.outline.proofs.Draws.{all-numbers}
use Rattle.asked.specs.declared.Run.{Run}
use Rattle.asked.specs.declared.Edit.{Edit}
use Rattle.asked.specs.declared.Edit.TheVariants.{Move, Insert, Remove}
use Rattle.asked.specs.Edits.{exact_fresh, count_after, offered, in_range, control_at, asked, count_round, run_of, is_fresh, point_at}
use Rattle.asked.specs.Inner.{Askable}
use Rattle.asked.proofs.Runs.{run-loop, open-most}
use Rattle.asked.proofs.Splines.{offered-again}
use Rattle.edit.specs.declared.Change.{Change}
use Rattle.edit.specs.Reading.{shape_after, plan_after, change, controls_after, points_after, edits}
use Rattle.edit.specs.Inner.{Editable, Workable}
use Rattle.edit.proofs.Exactly.{call_rows, done_none, none_done}
use Rattle.edit.proofs.Passed.{may-edit, same-plan, room-fine}
use Rattle.edit.proofs.Rows.{new-room, workable}
use Rattle.asked.proofs.Fresh.{next-span}
use Rattle.edit.proofs.Worked.{fresh_at}
use Rattle.sequences.specs.Touched.{record_in, Touched, InRun, Fresh, old_span}
use Rattle.shape.specs.declared.Refusal.{Refusal}
use Rattle.sequences.proofs.Touched.{AtPlace, run-touched, nought-touched, held-fresh}
use Rattle.shape.proofs.Refusals.{ok-same}
use Rattle.sequences.proofs.OldSpans.{in-some-span, stale-at}
use Rattle.sequences.proofs.Kept.{at, old-records}
use Rattle.sequences.proofs.Needed.{touched-needs}

-- ---- from an outcome that is done

-- the list has room for the old records
old-room : (e : Edit) (j n len : ℕ) → Askable e j n len → 2 * n ≤ len
old-room (Move x y) j n len can = can.1
old-room (Insert x y) j n len can = omega (arith, can.1)
old-room Remove j n len can = can.1

module _ (e : Edit) (s : Shape) (j : ℕ) (controls lent : List ℤ) (c : Change) (new held : List ℤ) (done : edits e s j controls lent ≡ outcome (Ok c) (new, held)) where
  abbrev before : Plan
  before = plan_of s

  abbrev after : Plan
  after = plan_after e before

  none : NoRow (call_rows e s j controls lent)
  none = done_none e s j controls lent c new held done

  allowed : Editable e s before j
  allowed = may-edit e s j controls lent none

  ready : Workable e s after j controls (length lent)
  ready = workable e s before j allowed controls (length lent) (room-fine e s j controls lent none)

  -- The answer, by the plan of the new shape.
  abbrev changed : Plan → Change
  changed q = change e s q j (exact_fresh (run_of e q j) q (controls_after e s j controls))

  abbrev answer : Change
  answer = changed after

  -- A fact of the reading is one of what was answered.
  by_answer : (P : Change → Plan → List ℤ → List ℤ → Type 0)
      → P answer after (controls_after e s j controls) (points_after e s after j controls lent) → P c (plan_of c.shape) new held
  by_answer P fact =
      let q = plan_of (shape_after e s) in
      let is : ◌≡◌ {A = Outcome (Result Change Refusal) (List ℤ × List ℤ)} _ (outcome (Ok c) (new, held)) = sym (none_done e s j controls lent none) ∙ done in
      let same = ok-same (changed q) c (λ i. (is i).answer) in
      subst (λ l. P c (plan_of c.shape) new l) (λ i. (is i).held.1)
      (subst (λ l. P c (plan_of c.shape) l (points_after e s q j controls lent)) (λ i. (is i).held.0)
      (subst (λ d. P d (plan_of d.shape) (controls_after e s j controls) (points_after e s q j controls lent)) same
      (subst (λ r. P (changed r) r (controls_after e s j controls) (points_after e s r j controls lent)) (sym (same-plan e s j controls lent none)) fact)))

  -- the shape and the controls are those asked for
  pub answered_shape : c.shape ≡ shape_after e s
  answered_shape = by_answer (λ d _ _ _. d.shape ≡ shape_after e s) refl

  pub answered-controls : new ≡ asked e j controls c.shape.count
  answered-controls = by_answer (λ d _ l _. l ≡ asked e j controls d.shape.count) refl

  -- what the new plan is offered, and where the place is in a new loop
  offered-after : offered e after.basis ≡ true
  offered-after = offered-again e after.spans before.basis allowed.offered

  range : in_range e j (records_of before.basis before.spans) ≡ true
  range = subst (λ (n : ℕ). in_range e j n ≡ true) (sym allowed.good.records) allowed.in_range

  fits : 2 * count_after e (records_of before.basis before.spans) ≤ length controls
  fits = subst (λ (n : ℕ). 2 * count_after e n ≤ length controls) (sym allowed.good.records) (new-room e s before j allowed controls (length lent) (room-fine e s j controls lent none))

  at_place : is_loop after.basis ≡ true → AtPlace e j after.spans
  at_place = at e before j controls allowed.offered allowed.good.spans-least allowed.good.round ready.good.round range fits

  touched-by : (t : ℕ) → InRun answer after.spans t ↔ ((t < after.spans) × Touched e after.basis j t)
  touched-by = run-touched e after j offered-after ready.good.round at_place

  -- the run is of the spans of the new shape that are touched
  pub answered-run : (t : ℕ) → InRun c (plan_of c.shape).spans t ↔ ((t < (plan_of c.shape).spans) × Touched e (plan_of c.shape).basis j t)
  answered-run = by_answer (λ d p _ _. (t : ℕ) → InRun d p.spans t ↔ ((t < p.spans) × Touched e p.basis j t)) touched-by

  pub answered-nought : ((c.first ≡ 0) × (c.fresh ≡ 0)) ↔ ((t : ℕ) → t < (plan_of c.shape).spans → Touched e (plan_of c.shape).basis j t → ⊥)
  answered-nought =
      by_answer (λ d p _ _. ((d.first ≡ 0) × (d.fresh ≡ 0)) ↔ ((t : ℕ) → t < p.spans → Touched e p.basis j t → ⊥)) (nought-touched e after j offered-after ready.good.round at_place)

  -- how many coordinates of the fresh points are exact, by the run that was answered
  pub answered-exact : c.exact ≡ exact_fresh (record { first = c.first; count = c.fresh }) (plan_of c.shape) new
  answered-exact = by_answer (λ d p l _. d.exact ≡ exact_fresh (record { first = d.first; count = d.fresh }) p l) refl

  -- in an open outline it ends with the spans
  pub answered-open : is_loop (plan_of c.shape).basis ≡ false → c.first + c.fresh ≤ (plan_of c.shape).spans
  answered-open = by_answer (λ d p _ _. is_loop p.basis ≡ false → d.first + d.fresh ≤ p.spans) (open-most e after j)

  -- in a loop it is counted round from three before the place
  pub answered-round : is_loop (plan_of c.shape).basis ≡ true → (c.first ≡ round_end (plan_of c.shape).spans (j + (plan_of c.shape).spans - 3)) × (c.fresh ≡ count_round e)
  answered-round =
      by_answer (λ d p _ _. is_loop p.basis ≡ true → (d.first ≡ round_end p.spans (j + p.spans - 3)) × (d.fresh ≡ count_round e))
      (λ loop. let is = run-loop e after j loop in (ap (λ (r : Run). r.first) is, ap (λ (r : Run). r.count) is))

  -- a number of the outline is of a span of the run exactly where the test of fresh numbers says so
  pub answered_test : (q : ℕ) → q < 2 * points (plan_of c.shape) → Fresh c (plan_of c.shape) q ↔ (is_fresh (record { first = c.first; count = c.fresh }) (plan_of c.shape) q ≡ true)
  answered_test =
      by_answer (λ d p _ _. (q : ℕ) → q < 2 * points p → Fresh d p q ↔ (is_fresh (record { first = d.first; count = d.fresh }) p q ≡ true))
      (λ q h. held-fresh after q ready.good.spans-least (omega (arith, all-numbers after.depth after.spans)) (run_of e after j))

  -- ---- the points

  abbrev b : Basis
  b = after.basis

  abbrev k : ℕ
  k = after.depth

  abbrev m : ℕ
  m = after.spans

  abbrev asks : List ℤ
  asks = controls_after e s j controls

  abbrev left : List ℤ
  left = points_after e s after j controls lent

  left_at : (q : ℕ) → q < m * per_span k + 2 → get_or left q (pos 0) ≡ point_at e after j asks lent q
  left_at q h = in-filled (point_at e after j asks lent) 0 (2 * points after) lent q (omega arith) (omega (arith, all-numbers k m)) (omega (arith, all-numbers k m, ready.points-room))

  left-fresh : (q : ℕ) → Fresh answer after q → get_or left q (pos 0) ≡ number after asks q
  left-fresh q (t, (here, near), among) =
      let within : q < m * per_span k + 2 =
      ⊎_elim (λ (low, high). omega (arith, high, per-span m k, mul-le-mul_right {m = t + 1} {n = m} (2 ^ k) (omega (arith, here))))
      (λ (loop, joint). ⊎_elim (λ (first, end). omega (arith, first)) (λ (end, first). omega (arith, end, per-span m k)) joint)
      among in
      left_at q within ∙ fresh_at e after j asks lent ready.good.round ready.good.spans-least ready.points-room q ((held-fresh after q ready.good.spans-least within (run_of e after j)).0 (t, (here, near), among))

  left_other : (t i : ℕ) → t < m → i < per_span k + 2 → (Fresh answer after (t * per_span k + i) → ⊥)
      → get_or left (t * per_span k + i) (pos 0) ≡ get_or lent (old_span e j t * per_span k + i) (pos 0)
  left_other t i h few other =
      let q = t * per_span k + i in
      let within : q < m * per_span k + 2 = omega (arith, next-span t (per_span k), mul-le-mul_right {m = t + 1} {n = m} (per_span k) (omega arith)) in
      let stale : is_fresh (run_of e after j) after q ≡ false =
      ⊎_elim (λ fresh. absurd (other ((held-fresh after q ready.good.spans-least within (run_of e after j)).1 fresh))) (λ stale. stale) (passes (is_fresh (run_of e after j) after q)) in
      left_at q within ∙ stale-at after j ready.good.round asks lent ready.good.spans-least ready.points-room t i h few e offered-after at_place stale

  -- every number of the outline is of some span
  pub answered-every : (q : ℕ) → q < 2 * points (plan_of c.shape)
      → (t : ℕ) × (i : ℕ) × (t < (plan_of c.shape).spans) × (i < per_span (plan_of c.shape).depth + 2) × (q ≡ t * per_span (plan_of c.shape).depth + i)
  answered-every =
      by_answer (λ _ p _ _. (q : ℕ) → q < 2 * points p → (t : ℕ) × (i : ℕ) × (t < p.spans) × (i < per_span p.depth + 2) × (q ≡ t * per_span p.depth + i))
      (λ q h. in-some-span k m q ready.good.spans-least (omega (arith, all-numbers k m)))

  -- a number that a span of the run has among its points is the outline's of the new controls
  pub answered-fresh : (q : ℕ) → Fresh c (plan_of c.shape) q → get_or held q (pos 0) ≡ number (plan_of c.shape) new q
  answered-fresh = by_answer (λ d p l points. (q : ℕ) → Fresh d p q → get_or points q (pos 0) ≡ number p l q) left-fresh

  -- every other one is the lent one of the old span
  pub answered-other : (t i : ℕ) → t < (plan_of c.shape).spans → i < per_span (plan_of c.shape).depth + 2 → (Fresh c (plan_of c.shape) (t * per_span (plan_of c.shape).depth + i) → ⊥)
      → get_or held (t * per_span (plan_of c.shape).depth + i) (pos 0) ≡ get_or lent (old_span e j t * per_span (plan_of c.shape).depth + i) (pos 0)
  answered-other =
      by_answer
      (λ d p _ l.
      (t i : ℕ) → t < p.spans → i < per_span p.depth + 2 → (Fresh d p (t * per_span p.depth + i) → ⊥)
      → get_or l (t * per_span p.depth + i) (pos 0) ≡ get_or lent (old_span e j t * per_span p.depth + i) (pos 0))
      left_other

  -- ---- past the last of them

  pub answered-past : (length held ≡ length lent) × ((q : ℕ) → 2 * points (plan_of c.shape) ≤ q → get_or held q (pos 0) ≡ get_or lent q (pos 0))
  answered-past =
      by_answer (λ _ p _ l. (length l ≡ length lent) × ((q : ℕ) → 2 * points p ≤ q → get_or l q (pos 0) ≡ get_or lent q (pos 0)))
      (length-filled (point_at e after j asks lent) 0 (2 * points after) lent, (λ q h. past-filled (point_at e after j asks lent) 0 (2 * points after) lent q (omega arith)))

  pub answered-past-controls : (length new ≡ length controls) × ((q : ℕ) → 2 * c.shape.count ≤ q → get_or new q (pos 0) ≡ get_or controls q (pos 0))
  unfolding asked
  answered-past-controls =
      let n = count_after e s.count in
      by_answer (λ d _ l _. (length l ≡ length controls) × ((q : ℕ) → 2 * d.shape.count ≤ q → get_or l q (pos 0) ≡ get_or controls q (pos 0)))
      (length-filled (control_at e j controls) 0 (2 * n) controls, (λ q h. past-filled (control_at e j controls) 0 (2 * n) controls q (omega arith)))

  -- ---- the records of the other spans

  asks-other : (t axis : ℕ) → t < m → axis < 2 → (InRun answer m t → ⊥) → records b t (coordinate asks axis) ≡ records before.basis (old_span e j t) (coordinate controls axis)
  asks-other t axis h two other =
      let as-asked : asked e j controls (count_after e (records_of before.basis before.spans)) ≡ asks = ap (λ (n : ℕ). asked e j controls (count_after e n)) allowed.good.records in
      ap (λ l. records b t (coordinate l axis)) (sym as-asked)
      ∙ old-records e before j controls allowed.offered allowed.good.spans-least allowed.good.round ready.good.round range fits t h (λ touched. other ((touched-by t).1 (h, touched))) axis two

  -- a span that is not in the run has the four records of the old span
  pub answered-records : (t axis : ℕ) → t < (plan_of c.shape).spans → axis < 2 → (InRun c (plan_of c.shape).spans t → ⊥)
      → records (plan_of c.shape).basis t (coordinate new axis) ≡ records (plan_of s).basis (old_span e j t) (coordinate controls axis)
  answered-records =
      by_answer
      (λ d p l _. (t axis : ℕ) → t < p.spans → axis < 2 → (InRun d p.spans t → ⊥) → records p.basis t (coordinate l axis) ≡ records (plan_of s).basis (old_span e j t) (coordinate controls axis))
      asks-other

  -- ---- and of those in the run

  asks-needed : (t u : ℕ) → InRun answer m t → u < before.spans
      → ((old : List ℤ) → length old ≡ length controls → records b t (coordinate (asked e j old (count_after e s.count)) 0) ≡ records before.basis u (coordinate old 0))
      → ⊥
  asks-needed t u has h alike =
      let (here, touched) = (touched-by t).0 has in
      touched-needs e before.basis b j s.count (length controls) before.spans m t u (recount-loop m before.basis) refl allowed.good.spans-least allowed.good.round ready.good.round here h at_place
      (λ i few. subst (λ (n : ℕ). record_in b t i < n) ready.good.records (has-record b m t i ready.good.round here few))
      (new-room e s before j allowed controls (length lent) (room-fine e s j controls lent none))
      (λ i few. subst (λ (n : ℕ). record_in before.basis u i < n) allowed.good.records (has-record before.basis before.spans u i allowed.good.round h few))
      (old-room e j s.count (length controls) ready.askable)
      touched alike

  -- no old span has the records of a span of the run, whatever the controls hold
  pub answered-needed : (t u : ℕ) → InRun c (plan_of c.shape).spans t → u < (plan_of s).spans
      → ((old : List ℤ) → length old ≡ length controls → records (plan_of c.shape).basis t (coordinate (asked e j old c.shape.count) 0) ≡ records (plan_of s).basis u (coordinate old 0))
      → ⊥
  answered-needed =
      by_answer
      (λ d p _ _.
      (t u : ℕ) → InRun d p.spans t → u < (plan_of s).spans
      → ((old : List ℤ) → length old ≡ length controls → records p.basis t (coordinate (asked e j old d.shape.count) 0) ≡ records (plan_of s).basis u (coordinate old 0))
      → ⊥)
      asks-needed
