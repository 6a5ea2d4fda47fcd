-- Any sequence of steps leaves a sound drawing: a refused step leaves what there was, and an accepted one writes records inside the limits right after those that
-- there are.
use Rattle.std.specs.Prelude.{Err, Ok}
use mathlib.Core.Path.{◌≡◌, refl, sym, ap, subst}
use mathlib.Core.Bool.{Bool, true, cond}
use mathlib.Core.List.{List, [], ◌∷◌, ◌++◌}
use mathlib.Core.Logic.{⊎_elim}
use Prim.Native.Nat.{ℕ, ◌+◌, ◌*◌, ◌-◌, ◌%◌, max, ◌≤◌, ◌<◌}
use native.Mathlib.Nat.{le-max_right}
use native.Mathlib.Omega.{arith}
use borrow.Author.Tests.{le-leb, leb-true, ltb-false, eq-eqb}
use lib.Dec.{leb}
use lib.Ieee.{Float, nan, inf, fin, up, down}
use lib.IntN.{ℤ, nat_abs}
use lib.ListN.{length}
use lib.Seq.{sets}
use Rattle.whole.specs.Nearest.{nearest}
use Rattle.whole.specs.Outcome.{refuses}
use Rattle.curve.specs.Limits.{limit}
use Rattle.doubles.specs.Exact.{signed}
use Rattle.doubles.specs.Number.{thousand, within, measure, paper}
use Rattle.shape.specs.Shape.{most_records}
use Rattle.shape.specs.Refusals.{First, NoRow}
use Rattle.shape.specs.declared.Refusal.{Refusal}
use Rattle.shape.proofs.Tests.{passes, true-is-not-false}
use Rattle.shape.proofs.Refusals.{judge-first, judge-none, none-earlier, none-later, row-fails, verdict}
use Rattle.drawing.specs.declared.Control.{Control}
use Rattle.drawing.specs.declared.State.{State}
use Rattle.drawing.specs.declared.Step.{Step}
use Rattle.drawing.specs.declared.Step.TheVariants.{Move, Line, Cubic, Close}
use Rattle.drawing.specs.Drawing.{numbers, at, opens, same, line, added, grown, next, flat}
use Rattle.drawing.specs.Reading.{reached, state_rows, number_rows, space_rows, rows, accepts, stepped, state_after}
use Rattle.drawing.specs.Inner.{judge_state}
use Rattle.std.proofs.Math.Bool.{or-true}
use Rattle.drawing.proofs.Tables.{none-fine, fine-open, fine-empty, fine-begun, reached-facts}
use Rattle.drawing.proofs.Same.{same-is}
use Rattle.drawing.proofs.Records.{Kept, opened, all_more, AllInside}
use Rattle.drawing.specs.Sequences.{Held, begin, after, drawn, Inside, Sound}
use Rattle.doubles.specs.declared.Unmeasured.TheVariants.{Outside}

-- ---- a step's controls are inside the limits

within-small : (n : ℤ) → nat_abs (paper (within n)).1 ≤ limit
unfolding within
within-small n =
    ⊎_elim (λ t. subst (λ b. nat_abs (paper (cond b (Ok n) (Err Outside))).1 ≤ limit) (sym t) (leb-true (nat_abs n) limit t))
    (λ f. subst (λ b. nat_abs (paper (cond b (Ok n) (Err Outside))).1 ≤ limit) (sym f) (omega arith))
    (passes (leb (nat_abs n) limit))

number_small : (x : Float) → nat_abs (paper (measure x)).1 ≤ limit
unfolding measure
number_small nan = omega arith
number_small (inf s) = omega arith
number_small (fin s m e) = within-small (nearest (signed s (m * up e * thousand)) (down e))

at-inside : (x y : Float) → Inside (at x y)
at-inside x y = record { x = number_small x; y = number_small y }

-- ---- counts

by-threes : (n : ℕ) → n ≤ most_records → n % 3 ≡ 1 → reached n ≡ true
unfolding reached
by-threes n h e = simp (le-leb n most_records h, eq-eqb (n % 3) 1 e, or-true)

begun-count : (n : ℕ) → 0 < n → reached n ≡ true → n % 3 ≡ 1
begun-count n h e = ⊎_elim (λ z. absurd (omega arith)) (λ w. w.1) (reached-facts n e)

three-more : (n : ℕ) → 0 < n → reached n ≡ true → n + 3 ≤ most_records → reached (n + 3) ≡ true
three-more n h e m = let r = begun-count n h e in by-threes (n + 3) m (omega arith)

-- ---- one step

space-facts : (n m : ℕ) (l : List ℤ) → NoRow (space_rows n m l) → (m ≤ most_records) × (2 * m ≤ length l)
space-facts n m l none =
    let room = ltb-false (length l) (2 * max n m) (row-fails 7 (space_rows n m l) none) in
    (ltb-false most_records m (row-fails 6 (space_rows n m l) none), omega (arith, room, le-max_right n m))

-- no row of a step holds, so none of its state's
fit_then : (s : State) (step : Step) (l : List ℤ) → NoRow (rows s step l) → judge_state s (opens step) ≡ Ok tt
fit_then s step l none =
    none-fine s (opens step) (none-earlier (state_rows s (opens step)) (number_rows 0 (numbers step) ++ space_rows s.count (next s step).count l) none)

kept : (h : Held) → Sound h → 0 < h.state.count → Kept h.controls h.state.count h.state.start h.state.current
kept h k b = record { some = b; room = k.room; first = k.start b; last = k.current b; inside = k.inside }

sound-kept :
    (s : State) (l : List ℤ) → reached s.count ≡ true → Kept l s.count s.start s.current → (s.closed ≡ true → s.current ≡ s.start)
    → Sound (record { state = s; controls = l })
sound-kept s l e k ring =
    record { counted = e; room = k.room; start = λ b. k.first; current = λ b. k.last; inside = k.inside; ring = λ c. (k.some, ring c) }

-- both controls that a state has are inside the limits
start-inside : (h : Held) → Sound h → 0 < h.state.count → Inside h.state.start
start-inside h k b = subst Inside (k.start b) (k.inside 0 b)

current-inside : (h : Held) → Sound h → 0 < h.state.count → Inside h.state.current
current-inside h k b = subst Inside (k.current b) (k.inside (h.state.count - 1) (omega arith))

-- three records more, or none
module _ (h : Held) (k : Sound h) (begun : 0 < h.state.count) (closed : Bool) where
  three : (a b c : Control) → AllInside (a ∷ b ∷ c ∷ []) → (h.state.count + 3 ≤ most_records) × (2 * (h.state.count + 3) ≤ length h.controls) → (closed ≡ true → c ≡ h.state.start)
      → Sound (record { state = grown h.state (a ∷ b ∷ c ∷ []) h.state.start closed; controls = sets h.controls (2 * h.state.count) (flat (a ∷ b ∷ c ∷ [])) })
  three a b c i f ring =
      sound-kept (grown h.state (a ∷ b ∷ c ∷ []) h.state.start closed) (sets h.controls (2 * h.state.count) (flat (a ∷ b ∷ c ∷ []))) (three-more h.state.count begun k.counted f.0)
      (all_more (a ∷ b ∷ c ∷ []) h.controls h.state.count h.state.start h.state.current (kept h k begun) f.1 i) ring

  none : (closed ≡ true → h.state.current ≡ h.state.start) → Sound (record { state = grown h.state [] h.state.start closed; controls = h.controls })
  none ring =
      let same : h.state.count ≡ h.state.count + 0 = omega arith in
      sound-kept (grown h.state [] h.state.start closed) h.controls (subst (λ (n : ℕ). reached n ≡ true) same k.counted)
      (subst (λ (n : ℕ). Kept h.controls n h.state.start h.state.current) same (kept h k begun)) ring

-- the state that an accepted step leaves, with its list
abbrev left : Held → Step → Held
left h step = record { state = next h.state step; controls = sets h.controls (2 * h.state.count) (flat (added h.state step)) }

module _ (h : Held) (k : Sound h) where
  abbrev s : State
  s = h.state

  abbrev l : List ℤ
  l = h.controls

  -- what no row's holding says
  pub fine : (step : Step) → NoRow (rows s step l) → judge_state s (opens step) ≡ Ok tt
  fine step none = fit_then s step l none

  pub spacious : (step : Step) → NoRow (rows s step l) → ((next s step).count ≤ most_records) × (2 * (next s step).count ≤ length l)
  spacious step n =
      let space = space_rows s.count (next s step).count l in
      space-facts s.count (next s step).count l (none-later (number_rows 0 (numbers step)) space (none-later (state_rows s (opens step)) (number_rows 0 (numbers step) ++ space) n))

  never-closed : (step : Step) → NoRow (rows s step l) → {A : Type 0} → s.closed ≡ true → A
  never-closed step n c = absurd (true-is-not-false c (fine-open s (opens step) (fine step n)))

  accepted-sound : (step : Step) → NoRow (rows s step l) → Sound (left h step)
  unfolding added
  accepted-sound (Move x y) n =
      let nought = fine-empty s (fine (Move x y) n) in
      let one : 1 ≡ s.count + 1 = omega arith in
      let from : 0 ≡ 2 * s.count = omega arith in
      let first = opened l (at x y) (omega (arith, (spacious (Move x y) n).1)) (at-inside x y) in
      sound-kept (next s (Move x y)) (sets l (2 * s.count) (flat (at x y ∷ []))) (subst (λ (m : ℕ). reached m ≡ true) one (by-threes 1 (omega arith) refl))
      (subst (λ (m : ℕ). Kept (sets l m (flat (at x y ∷ []))) (s.count + 1) (at x y) (at x y)) from (subst (λ (m : ℕ). Kept (sets l 0 (flat (at x y ∷ []))) m (at x y) (at x y)) one first))
      (λ c. never-closed (Move x y) n c)
  accepted-sound (Line x y) n =
      let begun = fine-begun s (fine (Line x y) n) in
      three h k begun s.closed s.current (at x y) (at x y) (current-inside h k begun, (at-inside x y, (at-inside x y, tt))) (spacious (Line x y) n) (λ c. never-closed (Line x y) n c)
  accepted-sound (Cubic x0 y0 x1 y1 x2 y2) n =
      let step = Cubic x0 y0 x1 y1 x2 y2 in
      three h k (fine-begun s (fine step n)) s.closed (at x0 y0) (at x1 y1) (at x2 y2) (at-inside x0 y0, (at-inside x1 y1, (at-inside x2 y2, tt))) (spacious step n) (λ c. never-closed step n c)
  accepted-sound Close n =
      let begun = fine-begun s (fine Close n) in
      let lined = line s.current s.start in
      let result : List Control → Held = λ cs. record { state = grown s cs s.start true; controls = sets l (2 * s.count) (flat cs) } in
      ⊎_elim (λ t. subst (λ b. Sound (result (cond b [] lined))) (sym t) (none h k begun true (λ c. same-is s.current s.start t)))
      (λ f.
      subst (λ b. Sound (result (cond b [] lined))) (sym f)
      (three h k begun true s.current s.start s.start (current-inside h k begun, (start-inside h k begun, (start-inside h k begun, tt)))
      (subst (λ b. (s.count + length (cond b [] lined) ≤ most_records) × (2 * (s.count + length (cond b [] lined)) ≤ length l)) f (spacious Close n)) (λ c. refl)))
      (passes (same s.current s.start))

  -- a step that is refused leaves all as it was
  after-refused : (step : Step) (r : Refusal) → First (rows s step l) r → after h step ≡ h
  unfolding stepped
  after-refused step r f = ap (λ out. record { state = state_after s out.answer; controls = out.held }) (judge-first (rows s step l) (refuses Err l) (accepts s step l) r f)

  after-accepted : (step : Step) → NoRow (rows s step l) → after h step ≡ left h step
  unfolding stepped
  after-accepted step n = ap (λ out. record { state = state_after s out.answer; controls = out.held }) (judge-none (rows s step l) (refuses Err l) (accepts s step l) n)

  pub step-sound : (step : Step) → Sound (after h step)
  step-sound step =
      ⊎_elim (λ (v : (r : Refusal) × First (rows s step l) r). subst Sound (sym (after-refused step v.0 v.1)) k)
      (λ n. subst Sound (sym (after-accepted step n)) (accepted-sound step n))
      (verdict (rows s step l))

-- nothing follows Close
pub nothing-follows : (s : State) (step : Step) (l : List ℤ) → s.closed ≡ true → (r : Refusal) × (stepped s step l ≡ refuses Err l r)
unfolding stepped
nothing-follows s step l c =
    ⊎_elim (λ (v : (r : Refusal) × First (rows s step l) r). (v.0, judge-first (rows s step l) (refuses Err l) (accepts s step l) v.0 v.1))
    (λ n. absurd (true-is-not-false c (fine-open s (opens step) (fit_then s step l n))))
    (verdict (rows s step l))

-- ---- any sequence

pub drawn-sound : (h : Held) → Sound h → (steps : List Step) → Sound (drawn h steps)
unfolding drawn
drawn-sound h k [] = k
drawn-sound h k (step ∷ steps) = drawn-sound (after h step) (step-sound h k step) steps

empty-sound : (l : List ℤ) → Sound (begin l)
unfolding reached
empty-sound l =
    record { counted = refl; room = omega arith; start = λ b. absurd (omega arith); current = λ b. absurd (omega arith); inside = λ r b. absurd (omega arith); ring = λ c. absurd (true-is-not-false c refl) }

-- from the empty state, whatever the list of controls and the steps
pub sound : (l : List ℤ) (steps : List Step) → Sound (drawn (begin l) steps)
sound l steps = drawn-sound (begin l) (empty-sound l) steps
