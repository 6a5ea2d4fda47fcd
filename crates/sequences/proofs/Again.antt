-- Drawing again: where the drawing call would be done and change nothing, so it would be after every list of calls. The shape stays sound, the records inside the limits
-- and the lists long enough.
use Rattle.std.specs.Prelude.{Ok}
use mathlib.Core.Path.{◌≡◌, sym, ap, ◌∙◌, subst}
use mathlib.Core.Bool.{false, not}
use mathlib.Core.Logic.{⊎_elim}
use mathlib.Core.List.{List, [], ◌∷◌, ◌++◌}
use Prim.Native.Nat.{ℕ, ◌+◌, ◌*◌, ◌≤◌, ◌<◌}
use native.Mathlib.Omega.{arith}
use borrow.Author.Tests.{le-leb, le-ltb}
use lib.IntN.{ℤ, pos, nat_abs}
use lib.ListN.{get_or, length}
use lib.Seq.{sets}
use Rattle.whole.specs.Outcome.{outcome}
use Rattle.curve.specs.Published.{most_parameter}
use Rattle.curve.specs.Limits.{limit, reach, parameter_of}
use Rattle.curve.specs.Span.{coordinate}
use Rattle.curve.specs.Ways.{deepest}
use Rattle.curve.proofs.Tab.{tab-same}
use Rattle.shape.specs.declared.Shape.{Shape}
use Rattle.shape.specs.declared.Plan.{Plan}
use Rattle.shape.specs.declared.Refusal.{Refusal}
use Rattle.shape.specs.Inner.{Good, Lent}
use Rattle.shape.specs.Shape.{last_basis, basis_in, records_of, spans_of}
use Rattle.shape.specs.Refusals.{First, NoRow, outside, first_outside, shape_rows, list_rows, plan_of}
use Rattle.shape.proofs.Refusals.{none_both, verdict, offered-row}
use Rattle.shape.proofs.Seek.{seek-none}
use Rattle.shape.proofs.Spans.{spans-records, facts-allowed}
use Rattle.spans.proofs.Filled.{length-filled, same-filled}
use Rattle.outline.specs.declared.Figures.{Figures}
use Rattle.spans.specs.Numbers.{number}
use Rattle.outline.specs.Outline.{points, drawn, draw_rows, figures_of, draws}
use Rattle.outline.proofs.Exactly.{done_none, none-drawn}
use Rattle.outline.proofs.Held.{held-drawn}
use Rattle.outline.proofs.Within.{drawn-within}
use Rattle.asked.specs.declared.Edit.{Edit}
use Rattle.asked.specs.Edits.{count_after, point_at}
use Rattle.edit.specs.Reading.{shape_after, accepts, edits}
use Rattle.edit.proofs.Exactly.{call_rows, first-refused, none_done}
use Rattle.sequences.specs.Played.{State, Call, state, state_then, called, played, Outlined, Redraws}
use Rattle.sequences.proofs.Redrawn.{good-then, room-then, lent-then}
use Rattle.sequences.proofs.Played.{done-outlined, drawn-outlined}

-- ---- no row holds of a sound shape, nor of lists that have what is needed

good_none : (s : Shape) (p : Plan) → Good s p → NoRow (shape_rows s)
good_none s p good =
    let b = basis_in s in
    let n = s.count in
    let records : records_of b p.spans ≡ n = subst (λ x. records_of x p.spans ≡ n) good.basis good.records in
    let spans : spans_of b n ≡ p.spans = ap (spans_of b) (sym records) ∙ spans-records b p.spans in (
      simp (le-leb 1 s.basis good.basis-least, le-leb s.basis last_basis good.basis-most),
      (
        le-ltb deepest s.depth (omega (arith, good.depth, good.depth-most)),
        (offered-row s.basis s.parameter n (subst (λ x. parameter_of x ≤ most_parameter) good.basis good.offered), (ap not (facts-allowed b n good.records-least good.records-most (ap (records_of b) spans ∙ records)), tt)),
      ),
    )

lent_none : (n : ℕ) (controls : List ℤ) (k len : ℕ) → Lent n controls k len → NoRow (list_rows n controls k len)
unfolding outside
lent_none n controls k len lent =
    let inside : (r : ℕ) → 0 ≤ r → r < 0 + n → outside controls r ≡ false =
    λ r _ h. simp (le-ltb limit (nat_abs (coordinate controls 0 r)) (lent.x r (omega arith)), le-ltb limit (nat_abs (coordinate controls 1 r)) (lent.y r (omega arith))) in (
      le-ltb (length controls) (2 * n) lent.room,
      (le-ltb (first_outside controls n) n (omega (arith, seek-none (outside controls) 0 n inside)), (le-ltb len (2 * k) lent.points-room, tt)),
    )

-- ---- an outline drawn over itself

redrawn : (t : State) → Outlined t → drawn (plan_of t.shape) t.controls t.held ≡ t.held
redrawn t out =
    let p = plan_of t.shape in
    ap (sets t.held 0) (tab-same (number p t.controls) (λ (i : ℕ). get_or t.held i (pos 0)) 0 0 (2 * points p) (λ i h. sym (out.holds (0 + i) (omega arith))))
    ∙ same-filled t.held 0 (2 * points p)

outlined-redraws : (t : State) → Outlined t → NoRow (draw_rows t.shape t.controls t.held) → Redraws t
outlined-redraws t out none =
    none-drawn t.shape t.controls t.held none ∙ ap (outcome (Ok (figures_of (plan_of t.shape) t.controls))) (redrawn t out)

-- ---- one call

module _ (e : Edit) (s : Shape) (j : ℕ) (controls lent : List ℤ) (none : NoRow (call_rows e s j controls lent)) where
  abbrev n : ℕ
  n = count_after e s.count

  abbrev p : Plan
  p = plan_of (shape_after e s)

  abbrev then : State
  then = state_then s (accepts e s p j controls lent)

  same_length : length then.held ≡ length lent
  same_length = length-filled (point_at e p j then.controls lent) 0 (2 * points p) lent

  still-lent : Lent n then.controls (points p) (length then.held)
  still-lent =
      let new = lent-then e s j controls lent none in
      record { room = new.room; x = new.x; y = new.y; points-room = omega (arith, same_length, room-then e s j controls lent none) }

  none_then : NoRow (draw_rows then.shape then.controls then.held)
  none_then =
      let sound = good_none (shape_after e s) p (good-then e s j controls lent none) in
      let lists = lent_none n then.controls (points p) (length then.held) still-lent in
      none_both (shape_rows (shape_after e s)) (list_rows n then.controls (points p) (length then.held)) sound lists

edit-redraws : (e : Edit) (s : Shape) (j : ℕ) (controls lent : List ℤ) → Redraws (state s controls lent) → Redraws (state_then s (edits e s j controls lent))
edit-redraws e s j controls lent again =
    ⊎_elim (λ (v : (r : Refusal) × First (call_rows e s j controls lent) r). subst (λ o. Redraws (state_then s o)) (sym (first-refused e s j controls lent v.0 v.1)) again)
    (λ none.
    let out = drawn-outlined s controls lent (figures_of (plan_of s) controls) lent again in
    subst (λ o. Redraws (state_then s o)) (sym (none_done e s j controls lent none)) (outlined-redraws (then e s j controls lent none) (done-outlined e s j controls lent none out) (none_then e s j controls lent none)))
    (verdict (call_rows e s j controls lent))

pub called-redraws : (t : State) (c : Call) → Redraws t → Redraws (called t c)
unfolding called
called-redraws t c again = edit-redraws c.edit t.shape c.place t.controls t.held again

-- ---- every list of calls

pub played-redraws : (t : State) (calls : List Call) → Redraws t → Redraws (played t calls)
unfolding played
played-redraws t [] again = again
played-redraws t (c ∷ calls) again = played-redraws (called t c) calls (called-redraws t c again)

-- ---- from the first drawing on

-- after an accepted drawing call, drawing again changes nothing
pub drawn-redraws : (s : Shape) (controls lent : List ℤ) (fs : Figures) (held : List ℤ) → draws s controls lent ≡ outcome (Ok fs) held → Redraws (state s controls held)
drawn-redraws s controls lent fs held answered =
    let p = plan_of s in
    let long : length lent ≡ length held = sym (length-filled (number p controls) 0 (2 * points p) lent) ∙ ap length (held-drawn s controls lent fs held answered) in
    outlined-redraws (state s controls held) (drawn-outlined s controls lent fs held answered)
    (subst (λ (len : ℕ). NoRow (shape_rows s ++ list_rows s.count controls (points p) len)) long (done_none s controls lent fs held answered))

-- nor does it after any calls more
pub drawn-played-redraws : (s : Shape) (controls lent : List ℤ) (fs : Figures) (held : List ℤ) (calls : List Call) → draws s controls lent ≡ outcome (Ok fs) held → Redraws (played (state s controls held) calls)
drawn-played-redraws s controls lent fs held calls answered = played-redraws (state s controls held) calls (drawn-redraws s controls lent fs held answered)

-- and every number of the outline is then within the reach of its basis
pub drawn-played-within : (s : Shape) (controls lent : List ℤ) (fs : Figures) (held : List ℤ) (calls : List Call) → draws s controls lent ≡ outcome (Ok fs) held
    → (q : ℕ) → q < 2 * points (plan_of (played (state s controls held) calls).shape)
    → nat_abs (get_or (played (state s controls held) calls).held q (pos 0)) ≤ reach (plan_of (played (state s controls held) calls).shape).basis
drawn-played-within s controls lent fs held calls answered q h =
    let t = played (state s controls held) calls in
    drawn-within t.shape t.controls t.held (figures_of (plan_of t.shape) t.controls) t.held (drawn-played-redraws s controls lent fs held calls answered) q h
