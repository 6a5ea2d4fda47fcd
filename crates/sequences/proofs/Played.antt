-- After every list of calls, done ones and refused ones in any order, the points are the outline of the controls, where they were at the start.
use Rattle.std.specs.Prelude.{Err, Ok, Result}
use mathlib.Core.Path.{◌≡◌, refl, sym, ap, ◌∙◌, subst}
use mathlib.Core.Logic.{⊎_elim}
use mathlib.Core.List.{List, [], ◌∷◌}
use Prim.Native.Nat.{ℕ, ◌*◌}
use native.Mathlib.Omega.{arith}
use lib.IntN.{ℤ, pos}
use lib.ListN.{get_or}
use Rattle.whole.specs.Outcome.{outcome}
use Rattle.shape.specs.declared.Shape.{Shape}
use Rattle.shape.specs.declared.Refusal.{Refusal}
use Rattle.shape.specs.Refusals.{First, NoRow, plan_of}
use Rattle.shape.proofs.Refusals.{verdict}
use Rattle.spans.proofs.Filled.{length-filled, in-filled}
use Rattle.outline.specs.declared.Figures.{Figures}
use Rattle.spans.specs.Numbers.{number}
use Rattle.outline.specs.Outline.{points, draws}
use Rattle.outline.proofs.Held.{held-room, held_number}
use Rattle.asked.specs.declared.Edit.{Edit}
use Rattle.asked.specs.Edits.{point_at}
use Rattle.edit.specs.declared.Change.{Change}
use Rattle.edit.specs.Reading.{shape_after, controls_after, accepts, edits}
use Rattle.edit.proofs.Exactly.{call_rows, first-refused, none_done}
use Rattle.sequences.specs.Played.{State, Call, state, state_then, answered, called, played, Outlined}
use Rattle.sequences.proofs.Redrawn.{room-then, edit-draws}

-- ---- one call

module _ (e : Edit) (s : Shape) (j : ℕ) (controls lent : List ℤ) where
  -- an edit that is done
  pub done-outlined : NoRow (call_rows e s j controls lent) → Outlined (state s controls lent) → Outlined (state_then s (accepts e s (plan_of (shape_after e s)) j controls lent))
  done-outlined none out =
      let p = plan_of (shape_after e s) in
      let new = controls_after e s j controls in
      let room = room-then e s j controls lent none in
      record {
        room = omega (arith, room, length-filled (point_at e p j new lent) 0 (2 * points p) lent);
        holds =
            λ q h.
            ap (λ l. get_or l q (pos 0)) (edit-draws e s j controls lent none out.holds) ∙ in-filled (number p new) 0 (2 * points p) lent q (omega arith) (omega arith) (omega (arith, room));
      }

  -- any edit
  edit-outlined : Outlined (state s controls lent) → Outlined (state_then s (edits e s j controls lent))
  edit-outlined out =
      ⊎_elim (λ (v : (r : Refusal) × First (call_rows e s j controls lent) r). subst (λ o. Outlined (state_then s o)) (sym (first-refused e s j controls lent v.0 v.1)) out)
      (λ none. subst (λ o. Outlined (state_then s o)) (sym (none_done e s j controls lent none)) (done-outlined none out))
      (verdict (call_rows e s j controls lent))

pub called-outlined : (t : State) (c : Call) → Outlined t → Outlined (called t c)
unfolding called
called-outlined t c out = edit-outlined c.edit t.shape c.place t.controls t.held out

-- a call that is refused leaves the state as it was
refused-apart : (a : Result Change Refusal) (c : Change) (r : Refusal) → a ≡ Ok c → a ≡ Err r → ⊥
refused-apart a c r done refused = let z : ◌≡◌ {A = ℕ} 0 1 = cc in omega arith

pub refused-keeps : (t : State) (c : Call) (r : Refusal) → (answered t c).answer ≡ Err r → called t c ≡ t
unfolding called
refused-keeps t c r refused =
    let rows = call_rows c.edit t.shape c.place t.controls t.held in
    ⊎_elim
    (λ (v : (q : Refusal) × First rows q). ap (state_then t.shape) (first-refused c.edit t.shape c.place t.controls t.held v.0 v.1))
    (λ (none : NoRow rows). absurd (refused-apart _ _ r (λ i. ((none_done c.edit t.shape c.place t.controls t.held none) i).answer) refused))
    (verdict rows)

-- ---- every list of calls

pub played-outlined : (t : State) (calls : List Call) → Outlined t → Outlined (played t calls)
unfolding played
played-outlined t [] out = out
played-outlined t (c ∷ calls) out = played-outlined (called t c) calls (called-outlined t c out)

-- what an accepted edit leaves of a shape, so does every list of calls
module _ (part : Shape → ℕ) (left : (e : Edit) (s : Shape) → part (shape_after e s) ≡ part s) where
  called-leaves : (t : State) (c : Call) → part (called t c).shape ≡ part t.shape
  unfolding called
  called-leaves t c =
      let rows = call_rows c.edit t.shape c.place t.controls t.held in
      ⊎_elim
      (λ (v : (r : Refusal) × First rows r). ap (λ o. part (state_then t.shape o).shape) (first-refused c.edit t.shape c.place t.controls t.held v.0 v.1))
      (λ (none : NoRow rows). ap (λ o. part (state_then t.shape o).shape) (none_done c.edit t.shape c.place t.controls t.held none) ∙ left c.edit t.shape)
      (verdict rows)

  pub played-leaves : (t : State) (calls : List Call) → part (played t calls).shape ≡ part t.shape
  unfolding played
  played-leaves t [] = refl
  played-leaves t (c ∷ calls) = played-leaves (called t c) calls ∙ called-leaves t c

-- ---- from the first drawing on

-- an accepted drawing call leaves an outline
pub drawn-outlined : (s : Shape) (controls lent : List ℤ) (fs : Figures) (held : List ℤ) → draws s controls lent ≡ outcome (Ok fs) held → Outlined (state s controls held)
drawn-outlined s controls lent fs held answered = record { room = held-room s controls lent fs held answered; holds = held_number s controls lent fs held answered }
