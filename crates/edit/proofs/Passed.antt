-- What an edit that no row refuses may rely on: it may be done, its new shape has its plan, and both lists have room.
use Rattle.std.specs.Prelude.{Err, Ok}
use mathlib.Core.Path.{◌≡◌, subst}
use mathlib.Core.List.{List}
use Prim.Native.Nat.{ℕ, max}
use lib.IntN.{ℤ}
use lib.ListN.{length}
use Rattle.shape.specs.declared.Shape.{Shape}
use Rattle.shape.specs.declared.Plan.{Plan}
use Rattle.shape.specs.Refusals.{Row, NoRow, shape_rows, plan_of}
use Rattle.shape.proofs.Refusals.{judge-none, none-earlier, none-later, good-plan}
use Rattle.outline.specs.Outline.{points}
use Rattle.asked.specs.declared.Edit.{Edit}
use Rattle.edit.specs.Reading.{shape_after, plan_after, ask_rows, judge_ask, room_rows, judge_room, edit_rows}
use Rattle.edit.specs.Inner.{Editable}
use Rattle.edit.proofs.Rows.{editable, plan_after_lem}
use Rattle.edit.proofs.Exactly.{call_rows}

module _ (e : Edit) (s : Shape) (j : ℕ) (controls lent : List ℤ) (none : NoRow (call_rows e s j controls lent)) where
  abbrev p : Plan
  p = plan_of s

  abbrev q : Plan
  q = plan_of (shape_after e s)

  abbrev asked_of : List Row
  asked_of = ask_rows e p.basis j s.count

  abbrev room_of : Plan → List Row
  room_of r = room_rows e s.count controls (max (points p) (points r)) (length lent)

  none-later-on : NoRow (edit_rows e s p q j controls lent)
  none-later-on = none-later (shape_rows s) (edit_rows e s p q j controls lent) none

  pub may-edit : Editable e s p j
  unfolding judge_ask
  may-edit =
      editable e s p j (good-plan s (none-earlier (shape_rows s) (edit_rows e s p q j controls lent) none))
      (judge-none asked_of Err (Ok tt) (none-earlier asked_of (room_of q) none-later-on))

  pub same-plan : q ≡ plan_after e p
  same-plan = plan_after_lem e s p j may-edit

  pub room-fine : judge_room e s.count controls (max (points p) (points (plan_after e p))) (length lent) ≡ Ok tt
  unfolding judge_room
  room-fine = judge-none (room_of (plan_after e p)) Err (Ok tt) (subst (λ r. NoRow (room_of r)) same-plan (none-later asked_of (room_of q) none-later-on))
