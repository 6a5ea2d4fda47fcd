-- The tests made so far are the rows passed, and the one that holds is the row given.
use Rattle.std.specs.Prelude.{Err, Ok}
use mathlib.Core.Path.{◌≡◌, refl, sym, ap, ◌∙◌}
use mathlib.Core.Bool.{false}
use mathlib.Core.Logic.{inl, inr}
use Prim.Native.Nat.{ℕ, ◌*◌, max}
use native.Mathlib.Omega.{arith}
use borrow.Author.Tests.{lt-ltb, le-ltb}
use lib.Dec.{ltb}
use lib.ListN.{length}
use Rattle.shape.specs.declared.Refusal.{Refusal}
use Rattle.shape.specs.Refusals.{First, NoRow, first_outside}
use Rattle.shape.proofs.Refusals.{judge-first, judge-none}
use Rattle.asked.specs.Edits.{count_after}
use Rattle.edit.specs.Reading.{room_rows, judge_room}
use Rattle.edit.proofs.checks.check_room.Goals as goal
use Rattle.edit.proofs.checks.check_room.Goals.{After-max, Else-controls-max, Else-outside-count}

-- the greater of the two counts
room_of : (c : After-max) → c.max.result ≡ max c.args.count (count_after c.args.edit c.args.count)
room_of c = c.max.ensures ∙ ap (max c.args.count) c.count_after.ensures

module _ (c : After-max) where
  refused : {q r : Refusal} → q ≡ r → First (room_rows c.args.edit c.args.count c.args.controls.now c.args.most c.args.len) r → Err q ≡ judge_room c.args.edit c.args.count c.args.controls.now c.args.most c.args.len
  unfolding judge_room
  refused {r = r} e h = let a = c.args in ap Err e ∙ sym (judge-first (room_rows a.edit a.count a.controls.now a.most a.len) Err (Ok tt) r h)

  passed : NoRow (room_rows c.args.edit c.args.count c.args.controls.now c.args.most c.args.len) → Ok tt ≡ judge_room c.args.edit c.args.count c.args.controls.now c.args.most c.args.len
  unfolding judge_room
  passed h = let a = c.args in sym (judge-none (room_rows a.edit a.count a.controls.now a.most a.len) Err (Ok tt) h)

-- row 7 passed
roomy : (c : Else-controls-max) → ltb (length c.args.controls.now) (2 * max c.args.count (count_after c.args.edit c.args.count)) ≡ false
roomy c =
    let a = c.args in
    le-ltb (length a.controls.now) (2 * max a.count (count_after a.edit a.count)) (omega (arith, room_of c.before, c.if-controls-max.false))

-- row 8 passed for the records
all-inside : (c : Else-outside-count) → ltb (first_outside c.args.controls.now c.args.count) c.args.count ≡ false
all-inside c =
    let a = c.args in
    le-ltb (first_outside a.controls.now a.count) a.count (omega (arith, c.first_outside-outside.ensures, c.if-outside-count.false))

pub returns-then-controls-max : goal.returns-then-controls-max
returns-then-controls-max c =
    let g = c.before.before in
    let a = c.args in
    refused g c.into.ensures (inl (lt-ltb (length a.controls.now) (2 * max a.count (count_after a.edit a.count)) (omega (arith, room_of g, c.if-controls-max.true)), refl))

pub returns-then-outside-count : goal.returns-then-outside-count
returns-then-outside-count c =
    let t = c.before.before.before in
    let a = c.args in
    refused t.before (c.at.ensures ∙ ap (λ (n : ℕ). record { number = 8; place = n }) c.first_outside-outside.ensures)
    (inr (roomy t, inl (lt-ltb (first_outside a.controls.now a.count) a.count (omega (arith, c.first_outside-outside.ensures, c.if-outside-count.true)), refl)))

pub returns-then-is_new_outside : goal.returns-then-is_new_outside
returns-then-is_new_outside c =
    let u = c.before.before.before in
    let t = u.before.before in
    refused t.before c.at-then-is_new_outside.ensures (inr (roomy t, inr (all-inside u, inl (sym c.is_new_outside.ensures ∙ c.if-is_new_outside.true, refl))))

pub returns-then-len-most : goal.returns-then-len-most
returns-then-len-most c =
    let u = c.before.before.before.before in
    let t = u.before.before in
    let a = c.args in
    refused t.before c.into-then-len-most.ensures
    (inr (roomy t, inr (all-inside u, inr (sym c.is_new_outside.ensures ∙ c.if-is_new_outside.false, inl (lt-ltb a.len (2 * a.most) c.if-len-most.true, refl)))))

pub returns : goal.returns
returns c =
    let u = c.before.before.before in
    let t = u.before.before in
    let a = c.args in
    passed t.before (roomy t, (all-inside u, (sym c.is_new_outside.ensures ∙ c.if-is_new_outside.false, (le-ltb a.len (2 * a.most) c.if-len-most.false, tt))))
