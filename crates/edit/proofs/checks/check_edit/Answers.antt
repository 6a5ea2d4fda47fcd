-- Each of the three checks answers its own rows, the last over the greater of the two numbers of points.
use Rattle.std.specs.Prelude.{Ok, Err}
use mathlib.Core.Path.{◌≡◌, sym, ap, ◌∙◌, subst}
use Prim.Native.Nat.{ℕ, ◌≤◌, max}
use native.Mathlib.Nat.{max-le}
use native.Mathlib.Omega.{arith}
use borrow.Author.Rules.{rules}
use lib.ListN.{length}
use Rattle.curve.specs.Span.{recount}
use Rattle.shape.specs.declared.Plan.{Plan}
use Rattle.shape.specs.Inner.{Good}
use Rattle.shape.specs.Refusals.{judge_shape}
use Rattle.shape.specs.Shape.{most_points, most_records, points_of}
use Rattle.shape.proofs.Refusals.{sound-facts}
use Rattle.shape.proofs.Spans.{points-at-most}
use Rattle.outline.specs.Outline.{points}
use Rattle.asked.specs.Edits.{spans_after}
use Rattle.edit.specs.Reading.{judge_ask, judge_room, plan_after}
use Rattle.edit.specs.Inner.{Vetted}
use Rattle.edit.proofs.Rows.{good-after, shape-bad, ask-bad, may-edit, room-bad, room-fine}
use Rattle.edit.proofs.checks.check_edit.Goals as goal
use Rattle.edit.proofs.checks.check_edit.Goals.{In_ok-plan, In_ok-check_ask, After-max-most, After-check_room}

pub returns-in_err-plan : goal.returns-in_err-plan
returns-in_err-plan c =
    let a = c.args in
    let r = c.in_err-plan.field-0.0 in
    let out : c.from_residual.result ≡ Err r = search rules in
    subst (Vetted a.edit a.shape a.place a.controls.now a.points.now) (sym out) (shape-bad a.edit a.shape a.place a.controls.now a.points.now r (sym c.check_shape.ensures ∙ c.in_err-plan.was))

-- the shape's plan
module _ (k : In_ok-plan) where
  abbrev p : Plan
  p = k.in_ok-plan.plan

  is-sound : judge_shape k.args.shape ≡ Ok p
  is-sound = sym k.check_shape.ensures ∙ k.in_ok-plan.was

  good : Good k.args.shape p
  good = sound-facts k.args.shape p is-sound

pub returns-in_err-check_ask : goal.returns-in_err-check_ask
returns-in_err-check_ask c =
    let a = c.args in
    let r = c.in_err-check_ask.field-0.0 in
    let out : c.from_residual-in_err-check_ask.result ≡ Err r = search rules in
    subst (Vetted a.edit a.shape a.place a.controls.now a.points.now) (sym out)
    (ask-bad a.edit a.shape a.place a.controls.now a.points.now c.in_ok-plan.plan (is-sound c.before.before.before.before) r (sym c.check_ask.ensures ∙ c.in_err-check_ask.was))

-- what is asked may be done
module _ (u : In_ok-check_ask) where
  abbrev k : In_ok-plan
  k = u.before.before.before

  fine : judge_ask u.args.edit (p k).basis u.args.place u.args.shape.count ≡ Ok tt
  fine = sym u.check_ask.ensures ∙ u.in_ok-check_ask.was

  -- the new shape has at most as many spans as records
  few : spans_after u.args.edit (p k).spans ≤ most_records
  few =
      let a = u.args in
      let g = good-after a.edit a.shape (p k) a.place (may-edit a.edit a.shape a.place a.controls.now a.points.now (p k) (is-sound k) fine) in
      omega (arith, g.spans-most, g.records-most)

  abbrev most : ℕ
  most = max (points (p k)) (points (plan_after u.args.edit (p k)))

pub spans_after-spans-requires : goal.spans_after-spans-requires
spans_after-spans-requires c = let g = good (k c) in (g.spans-least, omega (arith, g.spans-most, g.records-most))

pub points-requires : goal.points-requires
points-requires c = let g = good (k c.before.before) in (g.depth-most, omega (arith, g.spans-most, g.records-most))

pub points-requires-2 : goal.points-requires-2
points-requires-2 c =
    let u = c.before.before.before in
    ((good (k u)).depth-most, subst (λ (n : ℕ). n ≤ most_records) (sym c.spans_after-spans.ensures) (few u))

-- the greater of the two numbers of points
most-is : (c : After-max-most) → c.max-most.result ≡ most c.before.before.before.before.before
most-is c =
    let plan = c.in_ok-plan.plan in
    c.max-most.ensures
    ∙ ap (λ (n : ℕ). max n c.points-2.result) c.points.ensures
    ∙ ap (max (points plan)) (c.points-2.ensures ∙ ap (points_of plan.depth) c.spans_after-spans.ensures)

pub check_room-requires : goal.check_room-requires
check_room-requires c =
    let u = c.before.before.before.before.before in
    let plan = c.in_ok-plan.plan in
    let g = good (k u) in (
      omega (arith, g.records-least),
      g.records-most,
      subst (λ (n : ℕ). n ≤ most_points) (sym (most-is c))
          (max-le (points-at-most plan.depth plan.spans g.depth-most (omega (arith, g.spans-most, g.records-most)))
          (points-at-most plan.depth (spans_after c.args.edit plan.spans) g.depth-most (few u))),
    )

-- what the last check found
found : (c : After-check_room) → c.check_room.result ≡ judge_room c.args.edit c.args.shape.count c.args.controls.now (most c.before.before.before.before.before.before) (length c.args.points.now)
found c =
    let a = c.args in
    c.check_room.ensures ∙ ap (λ (n : ℕ). judge_room a.edit a.shape.count a.controls.now n (length a.points.now)) (most-is c.before)

pub returns-in_err-check_room : goal.returns-in_err-check_room
returns-in_err-check_room c =
    let a = c.args in
    let r = c.in_err-check_room.field-0.0 in
    let t = c.before.before.before in
    let u = t.before.before.before.before.before.before in
    let out : c.from_residual-in_err-check_room.result ≡ Err r = search rules in
    subst (Vetted a.edit a.shape a.place a.controls.now a.points.now) (sym out)
    (room-bad a.edit a.shape a.place a.controls.now a.points.now c.in_ok-plan.plan (is-sound (k u)) (fine u) r (sym (found t) ∙ c.in_err-check_room.was))

pub returns : goal.returns
returns c =
    let a = c.args in
    let t = c.before.before in
    let u = t.before.before.before.before.before.before in
    let plan = c.in_ok-plan.plan in
    let spans = c.spans_after-spans.ensures in
    let basis = c.recounted.ensures ∙ ap (λ (m : ℕ). recount m plan.basis) spans in
    subst (λ (q : Plan). Vetted a.edit a.shape a.place a.controls.now a.points.now (Ok q))
    (sym (λ i. record { basis = basis i; depth = plan.depth; spans = spans i }))
    (room-fine a.edit a.shape a.place a.controls.now a.points.now plan (is-sound (k u)) (fine u) (sym (found t) ∙ c.in_ok-check_room.was))
