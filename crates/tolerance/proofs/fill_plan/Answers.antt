-- Row 9, or all chosen points.
use Rattle.std.specs.Prelude.{Ok, Err}
use mathlib.Core.Path.{◌≡◌, sym, ap, ◌∙◌, subst}
use Prim.Native.Nat.{ℕ, ◌+◌, ◌*◌, ◌^◌, ◌≤◌, ◌<◌}
use native.Mathlib.Omega.{arith}
use lib.ListN.{length}
use Rattle.whole.specs.Outcome.{outcome}
use Rattle.shape.specs.Shape.{most_records}
use Rattle.pieces.specs.Tree.{finest}
use Rattle.tolerance.specs.Reading.{cuts_of, points_for}
use Rattle.tolerance.proofs.Left.{values_length, cuts-below}
use Rattle.tolerance.proofs.Chooses.{last-short, last-room}
use Rattle.tolerance.proofs.fill_plan.Goals as goal
use Rattle.tolerance.proofs.fill_plan.Goals.{Start}

-- a plan has few spans, and a span has few cuts
few : (c : Start) → c.args.cutting.now.draft.plan.spans + c.args.cuts ≤ most_records * 2 ^ finest
few c =
    let a = c.args in
    omega (arith, c.requires.cuts_value, cuts-below a.cutting.now.draft.plan a.cutting.now.tolerance a.cutting.now.draft.controls.now, a.cutting.now.draft.drawable.few)

-- so many points are asked for
counted : (c : Start) → c.args.cutting.now.draft.plan.spans + c.args.cuts + 1 ≡ points_for c.args.cutting.now.draft.plan (cuts_of c.args.cutting.now.draft.plan c.args.cutting.now.tolerance c.args.cutting.now.draft.controls.now)
counted c = ap (points_for c.args.cutting.now.draft.plan) c.requires.cuts_value

pub overflow_add-count : goal.overflow_add-count
overflow_add-count c = omega (arith, few c)

pub overflow_add-count-2 : goal.overflow_add-count-2
overflow_add-count-2 c = omega (arith, few c)

pub overflow_mul-count : goal.overflow_mul-count
overflow_mul-count c = omega (arith, few c)

pub returns-then-points-count : goal.returns-then-points-count
returns-then-points-count c =
    let s = c.before.before in
    let a = s.args in
    ap (λ r. outcome (Err r) a.points.now) c.into.ensures
    ∙ sym (last-short a.cutting.now.draft.plan a.cutting.now.tolerance a.cutting.now.draft.controls.now a.points.now (subst (λ (n : ℕ). length a.points.now < 2 * n) (counted s) c.if-points-count.true))

pub fill-exact-requires : goal.fill-exact-requires
fill-exact-requires c =
    let s = c.before.before in
    let a = s.args in
    record {
      sound = s.requires.sound;
      controls_in_bounds = omega (arith, values_length a.cutting.now.draft.plan a.cutting.now.tolerance a.cutting.now.draft.controls.now, counted s, c.if-points-count.false);
    }

pub returns : goal.returns
returns c =
    let s = c.before.before.before.before in
    let a = s.args in
    let made = s.requires.cuts_value in
    let all = c.fill-exact.ensures in
    (λ i. outcome (Ok (record { points = counted s i; cuts = made i; exact = (all i).answer })) (all i).held)
    ∙ sym (last-room a.cutting.now.draft.plan a.cutting.now.tolerance a.cutting.now.draft.controls.now a.points.now (subst (λ (n : ℕ). 2 * n ≤ length a.points.now) (counted s) c.if-points-count.false))
