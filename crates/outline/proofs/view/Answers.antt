-- Each way out is one case of which part the view is; the part that is handed back starts where the span does, four bytes a number.
use mathlib.Core.Path.{◌≡◌, sym, ap, ◌∙◌, subst}
use mathlib.Core.List.{List, []}
use Prim.Native.Nat.{ℕ, ◌+◌, ◌*◌, ◌-◌, ◌≤◌, ◌<◌}
use native.Mathlib.Nat.{le_trans}
use native.Mathlib.Omega.{arith}
use lib.IntN.{ℤ}
use lib.ListN.{length, take, drop}
use Rattle.std.specs.Prelude.{Ok, Err}
use Rattle.shape.specs.declared.Plan.{Plan}
use Rattle.shape.specs.Inner.{Good}
use Rattle.shape.specs.Refusals.{judge_shape}
use Rattle.shape.specs.Shape.{points_of, most_points}
use Rattle.shape.proofs.Refusals.{sound-facts}
use Rattle.shape.proofs.Spans.{points-at-most}
use Rattle.spans.specs.Numbers.{per_span}
use Rattle.outline.specs.View.{Part, empty_part, part_of, viewed}
use Rattle.outline.proofs.Views.{part-unsound, part-past, part-short, part-good, span-within}
use Rattle.outline.proofs.view.Goals as goal
use Rattle.outline.proofs.view.Goals.{After-result-1, After-result-then-plan-span-1, After-result-then-points-1, In-Ok, After-points, After-steps-stride}

-- what is handed back is the part of the definition, at the definition's place
empty-part : (v : Part) (l : List ℤ) (b o : ℕ) → v ≡ empty_part → (◌≡◌ {A = List ℤ} [] (viewed v l)) × (◌≡◌ {A = ℕ × ℕ} (b, 0 * 4 + o) (b, v.start * 4 + o))
unfolding viewed
empty-part v l b o e = (sym (ap (λ (w : Part). take w.size (drop w.start l)) e), sym (ap (λ (w : Part). (b, w.start * 4 + o)) e))

unsound : (c : After-result-1) → part_of c.args.shape c.args.span c.args.points.now ≡ empty_part
unsound c =
    let a = c.args in
    let e : judge_shape a.shape ≡ Err c.in_default.field-0 = sym c.check_shape.ensures ∙ c.in_default.is in
    part-unsound a.shape c.in_default.field-0 a.span a.points.now e

pub returns-in_default-clause-result_value : goal.returns-in_default-clause-result_value
returns-in_default-clause-result_value c = let a = c.args in (empty-part _ a.points.now a.points.ref_ptr.0 a.points.ref_ptr.1 (unsound c)).0

pub returns-in_default-clause-ref_ptr_value : goal.returns-in_default-clause-ref_ptr_value
returns-in_default-clause-ref_ptr_value c = let a = c.args in (empty-part _ a.points.now a.points.ref_ptr.0 a.points.ref_ptr.1 (unsound c)).1

-- the plan that was found is the shape's
is-sound : (c : In-Ok) → judge_shape c.args.shape ≡ Ok c.in-Ok.plan
is-sound c = sym c.check_shape.ensures ∙ c.in-Ok.is

good : (c : In-Ok) → Good c.args.shape c.in-Ok.plan
good c = sound-facts c.args.shape c.in-Ok.plan (is-sound c)

past : (c : After-result-then-plan-span-1) → part_of c.args.shape c.args.span c.args.points.now ≡ empty_part
past c = let a = c.args in part-past a.shape c.in-Ok.plan a.span a.points.now (sym c.check_shape.ensures ∙ c.in-Ok.is) c.if-plan-span.true

pub returns-then-plan-span-clause-result_value : goal.returns-then-plan-span-clause-result_value
returns-then-plan-span-clause-result_value c = let a = c.args in (empty-part _ a.points.now a.points.ref_ptr.0 a.points.ref_ptr.1 (past c)).0

pub returns-then-plan-span-clause-ref_ptr_value : goal.returns-then-plan-span-clause-ref_ptr_value
returns-then-plan-span-clause-ref_ptr_value c = let a = c.args in (empty-part _ a.points.now a.points.ref_ptr.0 a.points.ref_ptr.1 (past c)).1

pub points-requires : goal.points-requires
points-requires c = let g = good c.before.before in (g.depth-most, omega (arith, g.spans-most, g.records-most))

-- the points that were counted are few
few : (c : After-points) → c.points.result ≤ most_points
few c =
    let p = c.in-Ok.plan in
    let g = good c.before.before.before in
    subst (λ (n : ℕ). n ≤ most_points) (sym c.points.ensures) (points-at-most p.depth p.spans g.depth-most (omega (arith, g.spans-most, g.records-most)))

pub overflow_mul-points : goal.overflow_mul-points
overflow_mul-points c = omega (arith, few c)

short : (c : After-result-then-points-1) → part_of c.args.shape c.args.span c.args.points.now ≡ empty_part
short c =
    let a = c.args in
    part-short a.shape c.in-Ok.plan a.span a.points.now (sym c.check_shape.ensures ∙ c.in-Ok.is) (omega (arith, c.if-plan-span.false)) (omega (arith, c.points.ensures, c.if-points.true))

pub returns-then-points-clause-result_value : goal.returns-then-points-clause-result_value
returns-then-points-clause-result_value c = let a = c.args in (empty-part _ a.points.now a.points.ref_ptr.0 a.points.ref_ptr.1 (short c)).0

pub returns-then-points-clause-ref_ptr_value : goal.returns-then-points-clause-ref_ptr_value
returns-then-points-clause-ref_ptr_value c = let a = c.args in (empty-part _ a.points.now a.points.ref_ptr.0 a.points.ref_ptr.1 (short c)).1

pub steps-stride-requires : goal.steps-stride-requires
steps-stride-requires c = (good c.before.before.before.before).depth-most

-- the span ends within the list
module _ (c : After-steps-stride) where
  abbrev plan : Plan
  plan = c.in-Ok.plan

  -- twice the steps are a span's numbers
  stride : 2 * c.steps-stride.result ≡ per_span plan.depth
  stride = ap (λ (n : ℕ). 2 * n) c.steps-stride.ensures

  here : c.args.span < plan.spans
  here = omega (arith, c.if-plan-span.false)

  long : 2 * points_of plan.depth plan.spans ≤ length c.args.points.now
  long = omega (arith, c.points.ensures, c.if-points.false)

  within : c.args.span * (2 * c.steps-stride.result) + 2 * c.steps-stride.result + 2 ≤ length c.args.points.now
  within =
      let a = c.args in
      subst (λ (n : ℕ). a.span * n + n + 2 ≤ length a.points.now) (sym stride) (le_trans (span-within plan.depth plan.spans a.span here) long)

pub overflow_mul-stride : goal.overflow_mul-stride
overflow_mul-stride c = omega (arith, within c, c.well_formed)

pub overflow_mul-start : goal.overflow_mul-start
overflow_mul-start c = omega (arith, within c, c.well_formed)

pub overflow_add-end : goal.overflow_add-end
overflow_add-end c = omega (arith, within c, c.well_formed)

pub overflow_add-end-2 : goal.overflow_add-end-2
overflow_add-end-2 c = omega (arith, within c, c.well_formed)

pub offset_bounds-points-start : goal.offset_bounds-points-start
offset_bounds-points-start c = omega (arith, within c, c.well_formed)

pub slice_bounds-result-end-2 : goal.slice_bounds-result-end-2
slice_bounds-result-end-2 c = omega (arith, within c)

-- the part is the span's own
own : (c : After-steps-stride) → part_of c.args.shape c.args.span c.args.points.now ≡ record { start = c.args.span * per_span c.in-Ok.plan.depth; size = per_span c.in-Ok.plan.depth + 2 }
own c =
    let a = c.args in
    part-good a.shape c.in-Ok.plan a.span a.points.now (sym c.check_shape.ensures ∙ c.in-Ok.is) (here c) (long c)

pub returns-clause-result_value : goal.returns-clause-result_value
unfolding viewed
returns-clause-result_value c =
    let t = c.before in
    let s = c.args.span in
    let l = c.args.points.now in
    let n = 2 * c.steps-stride.result in
    let size : s * n + n + 2 - s * n ≡ n + 2 = omega arith in
    ap (λ (m : ℕ). take m (drop (s * n) l)) size
    ∙ ap (λ (m : ℕ). take (m + 2) (drop (s * m) l)) (stride t)
    ∙ sym (ap (λ (w : Part). take w.size (drop w.start l)) (own t))

pub returns-clause-ref_ptr_value : goal.returns-clause-ref_ptr_value
returns-clause-ref_ptr_value c =
    let t = c.before in
    let (block, offset) = c.args.points.ref_ptr in
    ap (λ (m : ℕ). (block, c.args.span * m * 4 + offset)) (stride t) ∙ sym (ap (λ (w : Part). (block, w.start * 4 + offset)) (own t))
