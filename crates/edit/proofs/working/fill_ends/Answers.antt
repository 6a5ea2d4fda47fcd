-- The later stretch and then the earlier one, each from what the one before left.
use Rattle.std.proofs.Common.{◌≡◌, ℕ, ◌+◌, ◌-◌, ◌*◌, ◌≤◌, List, ℤ, ap, ◌∙◌, arith}
use native.Mathlib.Nat.{mul-le-mul, le_refl}
use lib.Pow.{pow_mono}
use Rattle.whole.specs.Outcome.{Outcome, outcome}
use Rattle.curve.specs.Tab.{tab}
use Rattle.curve.specs.Ways.{deepest}
use Rattle.curve.proofs.Tab.{length-tab}
use Rattle.shape.specs.declared.Plan.{Plan}
use Rattle.shape.specs.Shape.{most_records}
use Rattle.spans.specs.Numbers.{per_span, remainder_of}
use Rattle.spans.specs.Filled.{fills}
use Rattle.spans.proofs.Rounds.{noughts-most}
use Rattle.edit.specs.Inner.{fills_ends}
use Rattle.edit.proofs.working.fill_ends.Goals as goal

-- no more are exact than are drawn
exact-few : (p : Plan) (controls l : List ℤ) (q n : ℕ) (o : Outcome ℕ (List ℤ)) → o ≡ fills p controls q n l → o.answer ≤ n
exact-few p controls l q n o e =
    omega (arith, ap (λ (r : Outcome ℕ (List ℤ)). r.answer) e, noughts-most (tab (remainder_of p controls) q n), length-tab (remainder_of p controls) q n)

-- a stretch has no more numbers than 64 spans at the deepest
stretch-few : (k n : ℕ) → k ≤ deepest → n ≤ most_records → n * per_span k ≤ most_records * per_span deepest
stretch-few k n deep few = mul-le-mul few (mul-le-mul (le_refl 2) (pow_mono {i = k} {j = deepest} deep))

pub overflow_add-result : goal.overflow_add-result
overflow_add-result c =
    let a = c.args in
    let d = a.draft.now in
    let p = d.plan in
    let w = per_span p.depth in
    let last = c.fill_stretch-last in
    let first = c.fill_stretch in
    omega (
      arith,
      exact-few p d.controls.now a.points.now (a.from * w) ((p.spans - a.from) * w + 2) (outcome last.result last.new.points) last.ensures,
      exact-few p d.controls.now last.new.points (0 * w) ((a.to - 0) * w + 2) (outcome first.result first.new.points) first.ensures,
      stretch-few p.depth (p.spans - a.from) d.deep (omega (arith, d.drawable.few)),
      stretch-few p.depth (a.to - 0) d.deep (omega (arith, d.drawable.few)),
    )

pub returns : goal.returns
unfolding fills_ends
returns c =
    let d = c.args.draft.now in
    let w = per_span d.plan.depth in
    let first : List ℤ → Outcome ℕ (List ℤ) = λ l. fills d.plan d.controls.now (0 * w) ((c.args.to - 0) * w + 2) l in
    ap (λ (o : Outcome ℕ (List ℤ)). outcome (c.fill_stretch-last.result + o.answer) o.held) c.fill_stretch.ensures
    ∙ ap (λ (o : Outcome ℕ (List ℤ)). outcome (o.answer + (first o.held).answer) (first o.held).held) c.fill_stretch-last.ensures
