-- A turn takes the next span's starts off what is left to write, and after the last one its end is left.
use mathlib.Core.Path.{◌≡◌, sym, ap, ◌∙◌, subst}
use mathlib.Core.List.{List, [], ◌∷◌}
use Prim.Native.Nat.{ℕ, ◌+◌, ◌*◌, ◌-◌, ◌≤◌, ◌<◌}
use native.Mathlib.Nat.{zero-add}
use native.Mathlib.Omega.{arith}
use lib.Dec.{lit<}
use lib.IntN.{ℤ, nat_abs}
use lib.ListN.{length, length-append}
use lib.Seq.{sets}
use mir.Syntax.{w64}
use Rattle.whole.specs.Outcome.{Outcome, outcome}
use Rattle.whole.proofs.Fit.{kept, kept-is, sfits}
use Rattle.curve.specs.Inner.{widest, far_reach, divisor_of, most_bits}
use Rattle.curve.proofs.Bits.{divisor-bits, bits_most}
use Rattle.curve.specs.Span.{divisor}
use Rattle.spans.specs.Inner.{rounds}
use Rattle.pieces.specs.declared.Filled.{Filled}
use Rattle.pieces.specs.declared.Piece.{Piece}
use Rattle.pieces.specs.Tree.{Tree, Sound}
use Rattle.pieces.specs.Values.{Value, starts, end, numbers, exact_of}
use Rattle.pieces.specs.Inner.{tree_at, writes, Walkable}
use Rattle.pieces.proofs.Writes.{onward, writes-append, writes-both, writes-next, writes-most}
use Rattle.tolerance.specs.Reading.{controls_of, tree_of, values_of}
use Rattle.tolerance.proofs.Left.{span-walkable, end-near, end-inside, same_span, starts-next, starts-done, rest, unfilled}
use Rattle.tolerance.proofs.spanwise.Cutting.fill.Goals as goal
use Rattle.tolerance.proofs.spanwise.Cutting.fill.Goals.{After-whole_span-piece, After-fill_starts-filled, After-divisor_bits-bits}

-- ---- a turn

module _ (c : After-whole_span-piece) where
  abbrev tree : Piece → Tree
  tree q = tree_at c.args.self.now.draft.plan.basis c.args.self.now.tolerance q.level q.x q.y

  same : tree c.whole_span-piece.result ≡ tree_of c.args.self.now.draft.plan c.args.self.now.tolerance c.args.self.now.draft.controls.now c.loop-span.span
  same = same_span c.args.self.now.draft.plan c.args.self.now.tolerance c.args.self.now.draft.controls.now c.loop-span.span c.whole_span-piece.ensures

  -- so many numbers are left: this span's and those after it
  left : length (rest c.args.self.now.draft.plan c.args.self.now.tolerance c.args.self.now.draft.controls.now c.loop-span.span)
      ≡ length (starts (divisor c.args.self.now.draft.plan.basis) (tree_of c.args.self.now.draft.plan c.args.self.now.tolerance c.args.self.now.draft.controls.now c.loop-span.span))
      + length (rest c.args.self.now.draft.plan c.args.self.now.tolerance c.args.self.now.draft.controls.now (c.loop-span.span + 1))
  left =
      let a = c.args in
      let f = tree_of a.self.now.draft.plan a.self.now.tolerance a.self.now.draft.controls.now in
      let e = end (divisor a.self.now.draft.plan.basis) (controls_of a.self.now.draft.plan a.self.now.draft.controls.now (a.self.now.draft.plan.spans - 1) 0) (controls_of a.self.now.draft.plan a.self.now.draft.controls.now (a.self.now.draft.plan.spans - 1) 1) in
      ap length (starts-next f (divisor a.self.now.draft.plan.basis) e c.loop-span.span a.self.now.draft.plan.spans c.loop-span-test.true)
      ∙ length-append (starts (divisor a.self.now.draft.plan.basis) (f c.loop-span.span)) (rest a.self.now.draft.plan a.self.now.tolerance a.self.now.draft.controls.now (c.loop-span.span + 1))

pub fill_starts-filled-requires-clause-walkable : goal.fill_starts-filled-requires-clause-walkable
fill_starts-filled-requires-clause-walkable c =
    let a = c.args in (
      subst (λ (q : Piece). Walkable a.self.now.draft.plan.basis q.level q.x q.y) (sym c.whole_span-piece.ensures) (span-walkable a.self.now.draft.plan a.self.now.draft.controls.now a.self.now.draft.drawable c.loop-span.span c.loop-span-test.true),
      subst Sound (sym (same c.before.before)) (c.requires.sound c.loop-span.span c.loop-span-test.true),
    )

pub fill_starts-filled-requires-clause-exact_le_next : goal.fill_starts-filled-requires-clause-exact_le_next
fill_starts-filled-requires-clause-exact_le_next c =
    let t = c.before.before in
    (c.loop-span.invariant.1, omega (arith, ap (λ r. length (starts (divisor c.args.self.now.draft.plan.basis) r)) (same t), left t, c.loop-span.invariant.2))

module _ (c : After-fill_starts-filled) where
  abbrev t : After-whole_span-piece
  t = c.before.before.before

  written : outcome c.fill_starts-filled.result c.fill_starts-filled.new.points
      ≡ writes (starts (divisor c.args.self.now.draft.plan.basis) (tree_of c.args.self.now.draft.plan c.args.self.now.tolerance c.args.self.now.draft.controls.now c.loop-span.span)) c.loop-span.filled c.loop-span.points
  written = c.fill_starts-filled.ensures ∙ ap (λ r. writes (starts (divisor c.args.self.now.draft.plan.basis) r) c.loop-span.filled c.loop-span.points) (same t)

  -- what is still to be written after it
  still : writes (rest c.args.self.now.draft.plan c.args.self.now.tolerance c.args.self.now.draft.controls.now (c.loop-span.span + 1)) c.fill_starts-filled.result c.fill_starts-filled.new.points
      ≡ writes (values_of c.args.self.now.draft.plan c.args.self.now.tolerance c.args.self.now.draft.controls.now) unfilled c.args.points.now
  still =
      let a = c.args in
      let l = c.loop-span in
      let f = tree_of a.self.now.draft.plan a.self.now.tolerance a.self.now.draft.controls.now in
      let d = divisor a.self.now.draft.plan.basis in
      let e = end d (controls_of a.self.now.draft.plan a.self.now.draft.controls.now (a.self.now.draft.plan.spans - 1) 0) (controls_of a.self.now.draft.plan a.self.now.draft.controls.now (a.self.now.draft.plan.spans - 1) 1) in
      let more = rest a.self.now.draft.plan a.self.now.tolerance a.self.now.draft.controls.now (l.span + 1) in
      ap (onward more) written
      ∙ writes-append (starts d (f l.span)) more l.filled l.points
      ∙ ap (λ values. writes values l.filled l.points) (sym (starts-next f d e l.span a.self.now.draft.plan.spans c.loop-span-test.true))
      ∙ l.invariant.4

pub loop-span-preserved : goal.loop-span-preserved
loop-span-preserved c =
    let f = c.before in (
      omega arith,
      writes-most _ _ _ _ (written f) c.loop-span.invariant.1,
      omega (arith, writes-next _ _ _ _ (written f), left (t f), c.loop-span.invariant.2, c.fill_starts-filled.auto.points),
      c.fill_starts-filled.auto.points ∙ c.loop-span.invariant.3,
      still f,
    )

-- ---- the end of the last span, when all starts are written

pub put_point-requires-clause-bits_le_most_bits : goal.put_point-requires-clause-bits_le_most_bits
put_point-requires-clause-bits_le_most_bits c = subst (λ (n : ℕ). n ≤ most_bits) (sym c.divisor_bits-bits.ensures) (bits_most c.args.self.now.draft.plan.basis 0 (omega arith))

module _ (c : After-divisor_bits-bits) where
  abbrev last : ℕ
  last = c.args.self.now.draft.plan.spans - 1

  here : last < c.args.self.now.draft.plan.spans
  here = omega (arith, c.args.self.now.draft.some)

  abbrev at : ℕ → ℤ
  at axis = (controls_of c.args.self.now.draft.plan c.args.self.now.draft.controls.now last axis).d

  -- the divisor by its bits
  over : divisor_of c.divisor_bits-bits.result ≡ divisor c.args.self.now.draft.plan.basis 0
  over = ap divisor_of c.divisor_bits-bits.ensures ∙ sym (divisor-bits c.args.self.now.draft.plan.basis 0)

  -- a last control as the machine keeps it
  kept_end : (axis : ℕ) → axis < 2 → kept w64 (at axis) ≡ at axis
  kept_end axis h =
      let a = c.args in
      kept-is w64 (at axis) (sfits w64 (at axis) widest (end-inside a.self.now.draft.plan a.self.now.draft.controls.now a.self.now.draft.drawable last here axis h) tt)

  end-x : kept w64 c.whole_span-last.result.x.d ≡ at 0
  end-x = ap (λ (q : Piece). kept w64 q.x.d) c.whole_span-last.ensures ∙ kept_end 0 (lit< tt)

  end-y : kept w64 c.whole_span-last.result.y.d ≡ at 1
  end-y = ap (λ (q : Piece). kept w64 q.y.d) c.whole_span-last.ensures ∙ kept_end 1 (lit< tt)

  near : (z : ℤ) (axis : ℕ) → axis < 2 → z ≡ at axis → nat_abs z ≤ divisor_of c.divisor_bits-bits.result * far_reach
  near z axis h e =
      let a = c.args in
      subst (λ (n : ℕ). nat_abs z ≤ n * far_reach) (sym over)
      (subst (λ w. nat_abs w ≤ divisor a.self.now.draft.plan.basis 0 * far_reach) (sym e) (end-near a.self.now.draft.plan a.self.now.draft.controls.now a.self.now.draft.drawable last here axis h))

pub put_point-requires-clause-x_bound : goal.put_point-requires-clause-x_bound
put_point-requires-clause-x_bound c = let d = c.before.before.before.before in (near d _ 0 (lit< tt) (end-x d), near d _ 1 (lit< tt) (end-y d))

pub returns : goal.returns
unfolding writes
returns c =
    let d = c.before.before.before.before.before in
    let a = c.args in
    let p = a.self.now.draft.plan in
    let l = c.loop-span in
    let x = end-x d in
    let y = end-y d in
    let ends : List Value = end (divisor p.basis) (controls_of p a.self.now.draft.controls.now (p.spans - 1) 0) (controls_of p a.self.now.draft.controls.now (p.spans - 1) 1) in
    let only-end : rest p a.self.now.tolerance a.self.now.draft.controls.now l.span ≡ ends = starts-done (tree_of p a.self.now.tolerance a.self.now.draft.controls.now) (divisor p.basis) ends l.span p.spans (omega arith) in
    let put = c.put_point.ensures ∙ (λ i. rounds (over d i) (x i ∷ y i ∷ []) l.filled.next l.filled.exact l.points) in
    let whole =
    writes-both (divisor p.basis 0) (at d 0) (at d 1) l.filled l.points (outcome c.put_point.result c.put_point.new.points) put
    ∙ ap (λ values. writes values l.filled l.points) (sym only-end)
    ∙ l.invariant.4 in
    ap (λ (o : Outcome Filled (List ℤ)). outcome o.answer.exact o.held) whole
    ∙ ap (λ (n : ℕ). outcome n (sets a.points.now 0 (numbers (values_of p a.self.now.tolerance a.self.now.draft.controls.now)))) (zero-add (exact_of (values_of p a.self.now.tolerance a.self.now.draft.controls.now)))
