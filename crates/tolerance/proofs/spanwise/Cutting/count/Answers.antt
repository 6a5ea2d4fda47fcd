-- A turn takes the next span's tree off the walk.
use Rattle.std.specs.Prelude.{Result, Err}
use mathlib.Core.Path.{◌≡◌, sym, ap, ◌∙◌, subst}
use Prim.Native.Nat.{ℕ, ◌+◌, ◌-◌}
use native.Mathlib.Omega.{arith}
use borrow.Author.Rules.{rules}
use Rattle.curve.specs.Tab.{tab}
use Rattle.pieces.specs.declared.Piece.{Piece}
use Rattle.pieces.specs.declared.Uncut.{Uncut}
use Rattle.pieces.specs.Inner.{Walkable}
use Rattle.pieces.specs.Walk.{and_then, walk, walk_all}
use Rattle.tolerance.specs.Reading.{tree_of, walk_of}
use Rattle.tolerance.proofs.Left.{span-walkable, same_span, walk-next, walk-done}
use Rattle.tolerance.proofs.spanwise.Cutting.count.Goals as goal
use Rattle.tolerance.proofs.spanwise.Cutting.count.Goals.{After-count_cuts}

pub count_cuts-requires : goal.count_cuts-requires
count_cuts-requires c =
    let a = c.args in
    subst (λ (q : Piece). Walkable a.self.now.draft.plan.basis q.level q.x q.y) (sym c.whole_span-piece.ensures) (span-walkable a.self.now.draft.plan a.self.now.draft.controls.now a.self.now.draft.drawable c.loop-span.span c.loop-span-test.true)

-- the whole walk goes on from what this span's came to
module _ (c : After-count_cuts) where
  abbrev on : ℕ → Result ℕ Uncut
  on n = let a = c.args in walk_all a.most n (tab (tree_of a.self.now.draft.plan a.self.now.tolerance a.self.now.draft.controls.now) (c.loop-span.span + 1) (a.self.now.draft.plan.spans - (c.loop-span.span + 1)))

  walked_on : and_then c.count_cuts.result on ≡ walk_of c.args.self.now.draft.plan c.args.self.now.tolerance c.args.most c.args.self.now.draft.controls.now
  walked_on =
      let a = c.args in
      let l = c.loop-span in
      ap (λ w. and_then w on) (c.count_cuts.ensures ∙ ap (walk a.most l.made) (same_span a.self.now.draft.plan a.self.now.tolerance a.self.now.draft.controls.now l.span c.whole_span-piece.ensures))
      ∙ sym (walk-next (tree_of a.self.now.draft.plan a.self.now.tolerance a.self.now.draft.controls.now) a.most l.made l.span a.self.now.draft.plan.spans c.loop-span-test.true)
      ∙ l.invariant.1

pub returns-in_err-made : goal.returns-in_err-made
returns-in_err-made c =
    let w = c.before.before.before in
    let out : c.from_residual.result ≡ Err c.in_err-made.field-0.0 = search rules in
    out ∙ sym (ap (λ w'. and_then w' (on w)) c.in_err-made.was) ∙ walked_on w

pub loop-span-preserved : goal.loop-span-preserved
loop-span-preserved c =
    let w = c.before.before in
    (omega arith, sym (ap (λ w'. and_then w' (on w)) c.in_ok-made.was) ∙ walked_on w)

pub returns : goal.returns
returns c =
    let a = c.args in
    let l = c.loop-span in
    sym (walk-done (tree_of a.self.now.draft.plan a.self.now.tolerance a.self.now.draft.controls.now) a.most l.made l.span a.self.now.draft.plan.spans (omega arith)) ∙ l.invariant.1
