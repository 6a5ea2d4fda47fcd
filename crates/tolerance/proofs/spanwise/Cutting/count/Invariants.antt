-- What is left to walk, from the cuts made so far, is the whole walk.
use Rattle.std.proofs.Common.{◌≡◌, ◌≤◌, ◌-◌}
use Rattle.curve.specs.Tab.{tab}
use Rattle.pieces.specs.Walk.{walk_all}
use Rattle.tolerance.specs.Reading.{tree_of, walk_of}
use Rattle.tolerance.proofs.spanwise.Cutting.count.Given as goal

abbrev pub invariant-loop-span : goal.invariant-loop-span
invariant-loop-span l =
    let f = l.fn in
    (l.span ≤ f.self.draft.plan.spans) × (walk_all f.most l.made (tab (tree_of f.self.draft.plan f.self.tolerance f.self.draft.controls.now) l.span (f.self.draft.plan.spans - l.span)) ≡ walk_of f.self.draft.plan f.self.tolerance f.most f.self.draft.controls.now)
