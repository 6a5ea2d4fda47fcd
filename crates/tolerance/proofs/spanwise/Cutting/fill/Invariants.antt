-- What is left to write, after what is written, makes the whole.
use Rattle.std.proofs.Common.{◌≡◌, ◌≤◌, ◌+◌, length}
use Rattle.pieces.specs.Inner.{writes}
use Rattle.tolerance.specs.Reading.{values_of}
use Rattle.tolerance.proofs.Left.{rest, unfilled}
use Rattle.tolerance.proofs.spanwise.Cutting.fill.Given as goal

abbrev pub invariant-loop-span : goal.invariant-loop-span
invariant-loop-span l =
    let f = l.fn in
    (l.span ≤ f.self.draft.plan.spans)
    × (l.filled.exact ≤ l.filled.next)
    × (l.filled.next + length (rest f.self.draft.plan f.self.tolerance f.self.draft.controls.now l.span) ≤ length l.points)
    × (length l.points ≡ length f.points)
    × (writes (rest f.self.draft.plan f.self.tolerance f.self.draft.controls.now l.span) l.filled l.points ≡ writes (values_of f.self.draft.plan f.self.tolerance f.self.draft.controls.now) unfilled f.points)
