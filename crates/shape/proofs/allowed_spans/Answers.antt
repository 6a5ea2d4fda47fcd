-- There are no more spans than records, and no more than 64 of those.
use Prim.Native.Nat.{◌≤◌}
use native.Mathlib.Omega.{arith}
use borrow.Author.Rules.{rules}
use Rattle.shape.specs.Shape.{most_records}
use Rattle.shape.proofs.Spans.{spans-at-most}
use Rattle.shape.proofs.allowed_spans.Goals as goal

pub records_of-requires : goal.records_of-requires
records_of-requires c =
    let a = c.args in
    let few : a.count ≤ most_records = search rules in
    omega (arith, few, c.spans_of-spans.ensures, spans-at-most a.basis a.count)
