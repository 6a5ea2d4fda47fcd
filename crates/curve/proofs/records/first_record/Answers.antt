-- The definition is the code's product.
use mathlib.Core.Path.{ap}
use Prim.Native.Nat.{ℕ, ◌*◌}
use Rattle.curve.specs.Span.{first_record}
use Rattle.curve.proofs.records.first_record.Goals as goal

pub returns : goal.returns
unfolding first_record
returns c = ap (λ (d : ℕ). d * c.args.span) c.stride_of.ensures
