-- The same shape, and the same plan, at another depth. Definitions only.
use Rattle.std.specs.Prelude.{ℕ}
use Rattle.shape.specs.declared.Shape.{Shape}
use Rattle.shape.specs.declared.Plan.{Plan}

abbrev pub shape_at : ℕ → Shape → Shape
shape_at k s = record { basis = s.basis; depth = k; count = s.count; parameter = s.parameter }

abbrev pub plan_at : ℕ → Plan → Plan
plan_at k p = record { basis = p.basis; depth = k; spans = p.spans }
