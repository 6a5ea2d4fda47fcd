-- Closed loops (document 02, request 8), for a reader who has the open B-spline in hand. Definitions only.
use Rattle.std.specs.Prelude.{List, ◌++◌, ℕ, ◌*◌, ℤ, take}
use Rattle.curve.specs.declared.Basis.TheVariants.{BSpline}
use Rattle.shape.specs.declared.Plan.{Plan}

-- The n records of a loop with the first three repeated at the end: so 004, section 3.1.2, joins the ends of a B-spline of order 4, by its first 4 - 1 points again.
abbrev pub again : ℕ
again = 3

abbrev pub repeated : ℕ → List ℤ → List ℤ
repeated n controls = take (2 * n) controls ++ take (2 * again) controls

-- The open B-spline of those n + 3 records, at depth k: n spans.
abbrev pub opened : ℕ → ℕ → Plan
opened k n = record { basis = BSpline; depth = k; spans = n }
