-- Where the chosen points stand on the outline: at which steps of the finest depth, counted from its start, so step 64·s + i is span s at t = i / 64, as the even outline at depth 6 has it.
-- Definitions only.
use Rattle.std.specs.Prelude.{List, [], ◌∷◌, ◌++◌, ℕ, suc, ◌*◌, ◌^◌, ℤ}
use Rattle.shape.specs.declared.Shape.{Shape}
use Rattle.shape.specs.declared.Plan.{Plan}
use Rattle.shape.specs.Depth.{shape_at, plan_at}
use Rattle.pieces.specs.Tree.{finest, Tree}
use Rattle.pieces.specs.Steps.{steps_in}
use Rattle.tolerance.specs.Reading.{trees_of}

-- Of trees, the first of them that of span s.
unfoldable pub steps_from : ℕ → List Tree → List ℕ
steps_from s [] = []
steps_from s (t ∷ trees) = steps_in finest (s * 2 ^ finest) t ++ steps_from (suc s) trees

-- Of a plan: the starts of its pieces, and the last end.
abbrev pub steps_along : Plan → ℕ → List ℤ → List ℕ
steps_along p tolerance controls = steps_from 0 (trees_of p tolerance controls) ++ (p.spans * 2 ^ finest ∷ [])

-- The same shape at the finest depth: its even outline has a point at every step.
abbrev pub finest_shape : Shape → Shape
finest_shape s = shape_at finest s

abbrev pub finest_plan : Plan → Plan
finest_plan p = plan_at finest p
