-- For contracts inside the project alone: no public contract uses what is here.
-- What a caller knows once the walk has found every piece flat or cut.
use Rattle.std.specs.Prelude.{List, ℕ, ◌<◌, ℤ}
use Rattle.shape.specs.declared.Plan.{Plan}
use Rattle.pieces.specs.Tree.{Sound}
use Rattle.tolerance.specs.Reading.{tree_of}

-- The walk has found every piece of a plan's spans flat or cut.
abbrev pub AllSound : Plan → ℕ → List ℤ → Type 0
AllSound p tolerance controls = (s : ℕ) → s < p.spans → Sound (tree_of p tolerance controls s)
