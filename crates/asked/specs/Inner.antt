-- For contracts inside the project alone: no public contract uses what is here.
-- What making an edit's controls in the lent list needs of it: n records, the place in its range, and room for the greater of the two counts in a list of `len` numbers.
use Rattle.std.specs.Prelude.{ℕ, ◌+◌, ◌*◌, ◌≤◌, ◌<◌}
use Rattle.asked.specs.declared.Edit.{Edit}
use Rattle.asked.specs.declared.Edit.TheVariants.{Move, Insert, Remove}

abbrev pub Askable : Edit → ℕ → ℕ → ℕ → Type 0
Askable (Move x y) j n len = (j < n) × (2 * n ≤ len)
Askable (Insert x y) j n len = (j ≤ n) × (2 * n + 2 ≤ len)
Askable Remove j n len = (j < n) × (2 * n ≤ len)
