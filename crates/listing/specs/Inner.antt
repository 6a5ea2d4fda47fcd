-- For contracts inside the project alone: no public contract uses what is here.
-- Words of the contracts that the crate's own functions have among themselves. Definitions only.
use Rattle.std.specs.Prelude.{ℕ, suc, ◌≤◌, ◌<◌, List, [], ◌∷◌, ◌++◌, ℤ, pos, length, slice_index_or}
use Rattle.listing.specs.Listing.{point_line}

-- a first line has a number, and no more than five
abbrev pub most_numbers : ℕ
most_numbers = 5

pub record Heads (numbers : List ℕ) : Type 0 where
  pub some : 0 < length numbers
  pub few : length numbers ≤ most_numbers

-- a line for each point, of a list of their pairs, x then y: the first of them with the given number
abbrev pub pair_lines : ℕ → List (List ℤ) → List ℕ
pair_lines number [] = []
pair_lines number (pair ∷ pairs) = point_line number (slice_index_or pair 0 (pos 0)) (slice_index_or pair 1 (pos 0)) ++ pair_lines (suc number) pairs
