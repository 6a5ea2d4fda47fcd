-- For contracts inside the project alone: no public contract uses what is here. A record is the list of its 12 bytes.
use Rattle.std.specs.Prelude.{Bool, not, ◌&&◌, ◌||◌, List, [], ◌∷◌, ℕ, eqb, get_or}
use Rattle.curve.specs.Limits.{beyond, limit}
use Rattle.shape.specs.Refusals.{Row, row, limits_row}
use Rattle.record_file.specs.Format.{word, signed, numbers}
use Rattle.record_file.specs.Rows.{zeros_row}

-- Basis, depth or parameter of one record unlike another's.
unfoldable pub unlike : List ℕ → List ℕ → Bool
unlike bytes first = not (eqb (get_or bytes 0 0) (get_or first 0 0) && (eqb (get_or bytes 1 0) (get_or first 1 0) && eqb (get_or bytes 2 0) (get_or first 2 0)))

-- Rows 14 and 15 of the record at a place.
abbrev pub rows_of : List ℕ → List ℕ → ℕ → List Row
rows_of bytes first place = row (zeros_row bytes 0).holds 14 place ∷ row (unlike bytes first) 15 place ∷ []

-- A coordinate of a record outside the limits.
unfoldable pub strays : List ℕ → Bool
strays bytes = beyond limit (signed (word bytes 4)) || beyond limit (signed (word bytes 8))

-- Row 8, of the first n records of a file.
abbrev pub limits_rows : List ℕ → ℕ → List Row
limits_rows file n = limits_row n (numbers file n) ∷ []
