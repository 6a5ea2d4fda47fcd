-- For contracts inside the crate alone: no public contract uses what is here.
use Rattle.std.specs.Prelude.{List, ◌≡◌, ℕ, ◌*◌, ◌<◌, ℤ, length, Option, Some, None}
use Rattle.curve.specs.declared.Basis.{Basis}
use Rattle.shape.specs.Shape.{least_records}
use Rattle.file_list.specs.Parts.{own_records}

-- The numbers of a span's four records.
abbrev pub own_numbers : ℕ
own_numbers = 2 * least_records

-- What copying the records of span i comes to: they are all there, or they are too few.
abbrev pub Copied : Basis → List ℤ → ℕ → Option (List ℤ) → Type 0
Copied b held i (Some own) = own ≡ own_records b held i
Copied b held i None = length (own_records b held i) < own_numbers
