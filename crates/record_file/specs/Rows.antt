-- What reading a record file answers and leaves: the refusal table's rows in the order of document 01 (3 for the length, 13, then record by record 14 and 15, then
-- 1, 2, 24, 3 for the shape, 7, 8), and one total reading over them. Definitions only.
use Rattle.std.specs.Prelude.{not, ◌&&◌, ◌||◌, List, [], ◌∷◌, ◌++◌, ℕ, zero, suc, ◌*◌, ◌/◌, ◌%◌, ltb, eqb, ℤ, pos, length, Err, Ok, Result}
use Rattle.std.proofs.lemmas.List.Edits.{sets}
use Rattle.whole.specs.Outcome.{Outcome, outcome, refuses}
use Rattle.shape.specs.declared.Shape.{Shape}
use Rattle.shape.specs.Shape.{cardinal, most_records}
use Rattle.shape.specs.Refusals.{Row, row, judge, shape_rows, controls_row, limits_row}
use Rattle.shape.specs.Exactly.{Told, Refuses, Accepts}
use Rattle.record_file.specs.Format.{record_bytes, byte, numbers}
use Rattle.shape.specs.declared.Refusal.{Refusal}

-- ---- rows 3 and 13: the length

-- 64 records, 768 bytes.
abbrev pub most_bytes : ℕ
most_bytes = most_records * record_bytes

abbrev pub length_row : ℕ → Row
length_row len = row (eqb len 0 || ltb most_bytes len) 3 0

abbrev pub whole_row : ℕ → Row
whole_row len = row (not (eqb (len % record_bytes) 0)) 13 0

abbrev pub length_rows : ℕ → List Row
length_rows len = length_row len ∷ whole_row len ∷ []

-- ---- rows 14 and 15: record by record

-- Byte 3 not zero, or byte 2, the parameter, where the record's own basis has none.
abbrev pub zeros_row : List ℕ → ℕ → Row
zeros_row file r = row (not (eqb (byte file r 3) 0) || (not (eqb (byte file r 2) 0) && not (eqb (byte file r 0) cardinal))) 14 r

-- Basis, depth or parameter unlike record 0.
abbrev pub alike_row : List ℕ → ℕ → Row
alike_row file r = row (not (eqb (byte file r 0) (byte file 0 0) && (eqb (byte file r 1) (byte file 0 1) && eqb (byte file r 2) (byte file 0 2)))) 15 r

-- The rows of n records from record r on.
unfoldable pub record_rows : List ℕ → ℕ → ℕ → List Row
record_rows file r zero = []
record_rows file r (suc n) = zeros_row file r ∷ alike_row file r ∷ record_rows file (suc r) n

-- ---- rows 1, 2, 24, 3 for the shape of the first record, then 7 for the lent controls and 8 for the file's own records

-- The shape of a file of n records.
abbrev pub shape_of : List ℕ → ℕ → Shape
shape_of file n = record { basis = byte file 0 0; depth = byte file 0 1; count = n; parameter = byte file 0 2 }

abbrev pub list_rows : List ℕ → ℕ → List ℤ → List Row
list_rows file n controls = controls_row n controls ∷ limits_row n (numbers file n) ∷ []

abbrev pub later_rows : List ℕ → ℕ → List ℤ → List Row
later_rows file n controls = shape_rows (shape_of file n) ++ list_rows file n controls

-- ---- the whole table, and the reading

abbrev pub record_count : List ℕ → ℕ
record_count file = length file / record_bytes

abbrev pub file_rows : List ℕ → List ℤ → List Row
file_rows file controls =
    let n = record_count file in
    length_rows (length file) ++ (record_rows file 0 n ++ later_rows file n controls)

-- n records are written from the start of the controls on, x then y, and all past them is kept.
abbrev pub accepts : List ℕ → ℕ → List ℤ → Outcome (Result Shape Refusal) (List ℤ)
accepts file n controls = outcome (Ok (shape_of file n)) (sets controls 0 (numbers file n))

unfoldable pub reading : List ℕ → List ℤ → Outcome (Result Shape Refusal) (List ℤ)
reading file controls = judge (file_rows file controls) (refuses Err controls) (accepts file (record_count file) controls)

-- What the answer tells: basis, depth, control count and parameter, or the refusal.
abbrev pub told : Result Shape Refusal → Told
told (Ok s) = Accepts (pos s.basis ∷ pos s.depth ∷ pos s.count ∷ pos s.parameter ∷ [])
told (Err r) = Refuses r
