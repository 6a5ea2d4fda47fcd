-- The parameter of a cardinal curve (document 02, request 7): the same shape with another one; document 01's cardinal curve, at one half; and document 01's record file, which had no parameter. Definitions only.
use Rattle.std.specs.Prelude.{not, ◌&&◌, List, [], ◌∷◌, ◌++◌, ℕ, zero, suc, ◌*◌, ◌-◌, ◌/◌, ◌%◌, ◌^◌, min, eqb, ℤ, pos, ◌+ℤ◌, ◌-ℤ◌, ◌*ℤ◌, length, Err, Ok, Result}
use Rattle.std.proofs.lemmas.List.Edits.{sets}
use Rattle.whole.specs.Nearest.{nearest, remainder}
use Rattle.whole.specs.Outcome.{Outcome, outcome, refuses}
use Rattle.curve.specs.declared.Four.{Four}
use Rattle.curve.specs.Four.{four}
use Rattle.curve.specs.Span.{coordinate, records_from, weighted}
use Rattle.shape.specs.declared.Shape.{Shape}
use Rattle.shape.specs.Refusals.{Row, row, judge, basis_row, depth_row, count_row}
use Rattle.record_file.specs.Format.{byte, numbers}
use Rattle.record_file.specs.Rows.{length_rows, list_rows, record_count}
use Rattle.edit.specs.declared.Change.{Change}
use Rattle.shape.specs.declared.Refusal.{Refusal}

abbrev pub with_parameter : ℕ → Shape → Shape
with_parameter c s = record { basis = s.basis; depth = s.depth; count = s.count; parameter = c }

-- What an edit comes to, with the parameter of its answer left out.
abbrev pub without : Result Change Refusal → Result Change Refusal
without (Ok c) = Ok (record { shape = with_parameter 0 c.shape; first = c.first; fresh = c.fresh; exact = c.exact })
without (Err r) = Err r

abbrev pub but_parameter : Outcome (Result Change Refusal) (List ℤ × List ℤ) → Outcome (Result Change Refusal) (List ℤ × List ℤ)
but_parameter o = outcome (without o.answer) o.held

-- ---- document 01's cardinal curve ("The curve, exactly")

-- Six times the four Bezier controls.
unfoldable pub half_controls : Four → Four
half_controls p = four (pos 6 *ℤ p.b) (pos 6 *ℤ p.b +ℤ p.c -ℤ p.a) (pos 6 *ℤ p.c -ℤ p.d +ℤ p.b) (pos 6 *ℤ p.c)

-- The exact sum of number q of an outline of m spans at depth k, over 6 · 2^(3k): span s uses the records from s on.
unfoldable pub half_sum : ℕ → ℕ → List ℤ → ℕ → ℤ
half_sum k m controls q =
    let g = q / 2 in
    let s = min (g / 2 ^ k) (m - 1) in
    weighted (half_controls (records_from s (coordinate controls (q % 2)))) (pos (g - s * 2 ^ k)) (pos (2 ^ k))

abbrev pub half_number : ℕ → ℕ → List ℤ → ℕ → ℤ
half_number k m controls q = nearest (half_sum k m controls q) (6 * 2 ^ (3 * k))

abbrev pub half_remainder : ℕ → ℕ → List ℤ → ℕ → ℤ
half_remainder k m controls q = remainder (half_sum k m controls q) (6 * 2 ^ (3 * k))

-- ---- document 01's record file

-- 14: bytes 2 and 3 not both zero. 15: basis or depth unlike record 0.
abbrev pub old_zeros_row : List ℕ → ℕ → Row
old_zeros_row file r = row (not (eqb (byte file r 2) 0 && eqb (byte file r 3) 0)) 14 r

abbrev pub old_alike_row : List ℕ → ℕ → Row
old_alike_row file r = row (not (eqb (byte file r 0) (byte file 0 0) && eqb (byte file r 1) (byte file 0 1))) 15 r

unfoldable pub old_record_rows : List ℕ → ℕ → ℕ → List Row
old_record_rows file r zero = []
old_record_rows file r (suc n) = old_zeros_row file r ∷ old_alike_row file r ∷ old_record_rows file (suc r) n

-- Then 1, 2, 3 for the shape, which is one with parameter 0, and 7, 8. Rows 1 and 2 are those of today, with the basis and the depths that came with requests 8 and 10.
abbrev pub old_shape : List ℕ → ℕ → Shape
old_shape file n = record { basis = byte file 0 0; depth = byte file 0 1; count = n; parameter = 0 }

abbrev pub old_rows : List ℕ → List ℤ → List Row
old_rows file controls =
    let n = record_count file in
    let s = old_shape file n in
    length_rows (length file) ++ (old_record_rows file 0 n ++ (basis_row s ∷ depth_row s ∷ count_row s ∷ list_rows file n controls))

abbrev pub old_reading : List ℕ → List ℤ → Outcome (Result Shape Refusal) (List ℤ)
old_reading file controls =
    let n = record_count file in
    judge (old_rows file controls) (refuses Err controls) (outcome (Ok (old_shape file n)) (sets controls 0 (numbers file n)))
