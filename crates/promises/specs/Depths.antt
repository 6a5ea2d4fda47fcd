-- What a build with another deepest depth answers (document 02, request 10): document 01's build had 6, this one has `deepest`. Of the table of weights and of the refusals alone the deepest depth is a
-- part; a point's own definition has none. Definitions only.
use Rattle.std.specs.Prelude.{List, [], ◌∷◌, ◌++◌, ℕ, ◌+◌, ◌*◌, ◌-◌, ◌^◌, ltb, ℤ, pos, length, Err, Result}
use Rattle.whole.specs.Outcome.{Outcome, refuses}
use Rattle.whole.specs.Nearest.{nearest, remainder}
use Rattle.curve.specs.declared.Four.{Four}
use Rattle.curve.specs.declared.Basis.{Basis}
use Rattle.curve.specs.Span.{whole_controls, weighted, divisor}
use Rattle.shape.specs.declared.Shape.{Shape}
use Rattle.shape.specs.declared.Refusal.{Refusal}
use Rattle.shape.specs.Refusals.{Row, row, judge, basis_row, parameter_row, count_row, plan_of}
use Rattle.outline.specs.Outline as outline
use Rattle.record_file.specs.Rows as rows
use Rattle.record_file.specs.Rows.{record_count, length_rows, record_rows, shape_of}
use Rattle.file_list.specs.Files.{controls, points, drawn_text, read_text}
use Rattle.outline.specs.declared.Figures.{Figures}

-- ---- the table

-- Step i of depth k by the table of depth d, in which it is row i · 2^(d-k): the weighted sum, the number that it is rounded to over the table's own divisor, and what is left over.
abbrev pub sum_by : ℕ → Basis → ℕ → Four → ℕ → ℤ
sum_by d b k p i = weighted (whole_controls b p) (pos (i * 2 ^ (d - k))) (pos (2 ^ d))

abbrev pub number_by : ℕ → Basis → ℕ → Four → ℕ → ℤ
number_by d b k p i = nearest (sum_by d b k p i) (divisor b d)

abbrev pub remainder_by : ℕ → Basis → ℕ → Four → ℕ → ℤ
remainder_by d b k p i = remainder (sum_by d b k p i) (divisor b d)

-- ---- the refusals

-- Rows 1, 2, 24, 3 of a build whose deepest depth is d.
abbrev pub shape_rows_of : ℕ → Shape → List Row
shape_rows_of d s = basis_row s ∷ row (ltb d s.depth) 2 0 ∷ parameter_row s ∷ count_row s ∷ []

-- A call of such a build that has a shape: those rows, and then its own.
abbrev pub call_of : {A : Type 0} → ℕ → Shape → List Row → (Refusal → A) → A → A
call_of d s own refused accepted = judge (shape_rows_of d s ++ own) refused accepted

-- Reading a file: the same rows come after those of its length and its records.
abbrev pub reading_of : ℕ → List ℕ → List ℤ → Outcome (Result Shape Refusal) (List ℤ)
reading_of d file lent =
    let n = record_count file in
    judge (length_rows (length file) ++ (record_rows file 0 n ++ (shape_rows_of d (shape_of file n) ++ rows.list_rows file n lent))) (refuses Err lent) (rows.accepts file n lent)

-- ---- the listing that outline-list wrote

abbrev pub even_text_of : ℕ → Shape → List ℤ → List ℕ
even_text_of d s held =
    let lent = points d in
    let p = plan_of s in
    let o : Outcome (Result Figures Refusal) (List ℤ) = call_of d s (outline.plan_rows s.count p held lent) (refuses Err lent) (outline.accepts p held lent) in
    drawn_text s o.held o.answer

abbrev pub file_text_of : ℕ → List ℕ → List ℕ
file_text_of d file = let o = reading_of d file controls in read_text (even_text_of d) o.held o.answer
