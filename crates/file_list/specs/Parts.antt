-- The listing of a record file in parts, as outline-list writes it (document 02, request 10): the first line, and then the lines of one span after another. So no more than one span's points
-- and text is ever held. The point where two spans meet stands with the later one, and the last point with the last. A refusal is the only part. Definitions only.
use Rattle.std.specs.Prelude.{cond, List, [], ◌++◌, ℕ, zero, suc, ◌+◌, ◌*◌, ◌^◌, ltb, eqb, ℤ, pos, replicate, take, drop, Err, Ok, Result}
use Rattle.curve.specs.declared.Basis.{Basis}
use Rattle.curve.specs.Span.{first_record, record_at}
use Rattle.curve.specs.Ways.{deepest}
use Rattle.shape.specs.declared.Shape.{Shape}
use Rattle.shape.specs.declared.Plan.{Plan}
use Rattle.shape.specs.Shape.{b_spline, loop, least_records}
use Rattle.shape.specs.Refusals.{judge_shape}
use Rattle.outline.specs.Outline as outline
use Rattle.outline.specs.Outline.{draws}
use Rattle.listing.specs.Listing.{heading_text, point_lines}
use Rattle.file_list.specs.Files.{most_line, refused_text}
use Rattle.outline.specs.declared.Figures.{Figures}
use Rattle.shape.specs.declared.Refusal.{Refusal}

-- The number of the basis that a span has by itself: a loop's span is a B-spline's (document 02, request 8), and every other basis has its own.
abbrev pub alone_basis : ℕ → ℕ
alone_basis b = cond (eqb b loop) b_spline b

-- One span by itself: a shape of that basis and the same depth and parameter with a span's four records, and room for its points at the deepest.
abbrev pub one_span : Shape → Shape
one_span s = record { basis = alone_basis s.basis; depth = s.depth; count = least_records; parameter = s.parameter }

abbrev pub span_points : ℕ
span_points = 2 ^ deepest + 1

abbrev pub span_room : List ℤ
span_room = replicate (2 * span_points) (pos 0)

-- How many points span i lists: one for each of its steps, and the last span its end as well.
abbrev pub own_points : Plan → ℕ → ℕ
own_points p i = cond (eqb (i + 1) p.spans) (2 ^ p.depth + 1) (2 ^ p.depth)

-- The lines of those among its points that were drawn, numbered as in the outline.
abbrev pub span_lines : Plan → ℕ → List ℤ → Result Figures Refusal → List ℕ
span_lines p i held (Ok f) = point_lines (i * 2 ^ p.depth) (take (2 * own_points p i) held)
span_lines p i held (Err r) = []

-- The text of span i, whose four records come first in a list: they are drawn by themselves.
unfoldable pub records_text : Shape → Plan → List ℤ → ℕ → List ℕ
records_text s p records i = let o = draws (one_span s) records span_room in span_lines p i o.held o.answer

-- Record j of span i, as its basis counts them: x and y, or fewer where the list ends before.
abbrev pub own_record : Basis → List ℤ → ℕ → ℕ → List ℤ
own_record b held i j = take 2 (drop (2 * record_at b (first_record b i + j)) held)

-- Its four records. Where the list lacks one, they are too few to be drawn, and the span has no lines.
unfoldable pub own_records : Basis → List ℤ → ℕ → List ℤ
own_records b held i = own_record b held i 0 ++ (own_record b held i 1 ++ (own_record b held i 2 ++ own_record b held i 3))

-- The text of span i of an outline.
abbrev pub span_text : Shape → Plan → List ℤ → ℕ → List ℕ
span_text s p held i = records_text s p (own_records p.basis held i) i

-- The parts of an outline: part 0 is the first line, and part i + 1 is span i's.
abbrev pub outline_part : Shape → Plan → List ℤ → ℕ → List ℕ
outline_part s p held zero = heading_text s.basis s.depth p.spans (outline.points p)
outline_part s p held (suc i) = cond (ltb i p.spans) (span_text s p held i) []

-- A text that is the only part.
abbrev pub only_part : List ℕ → ℕ → List ℕ
only_part text zero = text
only_part text (suc i) = []

-- The parts of a shape that was judged, and how many there are.
abbrev pub shape_part : Shape → List ℤ → Result Plan Refusal → ℕ → List ℕ
shape_part s held (Ok p) i = outline_part s p held i
shape_part s held (Err r) i = only_part (refused_text r) i

abbrev pub shape_parts : Result Plan Refusal → ℕ
shape_parts (Ok p) = p.spans + 1
shape_parts (Err r) = 1

-- The parts of what reading a file came to, and how many there are.
abbrev pub part_text : Result Shape Refusal → List ℤ → ℕ → List ℕ
part_text (Ok s) held i = shape_part s held (judge_shape s) i
part_text (Err r) held i = only_part (refused_text r) i

abbrev pub parts_of : Result Shape Refusal → ℕ
parts_of (Ok s) = shape_parts (judge_shape s)
parts_of (Err r) = 1

-- n parts from part i on, one after another.
unfoldable pub joined : (ℕ → List ℕ) → ℕ → ℕ → List ℕ
joined part i zero = []
joined part i (suc n) = part i ++ joined part (suc i) n

-- Room for the longest part.
abbrev pub most_part : ℕ
most_part = most_line * span_points
