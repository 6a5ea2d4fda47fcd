-- Document 01's own file and its listing, and a loop's, by computation alone.
use mathlib.Core.Path.{◌≡◌, refl}
use mathlib.Core.List.{List, [], ◌∷◌}
use Prim.Native.Nat.{ℕ}
use Rattle.whole.specs.Nearest.{half_up, nearest}
use Rattle.curve.specs.Tab.{tab}
use Rattle.curve.specs.Four.{dot}
use Rattle.curve.specs.Published.{weights}
use Rattle.curve.specs.Span.{coordinate, first_record, round_end, records_from, whole_controls, weighted, point}
use Rattle.shape.specs.Shape.{sixty_fourths, basis_of, spans_of, records_of, allowed, points_of}
use Rattle.shape.specs.Refusals.{judge, outside, seek, plan_of}
use Rattle.spans.specs.Numbers.{sum_of, number}
use Rattle.outline.specs.Outline.{draws}
use Rattle.curve.specs.Bend.{bend}
use Rattle.curve.specs.Ways.{left_half, right_half}
use Rattle.pieces.specs.Tree.{is_flat, tree, cuts, all_cuts}
use Rattle.pieces.specs.Walk.{walk, walk_all}
use Rattle.pieces.specs.Values.{starts, all_starts}
use Rattle.tolerance.specs.Reading.{tree_of, chooses}
use Rattle.record_file.specs.Format as format
use Rattle.record_file.specs.Format.{word, signed}
use Rattle.record_file.specs.Rows.{record_rows, reading}
use Rattle.listing.specs.Decimal.{natural_in, natural}
use Rattle.listing.specs.Listing.{outline_text, chosen_text}
use Rattle.file_list.specs.Files.{even_text, by_tolerance, text_by, file_text, cut_file_text}

-- basis 1, depth 1 and records (0,0), (0,8), (8,8), (8,0)
abbrev pub file : List ℕ
file =
    1 ∷ 1 ∷ 0 ∷ 0 ∷ 0 ∷ 0 ∷ 0 ∷ 0 ∷ 0 ∷ 0 ∷ 0 ∷ 0
    ∷ 1 ∷ 1 ∷ 0 ∷ 0 ∷ 0 ∷ 0 ∷ 0 ∷ 0 ∷ 8 ∷ 0 ∷ 0 ∷ 0
    ∷ 1 ∷ 1 ∷ 0 ∷ 0 ∷ 8 ∷ 0 ∷ 0 ∷ 0 ∷ 8 ∷ 0 ∷ 0 ∷ 0
    ∷ 1 ∷ 1 ∷ 0 ∷ 0 ∷ 8 ∷ 0 ∷ 0 ∷ 0 ∷ 0 ∷ 0 ∷ 0 ∷ 0
    ∷ []

-- "0 0 0", "1 4 6", "2 8 0", a line each
abbrev lines : List ℕ
lines =
    48 ∷ 32 ∷ 48 ∷ 32 ∷ 48 ∷ 10
    ∷ 49 ∷ 32 ∷ 52 ∷ 32 ∷ 54 ∷ 10
    ∷ 50 ∷ 32 ∷ 56 ∷ 32 ∷ 48 ∷ 10
    ∷ []

-- "1 1 1 3" before them
abbrev pub listing : List ℕ
listing = 49 ∷ 32 ∷ 49 ∷ 32 ∷ 49 ∷ 32 ∷ 51 ∷ 10 ∷ lines

pub paper-listed : file_text file ≡ listing
unfolding text_by reading judge record_rows format.number sum_of number word signed tab coordinate sixty_fourths basis_of spans_of records_of allowed outside seek plan_of points_of even_text draws first_record records_from whole_controls weighted weights dot nearest half_up point outline_text natural natural_in
paper-listed = refl

-- The same file by tolerance. Its second differences are 8 on both axes, and 2 once it is cut. At tolerance 6 it is flat: "1 6 1 2 0", "0 0 0", "1 8 0". At 5 it is cut once, at its
-- middle, "1 5 1 3 1" and the lines above; where no cut may be made that is refused, "refused 22 0".
pub paper-cut :
    (cut_file_text 6 0 file ≡ 49 ∷ 32 ∷ 54 ∷ 32 ∷ 49 ∷ 32 ∷ 50 ∷ 32 ∷ 48 ∷ 10 ∷ 48 ∷ 32 ∷ 48 ∷ 32 ∷ 48 ∷ 10 ∷ 49 ∷ 32 ∷ 56 ∷ 32 ∷ 48 ∷ 10 ∷ [])
    × (cut_file_text 5 1 file ≡ 49 ∷ 32 ∷ 53 ∷ 32 ∷ 49 ∷ 32 ∷ 51 ∷ 32 ∷ 49 ∷ 10 ∷ lines)
    × (cut_file_text 5 0 file ≡ 114 ∷ 101 ∷ 102 ∷ 117 ∷ 115 ∷ 101 ∷ 100 ∷ 32 ∷ 50 ∷ 50 ∷ 32 ∷ 48 ∷ 10 ∷ [])
unfolding text_by reading judge record_rows format.number word signed tab coordinate sixty_fourths basis_of spans_of records_of allowed outside seek plan_of by_tolerance chooses tree_of tree is_flat bend left_half right_half cuts all_cuts starts all_starts walk walk_all first_record records_from whole_controls nearest half_up chosen_text natural natural_in
paper-cut = (refl, refl, refl)

-- A loop's file (document 02, request 8): basis 5, depth 0 and records (0,0), (12,0), (12,12), (0,12). It has as many spans as records, and ends where it starts.
abbrev ring : List ℕ
ring =
    5 ∷ 0 ∷ 0 ∷ 0 ∷ 0 ∷ 0 ∷ 0 ∷ 0 ∷ 0 ∷ 0 ∷ 0 ∷ 0
    ∷ 5 ∷ 0 ∷ 0 ∷ 0 ∷ 12 ∷ 0 ∷ 0 ∷ 0 ∷ 0 ∷ 0 ∷ 0 ∷ 0
    ∷ 5 ∷ 0 ∷ 0 ∷ 0 ∷ 12 ∷ 0 ∷ 0 ∷ 0 ∷ 12 ∷ 0 ∷ 0 ∷ 0
    ∷ 5 ∷ 0 ∷ 0 ∷ 0 ∷ 0 ∷ 0 ∷ 0 ∷ 0 ∷ 12 ∷ 0 ∷ 0 ∷ 0
    ∷ []

-- "5 0 4 5", and "0 10 2", "1 10 10", "2 2 10", "3 2 2", "4 10 2", a line each
pub loop-listed :
    file_text ring
    ≡ 53 ∷ 32 ∷ 48 ∷ 32 ∷ 52 ∷ 32 ∷ 53 ∷ 10
    ∷ 48 ∷ 32 ∷ 49 ∷ 48 ∷ 32 ∷ 50 ∷ 10
    ∷ 49 ∷ 32 ∷ 49 ∷ 48 ∷ 32 ∷ 49 ∷ 48 ∷ 10
    ∷ 50 ∷ 32 ∷ 50 ∷ 32 ∷ 49 ∷ 48 ∷ 10
    ∷ 51 ∷ 32 ∷ 50 ∷ 32 ∷ 50 ∷ 10
    ∷ 52 ∷ 32 ∷ 49 ∷ 48 ∷ 32 ∷ 50 ∷ 10
    ∷ []
unfolding text_by reading judge record_rows format.number sum_of number word signed tab coordinate sixty_fourths basis_of spans_of records_of allowed outside seek plan_of points_of even_text draws first_record round_end records_from whole_controls weighted weights dot nearest half_up point outline_text natural natural_in
loop-listed = refl
