-- The parts of two small files, computed. First a B-spline of two spans at depth 0, whose points are 6, 12 and 18 on x. The middle one, where the spans meet, is listed once, and the last is listed.
use Rattle.std.specs.Prelude.{Ok}
use mathlib.Core.Path.{◌≡◌, refl}
use mathlib.Core.List.{List, [], ◌∷◌}
use lib.IntN.{ℤ, pos}
use Rattle.whole.specs.Nearest.{half_up, nearest}
use Rattle.curve.specs.Tab.{tab}
use Rattle.curve.specs.Four.{dot}
use Rattle.curve.specs.Published.{weights}
use Rattle.curve.specs.Span.{coordinate, first_record, round_end, records_from, whole_controls, weighted}
use Rattle.shape.specs.declared.Shape.{Shape}
use Rattle.shape.specs.Shape.{sixty_fourths, basis_of, spans_of, records_of, allowed, points_of}
use Rattle.shape.specs.Refusals.{judge, judge_shape, outside, seek, plan_of}
use Rattle.spans.specs.Numbers.{sum_of, number}
use Rattle.outline.specs.Outline.{draws}
use Rattle.listing.specs.Decimal.{natural_in, natural}
use Rattle.file_list.specs.Parts.{own_records, records_text, part_text, parts_of}

-- records (0,0), (6,0), (12,0), (18,0), (24,0)
abbrev held : List ℤ
held = pos 0 ∷ pos 0 ∷ pos 6 ∷ pos 0 ∷ pos 12 ∷ pos 0 ∷ pos 18 ∷ pos 0 ∷ pos 24 ∷ pos 0 ∷ []

abbrev shape : Shape
shape = record { basis = 2; depth = 0; count = 5; parameter = 0 }

-- "2 0 2 3"; "0 6 0"; "1 12 0" and "2 18 0"; and nothing more
pub two-spans :
    (parts_of (Ok shape) ≡ 3)
    × (part_text (Ok shape) held 0 ≡ 50 ∷ 32 ∷ 48 ∷ 32 ∷ 50 ∷ 32 ∷ 51 ∷ 10 ∷ [])
    × (part_text (Ok shape) held 1 ≡ 48 ∷ 32 ∷ 54 ∷ 32 ∷ 48 ∷ 10 ∷ [])
    × (part_text (Ok shape) held 2 ≡ 49 ∷ 32 ∷ 49 ∷ 50 ∷ 32 ∷ 48 ∷ 10 ∷ 50 ∷ 32 ∷ 49 ∷ 56 ∷ 32 ∷ 48 ∷ 10 ∷ [])
    × (part_text (Ok shape) held 3 ≡ [])
unfolding judge_shape judge own_records records_text draws sixty_fourths basis_of spans_of records_of allowed outside seek plan_of points_of coordinate first_record records_from whole_controls weighted weights dot nearest half_up sum_of number tab natural natural_in
two-spans = (refl, refl, refl, refl, refl)

-- The parts of a loop (document 02, request 8): records (0,0), (12,0), (12,12), (0,12) at depth 0. The last two spans take up the first records again, and the last point is the first.
abbrev round : List ℤ
round = pos 0 ∷ pos 0 ∷ pos 12 ∷ pos 0 ∷ pos 12 ∷ pos 12 ∷ pos 0 ∷ pos 12 ∷ []

abbrev ring : Shape
ring = record { basis = 5; depth = 0; count = 4; parameter = 0 }

-- "5 0 4 5"; "0 10 2"; "1 10 10"; "2 2 10"; "3 2 2" and "4 10 2"; and nothing more
pub four-round :
    (parts_of (Ok ring) ≡ 5)
    × (part_text (Ok ring) round 0 ≡ 53 ∷ 32 ∷ 48 ∷ 32 ∷ 52 ∷ 32 ∷ 53 ∷ 10 ∷ [])
    × (part_text (Ok ring) round 1 ≡ 48 ∷ 32 ∷ 49 ∷ 48 ∷ 32 ∷ 50 ∷ 10 ∷ [])
    × (part_text (Ok ring) round 2 ≡ 49 ∷ 32 ∷ 49 ∷ 48 ∷ 32 ∷ 49 ∷ 48 ∷ 10 ∷ [])
    × (part_text (Ok ring) round 3 ≡ 50 ∷ 32 ∷ 50 ∷ 32 ∷ 49 ∷ 48 ∷ 10 ∷ [])
    × (part_text (Ok ring) round 4 ≡ 51 ∷ 32 ∷ 50 ∷ 32 ∷ 50 ∷ 10 ∷ 52 ∷ 32 ∷ 49 ∷ 48 ∷ 32 ∷ 50 ∷ 10 ∷ [])
    × (part_text (Ok ring) round 5 ≡ [])
unfolding judge_shape judge own_records records_text draws sixty_fourths basis_of spans_of records_of allowed outside seek plan_of points_of coordinate first_record round_end records_from whole_controls weighted weights dot nearest half_up sum_of number tab natural natural_in
four-round = (refl, refl, refl, refl, refl, refl, refl)
