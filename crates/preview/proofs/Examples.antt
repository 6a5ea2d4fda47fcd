-- Previews small enough to be read by computation alone: half a micrometre, a quarter of minus one, and zero as positive zero.
use Rattle.std.specs.Prelude.{Err, Ok}
use mathlib.Core.Path.{◌≡◌, refl}
use mathlib.Core.Bool.{true, false}
use mathlib.Core.List.{List, [], ◌∷◌}
use lib.IntN.{ℤ, pos, negsuc}
use lib.Ieee.{Float, nan, fin, round}
use lib.ListN.{replicate}
use Rattle.whole.specs.Outcome.{outcome, refuses}
use Rattle.curve.specs.Tab.{tab}
use Rattle.curve.specs.Four.{dot}
use Rattle.curve.specs.Published.{weights}
use Rattle.curve.specs.Span.{coordinate, first_record, records_from, weighted}
use Rattle.shape.specs.Shape.{sixty_fourths, basis_of, spans_of, records_of, allowed, points_of}
use Rattle.shape.specs.Refusals.{judge, outside, seek, plan_of}
use Rattle.doubles.specs.Exact.{dyadic}
use Rattle.preview.specs.Preview.{sum, value, previewing}

-- x is 0, 0, 0, 4 and y is 0, 0, 0, -2
abbrev controls : List ℤ
controls = pos 0 ∷ pos 0 ∷ pos 0 ∷ pos 0 ∷ pos 0 ∷ pos 0 ∷ pos 4 ∷ negsuc 1 ∷ []

abbrev zero : Float
zero = fin false 0 (pos 0)

pub halves-drawn :
    previewing (record { basis = 1; depth = 1; count = 4; parameter = 0 }) controls (replicate 7 nan)
    ≡ outcome (Ok 3) (zero ∷ zero ∷ fin false 1 (negsuc 0) ∷ fin true 1 (negsuc 1) ∷ fin false 1 (pos 2) ∷ fin true 1 (pos 1) ∷ nan ∷ [])
unfolding previewing judge value sum weighted weights dot tab coordinate first_record records_from sixty_fourths basis_of spans_of records_of allowed points_of plan_of outside seek dyadic round
halves-drawn = refl

pub other-basis : previewing (record { basis = 2; depth = 1; count = 4; parameter = 0 }) controls (replicate 6 nan) ≡ refuses Err (replicate 6 nan) (record { number = 4; place = 0 })
unfolding previewing judge sixty_fourths basis_of spans_of records_of allowed plan_of
other-basis = refl

-- document 02, request 7: 24 comes before 4, and only for basis 3
pub parameter-first :
    previewing (record { basis = 3; depth = 1; count = 4; parameter = 65 }) controls (replicate 6 nan) ≡ refuses Err (replicate 6 nan) (record { number = 24; place = 0 })
unfolding previewing judge sixty_fourths basis_of spans_of records_of allowed plan_of
parameter-first = refl

pub parameter-fine :
    previewing (record { basis = 3; depth = 1; count = 4; parameter = 64 }) controls (replicate 6 nan) ≡ refuses Err (replicate 6 nan) (record { number = 4; place = 0 })
unfolding previewing judge sixty_fourths basis_of spans_of records_of allowed plan_of
parameter-fine = refl
