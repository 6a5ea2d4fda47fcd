-- P1 to P12 of document 01: one statement over one list of cases, computed from the definitions.
use mathlib.Core.Path.{◌≡◌, refl}
use mathlib.Core.List.{[], ◌∷◌, map}
use lib.IntN.{pos}
use Rattle.whole.specs.Nearest.{half_up, nearest, remainder}
use Rattle.curve.specs.Tab.{tab}
use Rattle.curve.specs.Four.{dot}
use Rattle.curve.specs.Published.{weights}
use Rattle.curve.specs.Span.{first_record, coordinate, records_from, whole_controls, weighted, point, round_end}
use Rattle.shape.specs.Shape.{sixty_fourths, basis_of, records_of, spans_of, last_using, allowed, points_of}
use Rattle.shape.specs.Refusals.{judge, seek, plan_of, outside}
use Rattle.spans.specs.Numbers.{sum_of, number, remainder_of, noughts, total}
use Rattle.outline.specs.Outline.{draws}
use Rattle.outline.specs.Cases.{on_x}
use Rattle.doubles.specs.Exact.{dyadic}
use Rattle.doubles.specs.Number.{within, measure}
use Rattle.edit.specs.Cases.{flat}
use Rattle.asked.specs.Edits.{asked, run_of, in_run, is_fresh, exact_fresh, point_at}
use Rattle.edit.specs.Reading.{edits}
use Rattle.promises.specs.Cases.{Case, cases, tauter, loops}
use Rattle.promises.specs.Parameters.{half_controls, half_sum, half_number}

-- for every case the definitions give what the paper gives
pub cases-hold : map (λ (c : Case). c.given) cases ≡ map (λ (c : Case). c.paper) cases
unfolding tab point whole_controls weighted weights dot nearest half_up first_record coordinate records_from sixty_fourths basis_of records_of spans_of last_using allowed points_of judge seek plan_of outside sum_of number remainder remainder_of noughts draws on_x dyadic within measure asked run_of round_end in_run is_fresh total exact_fresh point_at edits flat
cases-hold = refl

-- and at other parameters
pub tauter-hold : map (λ (c : Case). c.given) tauter ≡ map (λ (c : Case). c.paper) tauter
unfolding tab whole_controls weighted weights dot nearest half_up first_record coordinate records_from sixty_fourths basis_of records_of spans_of allowed points_of judge seek plan_of outside sum_of number remainder remainder_of noughts draws on_x
tauter-hold = refl

-- and of loops
pub loops-hold : map (λ (c : Case). c.given) loops ≡ map (λ (c : Case). c.paper) loops
unfolding tab whole_controls weighted weights dot nearest half_up first_record coordinate records_from basis_of records_of spans_of allowed points_of judge seek plan_of outside sum_of number remainder remainder_of noughts draws asked run_of round_end in_run is_fresh total exact_fresh point_at edits flat
loops-hold = refl

-- document 01's own cardinal curve gives P5's middle
pub half-hold : half_number 1 1 (on_x (pos 0 ∷ pos 1000 ∷ pos 1000 ∷ pos 0 ∷ [])) 2 ≡ pos 1125
unfolding half_sum half_controls weighted weights dot nearest half_up coordinate records_from on_x
half-hold = refl
