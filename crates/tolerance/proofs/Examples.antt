-- Edges of the call, computed: Bezier spans on the x axis, as the even outlines' cases are, and a loop. Answer and lent list, which held -1.
use Rattle.std.specs.Prelude.{Err, Ok, Result}
use mathlib.Core.Path.{◌≡◌, refl}
use mathlib.Core.List.{List, [], ◌∷◌, ◌++◌}
use Prim.Native.Nat.{ℕ, ◌*◌, ◌-◌}
use lib.IntN.{ℤ, pos}
use lib.ListN.{replicate}
use Rattle.whole.specs.Nearest.{half_up, nearest, remainder}
use Rattle.whole.specs.Outcome.{Outcome, outcome}
use Rattle.curve.specs.Bend.{bend}
use Rattle.curve.specs.Numbers.{neg}
use Rattle.curve.specs.Span.{first_record, coordinate, round_end, records_from, whole_controls}
use Rattle.curve.specs.Tab.{tab}
use Rattle.curve.specs.Ways.{left_half, right_half}
use Rattle.shape.specs.Refusals.{judge, seek, plan_of, outside}
use Rattle.shape.specs.Shape.{sixty_fourths, basis_of, records_of, spans_of, allowed}
use Rattle.spans.specs.Numbers.{noughts}
use Rattle.outline.specs.Cases.{on_x}
use Rattle.pieces.specs.Tree.{is_flat, tree, cuts, all_cuts}
use Rattle.pieces.specs.Walk.{walk, walk_all}
use Rattle.pieces.specs.Values.{starts, all_starts}
use Rattle.tolerance.specs.Reading.{tree_of, chooses}
use Rattle.shape.specs.declared.Refusal.{Refusal}
use Rattle.tolerance.specs.declared.Steps.{Steps}

-- One span of depth 0 at a tolerance, with a most, and room for three points.
abbrev span_at : ℕ → ℕ → List ℤ → Outcome (Result Steps Refusal) (List ℤ)
span_at tolerance most xs = chooses (record { basis = 1; depth = 0; count = 4; parameter = 0 }) tolerance most (on_x xs) (replicate 6 (neg 1))

abbrev done : ℕ → ℕ → ℕ → List ℤ → Outcome (Result Steps Refusal) (List ℤ)
done points cuts exact xs = outcome (Ok (record { points = points; cuts = cuts; exact = exact })) (on_x xs ++ replicate (6 - 2 * points) (neg 1))

abbrev refused : ℕ → Outcome (Result Steps Refusal) (List ℤ)
refused number = outcome (Err (record { number = number; place = 0 })) (replicate 6 (neg 1))

pub edges :
    -- at tolerance 0 a straight span with equal steps is flat, and A, A, B, B is not
    (span_at 0 0 (pos 0 ∷ pos 1 ∷ pos 2 ∷ pos 3 ∷ []) ≡ done 2 0 4 (pos 0 ∷ pos 3 ∷ []))
    × (span_at 0 100 (pos 0 ∷ pos 0 ∷ pos 8 ∷ pos 8 ∷ []) ≡ refused 21)
    -- 3 · 4 is at most 4 · 3, and 3 · 5 is not; then one cut is enough, and where there is none it is 22
    × (span_at 3 0 (pos 0 ∷ pos 0 ∷ pos 4 ∷ pos 8 ∷ []) ≡ done 2 0 4 (pos 0 ∷ pos 8 ∷ []))
    × (span_at 3 1 (pos 0 ∷ pos 0 ∷ pos 5 ∷ pos 10 ∷ []) ≡ done 3 1 5 (pos 0 ∷ pos 3 ∷ pos 10 ∷ []))
    × (span_at 3 0 (pos 0 ∷ pos 0 ∷ pos 5 ∷ pos 10 ∷ []) ≡ refused 22)
    -- a straight edge passes where three times its length is at most 16,384 times the tolerance: here the cuts are made, and the points have no room
    × (span_at 3 63 (pos 0 ∷ pos 0 ∷ pos 16384 ∷ pos 16384 ∷ []) ≡ refused 9)
    × (span_at 3 63 (pos 0 ∷ pos 0 ∷ pos 16385 ∷ pos 16385 ∷ []) ≡ refused 21)
    -- tolerances 10,000 and 10,001
    × (span_at 10000 0 (pos 0 ∷ pos 0 ∷ pos 0 ∷ pos 4 ∷ []) ≡ done 2 0 4 (pos 0 ∷ pos 4 ∷ []))
    × (span_at 10001 0 (pos 0 ∷ pos 0 ∷ pos 0 ∷ pos 4 ∷ []) ≡ refused 20)
unfolding chooses judge plan_of sixty_fourths basis_of spans_of records_of allowed outside seek coordinate on_x tree_of tab tree is_flat bend left_half right_half cuts all_cuts starts all_starts walk walk_all first_record records_from whole_controls nearest half_up remainder noughts
edges = (refl, refl, refl, refl, refl, refl, refl, refl, refl)

-- A loop (document 02, request 8): four records at the corners of a square, from (0,0) to (12,12), are four spans, whose second differences are 2, so that each is flat at tolerance 2; the last one ends where the first starts.
abbrev square : List ℤ
square = pos 0 ∷ pos 0 ∷ pos 12 ∷ pos 0 ∷ pos 12 ∷ pos 12 ∷ pos 0 ∷ pos 12 ∷ []

pub loop-closed :
    chooses (record { basis = 5; depth = 0; count = 4; parameter = 0 }) 2 0 square (replicate 12 (neg 1))
    ≡ outcome (Ok (record { points = 5; cuts = 0; exact = 10 })) (pos 10 ∷ pos 2 ∷ pos 10 ∷ pos 10 ∷ pos 2 ∷ pos 10 ∷ pos 2 ∷ pos 2 ∷ pos 10 ∷ pos 2 ∷ neg 1 ∷ neg 1 ∷ [])
unfolding chooses judge plan_of sixty_fourths basis_of spans_of records_of allowed outside seek coordinate on_x tree_of tab tree is_flat bend left_half right_half cuts all_cuts starts all_starts walk walk_all first_record round_end records_from whole_controls nearest half_up remainder noughts
loop-closed = refl
