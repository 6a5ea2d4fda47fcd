-- The bounds at their edges, by computation: where they are met, and where anything less would be passed.
use Rattle.std.specs.Prelude.{Ok}
use mathlib.Core.Path.{◌≡◌, refl}
use mathlib.Core.List.{List, [], ◌∷◌}
use Prim.Native.Nat.{ℕ, ◌+◌, ◌*◌, ◌^◌, ◌<◌}
use lib.Dec.{lit≤, lit<}
use lib.IntN.{ℤ, pos, nat_abs, ◌*ℤ◌}
use lib.ListN.{replicate}
use Rattle.whole.specs.Nearest.{half_up, nearest, remainder}
use Rattle.whole.specs.Outcome.{outcome}
use Rattle.curve.specs.declared.Four.{Four}
use Rattle.curve.specs.declared.Basis.{Basis}
use Rattle.curve.specs.declared.Basis.TheVariants.{Bezier, BSpline, Cardinal, Hermite, Loop}
use Rattle.curve.specs.Bend.{bend}
use Rattle.curve.specs.Four.{four, dot}
use Rattle.curve.specs.Numbers.{neg}
use Rattle.curve.specs.Published.{published, denominator, cubic, weights}
use Rattle.curve.specs.Span.{first_record, coordinate, records_from, whole_controls, weighted, divisor}
use Rattle.curve.specs.Tab.{tab}
use Rattle.curve.specs.Ways.{left_half, right_half}
use Rattle.shape.specs.Refusals.{judge, seek, plan_of, outside}
use Rattle.shape.specs.Shape.{sixty_fourths, basis_of, records_of, spans_of, allowed, points_of}
use Rattle.spans.specs.Numbers.{sum_of, number, remainder_of, noughts}
use Rattle.outline.specs.Outline.{draws}
use Rattle.outline.specs.Cases.{on_x}
use Rattle.pieces.specs.Tree.{finest, is_flat, tree, cuts, all_cuts}
use Rattle.pieces.specs.Walk.{walk, walk_all}
use Rattle.pieces.specs.Values.{starts, all_starts}
use Rattle.tolerance.specs.Reading.{tree_of, chooses}
use Rattle.stray.specs.Chord.{Bound, Within, Meets, bend_bound, micrometres, half_more, off_chord, finer}

-- ---- the chord theorem

-- The chord between the points `step` and `step` + 1 of a depth, and the fraction j / 2^l of it.
pub record Case : Type 0 where
  pub basis : Basis
  pub records : Four
  pub depth : ℕ
  pub step : ℕ
  pub l : ℕ
  pub j : ℕ

abbrev pub case : Basis → Four → ℕ → ℕ → ℕ → ℕ → Case
case b p k i l j = record { basis = b; records = p; depth = k; step = i; l = l; j = j }

abbrev pub bound : Case → Bound
bound c = bend_bound (divisor c.basis 0) (whole_controls c.basis c.records) c.depth

-- the published curve at a step of a depth, and how far it is from the chord
abbrev curve : Case → ℕ → ℕ → ℤ
curve c k i = published c.basis c.records (pos i) (pos (2 ^ k))

abbrev pub off : Case → ℤ
off c = off_chord (2 ^ c.l) c.j (finer c.l (curve c c.depth c.step)) (finer c.l (curve c c.depth (c.step + 1))) (curve c (c.depth + c.l) (c.step * 2 ^ c.l + c.j))

abbrev pub under : Case → ℕ
under c = 2 ^ c.l * (denominator c.basis * 2 ^ (3 * (c.depth + c.l)))

abbrev pub AllMeet : List Case → Type 0
AllMeet [] = Unit {0}
AllMeet (c ∷ cases) = Meets (bound c) (off c) (under c) × AllMeet cases

-- A parabola meets it in the middle of every chord, in each basis and at every depth: here at depths 0, 2 and 6. A straight edge with equal steps, whose second differences are nought, meets it everywhere: here at a quarter.
abbrev pub meeting : List Case
meeting =
    case Bezier (four (pos 0) (pos 1) (pos 2) (pos 3)) 0 0 2 1
    ∷ case Bezier (four (pos 0) (pos 0) (pos 1) (pos 3)) 0 0 1 1
    ∷ case Bezier (four (pos 0) (pos 0) (pos 1) (pos 3)) 2 1 1 1
    ∷ case Bezier (four (neg 4000000) (pos 4000000) (pos 4000000) (neg 4000000)) 6 63 3 4
    ∷ case BSpline (four (pos 0) (pos 1) (pos 4) (pos 9)) 2 3 1 1
    ∷ case (Cardinal 32) (four (pos 0) (pos 1) (pos 4) (pos 9)) 2 0 1 1
    ∷ case (Cardinal 64) (four (pos 1) (pos 0) (pos 1) (pos 2)) 2 1 1 1
    ∷ case Hermite (four (pos 0) (pos 0) (pos 1) (pos 2)) 2 2 1 1
    ∷ case (Loop 5) (four (pos 0) (pos 1) (pos 4) (pos 9)) 2 0 1 1
    ∷ []

pub bound-met : AllMeet meeting
unfolding published cubic dot whole_controls bend
bound-met = (refl, (refl, (refl, (refl, (refl, (refl, (refl, (refl, (refl, tt)))))))))

-- Where one second difference is nought the other one counts.
pub larger-counts : let c = case Bezier (four (pos 0) (pos 0) (pos 0) (pos 8)) 0 0 1 1 in Within (bound c) (off c) (under c)
unfolding published cubic dot whole_controls bend
larger-counts = lit≤ tt

-- ---- the chord of the router

-- Of an even outline: a Hermite span 0, 1, 5, 9 on x at depth 2 has 1/2 and 1 1/2 at its first and second quarter, which are rounded to 1 and 2.
abbrev quarters : Four
quarters = four (pos 0) (pos 1) (pos 5) (pos 9)

pub drawn-quarters : draws (record { basis = 4; depth = 2; count = 4; parameter = 0 }) (on_x (pos 0 ∷ pos 1 ∷ pos 5 ∷ pos 9 ∷ [])) (replicate 10 (neg 1)) ≡ outcome (Ok (record { points = 5; exact = 8 })) (on_x (pos 0 ∷ pos 1 ∷ pos 2 ∷ pos 3 ∷ pos 5 ∷ []))
unfolding draws judge plan_of sixty_fourths basis_of spans_of records_of points_of allowed outside seek coordinate on_x tab number sum_of remainder_of weighted weights dot first_record records_from whole_controls nearest half_up remainder noughts
drawn-quarters = refl

-- In the middle between them the curve is at 15/16 and the chord from 1 to 2 at 24/16: 9/16 apart, which is the bound, 1/16, and the half.
pub half-met : Meets (half_more (bend_bound (divisor Hermite 0) (whole_controls Hermite quarters) 2)) (off_chord 2 1 (pos (2 ^ 9) *ℤ pos 1) (pos (2 ^ 9) *ℤ pos 2) (published Hermite quarters (pos 3) (pos (2 ^ 3)))) (2 * 2 ^ 9)
unfolding published cubic dot whole_controls bend
half-met = refl

-- By tolerance: a Bezier span 0, 1, 18, 51 on x at 3 micrometres is cut once, at 13 1/2, which is rounded to 14.
pub cut-once : chooses (record { basis = 1; depth = 0; count = 4; parameter = 0 }) 3 1 (on_x (pos 0 ∷ pos 1 ∷ pos 18 ∷ pos 51 ∷ [])) (replicate 6 (neg 1)) ≡ outcome (Ok (record { points = 3; cuts = 1; exact = 5 })) (on_x (pos 0 ∷ pos 14 ∷ pos 51 ∷ []))
unfolding chooses judge plan_of sixty_fourths basis_of spans_of records_of allowed outside seek coordinate on_x tree_of tab tree is_flat bend left_half right_half cuts all_cuts starts all_starts walk walk_all first_record records_from whole_controls nearest half_up remainder noughts
cut-once = refl

-- At a quarter of the span, in the middle of its first chord, the curve is at 3 3/4 and the chord from 0 to 14 at 7: more than 3 micrometres apart, and within 3 1/2.
abbrev fine : ℕ
fine = 2 ^ (3 * finest)

abbrev pub off_router : ℤ
off_router = off_chord 32 16 (pos fine *ℤ pos 0) (pos fine *ℤ pos 14) (published Bezier (four (pos 0) (pos 1) (pos 18) (pos 51)) (pos 16) (pos (2 ^ finest)))

pub half-needed : Within (half_more (micrometres 3)) off_router (32 * fine) × (3 * (32 * fine) < nat_abs off_router)
unfolding published cubic dot
half-needed = (lit≤ tt, lit< tt)
