-- How far the cut strays (document 02, request 13). `Within f z d` says that z / d is, in size, at most the bound f, a fraction of micrometres; `off_chord w j a c z` is how far z is from the chord between a
-- and c at the fraction j / w, times w; `finer l` takes a value of one depth over the divisor of l depths more. Every step of every finer depth is one of those named here.
use Rattle.std.specs.Prelude.{Ok}
use mathlib.Core.Path.{◌≡◌}
use mathlib.Core.Bool.{true}
use mathlib.Core.List.{List}
use mathlib.Core.Logic.{◌↔◌}
use Prim.Native.Nat.{ℕ, ◌+◌, ◌*◌, ◌-◌, ◌/◌, ◌^◌, ◌≤◌, ◌<◌}
use lib.IntN.{ℤ, pos}
use lib.ListN.{get_or, length}
use Rattle.whole.specs.Outcome.{outcome}
use Rattle.curve.specs.declared.Four.{Four}
use Rattle.curve.specs.declared.Basis.{Basis}
use Rattle.curve.specs.Bend.{first_bend, last_bend, first_in_records, last_in_records}
use Rattle.curve.specs.Span.{coordinate, records, whole_controls}
use Rattle.curve.specs.Ways.{deepest}
use Rattle.curve.proofs.Bend as bends
use Rattle.shape.specs.declared.Shape.{Shape}
use Rattle.shape.specs.declared.Plan.{Plan}
use Rattle.shape.specs.Depth.{shape_at, plan_at}
use Rattle.shape.specs.Refusals.{plan_of}
use Rattle.spans.specs.Numbers.{sum_of, remainder_of}
use Rattle.outline.specs.declared.Figures.{Figures}
use Rattle.outline.specs.Outline.{points, draws}
use Rattle.pieces.specs.Tree.{finest, flat_on}
use Rattle.tolerance.specs.declared.Steps.{Steps}
use Rattle.tolerance.specs.Reading.{chooses}
use Rattle.tolerance.specs.Steps.{steps_along}
use Rattle.sequences.specs.Calls.{Way, MeetsDrawing}
use Rattle.sequences.proofs.Calls.{meets-draws}
use Rattle.stray.specs.Chord.{Bound, Within, Meets, bend_bound, span_bound, micrometres, half_more, off_chord, finer}
use Rattle.stray.proofs.Again as again
use Rattle.stray.proofs.Chosen as chosen
use Rattle.stray.proofs.Drawn as even
use Rattle.stray.proofs.Pieces as pieces
use Rattle.stray.proofs.Over.{OneFraction, finer-one, whole-one, within-published}
use Rattle.stray.proofs.Spans as spans
use Rattle.promises.specs.Points.{published_divisor, published_value}
use Rattle.promises.specs.Stray.{off_exact, curve_at, standing}
use Rattle.promises.proofs.Points.{value-published}

-- ---- the chord theorem

-- at every finer step, of any depth, the exact curve differs on each axis from the chord between the exact points of depth k, at the same fraction, by at most three quarters of the larger second difference of the span's Bezier controls, divided by 4^k
pub chord-within : (b : Basis) (k l : ℕ) (controls : List ℤ) (s axis i j : ℕ) → i < 2 ^ k → j ≤ 2 ^ l
    → Within (span_bound b k controls s axis) (off_exact b k l controls s axis i j) (2 ^ l * published_divisor b (k + l))
chord-within b k l controls s axis i j = spans.published-within b (records b s (coordinate controls axis)) k l i j

-- and by no less than that in the middle of every chord, where both second differences are the same: no smaller bound would do, at any depth
pub chord-met : (b : Basis) (k l : ℕ) (controls : List ℤ) (s axis i j : ℕ) → i < 2 ^ k → j + j ≡ 2 ^ l
    → (let q = whole_controls b (records b s (coordinate controls axis)) in first_bend q ≡ last_bend q)
    → Meets (span_bound b k controls s axis) (off_exact b k l controls s axis i j) (2 ^ l * published_divisor b (k + l))
chord-met b k l controls s axis i j = spans.published-meets b (records b s (coordinate controls axis)) k l i j

-- the two second differences, six times and of a cardinal curve 192 times, in the records of each basis
pub bends-in-records : (b : Basis) (p : Four) → (first_bend (whole_controls b p) ≡ first_in_records b p) × (last_bend (whole_controls b p) ≡ last_in_records b p)
bends-in-records b p = (bends.first-in-records b p, bends.last-in-records b p)

-- a piece is flat, as tolerance cutting has it, exactly where this bound for the piece itself is at most the tolerance, on both axes
pub flat-within : (d tolerance : ℕ) (q : Four) → (flat_on d tolerance q ≡ true) ↔ ((bend_bound d q 0).over ≤ tolerance * (bend_bound d q 0).under)
flat-within = pieces.flat-bound

-- an outline's exact sum and its published value
one : (p : Plan) (controls : List ℤ) (q : ℕ) → OneFraction p.basis (sum_of p controls q) (published_value p controls q)
one p controls q = record { same = value-published p controls q }

-- ---- A drawing answered fs, and left the points `held`.

module _ (s : Shape) (controls lent : List ℤ) (fs : Figures) (held : List ℤ) (done : draws s controls lent ≡ outcome (Ok fs) held) where
  abbrev p : Plan
  p = plan_of s

  -- each of its points is found again at every deeper depth: that is drawn too, wherever shapes allow the depth and the list has room
  pub drawn-deeper : (l : ℕ) (list : List ℤ) → s.depth + l ≤ deepest → 2 * points (plan_of (shape_at (s.depth + l) s)) ≤ length list
      → (gs : Figures) × (now : List ℤ) × (draws (shape_at (s.depth + l) s) controls list ≡ outcome (Ok gs) now)
  drawn-deeper = again.drawn-deeper s controls lent fs held done

  -- and point g of depth k is point g·2^l of depth k + l, as whole numbers in the lent lists
  pub found-again : (l : ℕ) (list : List ℤ) (gs : Figures) (now : List ℤ) → draws (shape_at (s.depth + l) s) controls list ≡ outcome (Ok gs) now
      → (g axis : ℕ) → g < fs.points → axis < 2 → get_or now (2 * (g * 2 ^ l) + axis) (pos 0) ≡ get_or held (2 * g + axis) (pos 0)
  found-again = again.found-again s controls lent fs held done

  -- what the router does: between neighbouring points as they stand in the list, points g and g + 1, the exact curve at every finer step stays within the chord theorem's bound for their span and half a micrometre more
  module _ (l g axis : ℕ) (h : g + 1 < fs.points) (a : axis < 2) where
    abbrev d : ℕ
    d = published_divisor p.basis (s.depth + l)

    abbrev bound : Bound
    bound = span_bound p.basis s.depth controls (g / 2 ^ s.depth) axis

    pub drawn-router : (j : ℕ) → j ≤ 2 ^ l → Within (half_more bound) (off_chord (2 ^ l) j (standing d held axis g) (standing d held axis (g + 1)) (curve_at p (s.depth + l) controls axis (g * 2 ^ l + j))) (2 ^ l * d)
    drawn-router j b =
        within-published (s.depth + l) (2 ^ l) j (half_more bound) (whole-one p.basis (s.depth + l) (get_or held (2 * g + axis) (pos 0))) (whole-one p.basis (s.depth + l) (get_or held (2 * (g + 1) + axis) (pos 0)))
        (one (plan_at (s.depth + l) p) controls (2 * (g * 2 ^ l + j) + axis)) (even.drawn-router s controls lent fs held done l g axis h a j b)

-- the same of the code, by any two ways
pub code-found-again : (v w : Way) (s : Shape) (l : ℕ) (controls lent list : List ℤ) (fs gs : Figures) (held now : List ℤ)
    → MeetsDrawing v (s, controls, lent) (outcome (Ok fs) held) → MeetsDrawing w (shape_at (s.depth + l) s, controls, list) (outcome (Ok gs) now)
    → (g axis : ℕ) → g < fs.points → axis < 2 → get_or now (2 * (g * 2 ^ l) + axis) (pos 0) ≡ get_or held (2 * g + axis) (pos 0)
code-found-again v w s l controls lent list fs gs held now met again-met = found-again s controls lent fs held (meets-draws v s controls lent _ met) l list gs now (meets-draws w (shape_at (s.depth + l) s) controls list _ again-met)

-- what is left over of such a point is the same part of a micrometre at both depths, so it is exact at the one where it is at the other
pub remainder-again : (p : Plan) (controls : List ℤ) (k l g axis : ℕ) → axis < 2 → remainder_of (plan_at (k + l) p) controls (2 * (g * 2 ^ l) + axis) ≡ finer l (remainder_of (plan_at k p) controls (2 * g + axis))
remainder-again = again.remainder-again

-- ---- Drawing by tolerance answered f, and left the points `held`: between two neighbours of them, points r and r + 1.

module _ (s : Shape) (tolerance most : ℕ) (controls lent : List ℤ) (f : Steps) (held : List ℤ) (done : chooses s tolerance most controls lent ≡ outcome (Ok f) held) (r l axis : ℕ) (h : r + 1 < f.points) (a : axis < 2) where
  abbrev pl : Plan
  pl = plan_of s

  -- the steps at which the two stand, 64ths of a span (`Tolerance.answered-steps`), the one after the other; and how many of the finer steps are between them
  abbrev from : ℕ
  from = get_or (steps_along pl tolerance controls) r 0

  abbrev to : ℕ
  to = get_or (steps_along pl tolerance controls) (r + 1) 0

  pub chosen-rise : from < to
  chosen-rise = chosen.steps-rise s tolerance most controls lent f held done r l axis h a

  abbrev w : ℕ
  w = (to - from) * 2 ^ l

  -- the divisor of the finer depth, and over it the exact points and the exact curve at finer step j
  abbrev under : ℕ
  under = published_divisor pl.basis (finest + l)

  abbrev exact : ℕ → ℤ
  exact g = finer l (curve_at pl finest controls axis g)

  abbrev curve : ℕ → ℤ
  curve j = curve_at pl (finest + l) controls axis (from * 2 ^ l + j)

  -- at every finer step the exact curve stays within the tolerance of the chord between the exact points
  pub chosen-exact : (j : ℕ) → j ≤ w → Within (micrometres tolerance) (off_chord w j (exact from) (exact to) (curve j)) (w * under)
  chosen-exact j b =
      within-published (finest + l) w j (micrometres tolerance) (finer-one l (one (plan_at finest pl) controls (2 * from + axis))) (finer-one l (one (plan_at finest pl) controls (2 * to + axis))) (one (plan_at (finest + l) pl) controls (2 * (from * 2 ^ l + j) + axis))
      (chosen.chosen-within s tolerance most controls lent f held done r l axis h a j b)

  -- and within half a micrometre more of the chord between the points as they stand in the list, which is what the router does
  pub chosen-router : (j : ℕ) → j ≤ w → Within (half_more (micrometres tolerance)) (off_chord w j (standing under held axis r) (standing under held axis (r + 1)) (curve j)) (w * under)
  chosen-router j b =
      within-published (finest + l) w j (half_more (micrometres tolerance)) (whole-one pl.basis (finest + l) (get_or held (2 * r + axis) (pos 0))) (whole-one pl.basis (finest + l) (get_or held (2 * (r + 1) + axis) (pos 0))) (one (plan_at (finest + l) pl) controls (2 * (from * 2 ^ l + j) + axis))
      (chosen.router-within s tolerance most controls lent f held done r l axis h a j b)
