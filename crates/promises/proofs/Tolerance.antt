-- Steps chosen by tolerance (document 02, request 3): an outline that cuts a span at its middle only while needed. The trees are those of `pieces/specs/Tree`: `tree_of p tolerance controls t` is that of
-- span t, and `cuts_of` counts the inner nodes of all of them. What is refused, and when, is in `Refusals`.
use Rattle.std.specs.Prelude.{Ok}
use mathlib.Core.Path.{◌≡◌, refl, ◌∙◌}
use mathlib.Core.List.{List, [], ◌∷◌}
use mathlib.Core.Logic.{◌↔◌}
use Prim.Native.Nat.{ℕ, ◌+◌, ◌*◌, ◌^◌, ◌≤◌, ◌<◌}
use lib.IntN.{ℤ, nat_abs, ◌-ℤ◌}
use lib.ListN.{length, take}
use Rattle.whole.specs.Outcome.{outcome}
use Rattle.curve.specs.declared.Basis.TheVariants.{Bezier}
use Rattle.curve.specs.Bend.{bend}
use Rattle.curve.specs.Four.{four}
use Rattle.curve.specs.Span.{coordinate, divisor, records}
use Rattle.shape.specs.declared.Shape.{Shape}
use Rattle.shape.specs.declared.Plan.{Plan}
use Rattle.shape.specs.Refusals.{plan_of}
use Rattle.spans.specs.Numbers.{sum_of, number, remainder_of, noughts}
use Rattle.spans.specs.Inner.{wholes, remainders}
use Rattle.outline.specs.Outline.{draws}
use Rattle.pieces.specs.Tree.{finest, most_tolerance, most_cuts, Sound}
use Rattle.pieces.specs.Scan.{met_all, scan}
use Rattle.pieces.specs.Steps.{Rises}
use Rattle.pieces.proofs.Even.{sums_at}
use Rattle.pieces.proofs.Scans as pieces
use Rattle.tolerance.specs.declared.Steps.{Steps}
use Rattle.tolerance.specs.Reading.{controls_of, tree_of, trees_of, walk_of, cuts_of, chooses}
use Rattle.tolerance.specs.Steps.{steps_along, finest_shape, finest_plan}
use Rattle.tolerance.proofs.Along as along
use Rattle.tolerance.proofs.Answered as answered
use Rattle.tolerance.proofs.Edges as edges
use Rattle.tolerance.proofs.Evenly as evenly
use Rattle.tolerance.proofs.Left as left
use Rattle.tolerance.proofs.More as more
use Rattle.promises.specs.Tolerance.{numbers_at, whole_at}
use Rattle.promises.proofs.Points.{number-published}
use Rattle.promises.proofs.Exact.{counts_whole}

-- the walk from the left: which of 21 and 22 it meets first is found by going through all pieces in order, a piece before its halves and the left half before the right one
pub walk-in-order : (p : Plan) (tolerance most : ℕ) (controls : List ℤ) → walk_of p tolerance most controls ≡ scan most 0 (met_all (trees_of p tolerance controls))
walk-in-order p tolerance most controls = pieces.scanned most 0 (trees_of p tolerance controls)

-- a span can be cut flat, so that the walk doesn't meet 21 in it, exactly where three times its larger second difference is at most 4 · 4^6 times the tolerance, on both axes, over the basis' own divisor
pub flat-exactly : (p : Plan) (tolerance : ℕ) (controls : List ℤ) (t : ℕ)
    → Sound (tree_of p tolerance controls t) ↔ ((3 * bend (controls_of p controls t 0) ≤ 4 * (tolerance * (divisor p.basis 0 * 4 ^ finest))) × (3 * bend (controls_of p controls t 1) ≤ 4 * (tolerance * (divisor p.basis 0 * 4 ^ finest))))
flat-exactly = edges.sound-exactly

-- so a straight edge, A, A, B, B, exactly where three times its length is at most 4 · 4^6, 16,384, times the tolerance, on each axis
pub edge-exactly : (p : Plan) (tolerance : ℕ) (controls : List ℤ) (t : ℕ) (ax bx ay by : ℤ)
    → p.basis ≡ Bezier
    → records p.basis t (coordinate controls 0) ≡ four ax ax bx bx
    → records p.basis t (coordinate controls 1) ≡ four ay ay by by
    → Sound (tree_of p tolerance controls t) ↔ ((3 * nat_abs (bx -ℤ ax) ≤ 4 * 4 ^ finest * tolerance) × (3 * nat_abs (by -ℤ ay) ≤ 4 * 4 ^ finest * tolerance))
edge-exactly = edges.line-exactly

-- no span takes more than 63 cuts
pub cuts-at-most : (p : Plan) (tolerance : ℕ) (controls : List ℤ) → cuts_of p tolerance controls ≤ most_cuts * p.spans
cuts-at-most = left.cuts-below

-- the sums of the even outline at some steps, rounded, are its points there; as many of them are exact as published values are whole
rounded-at : (p : Plan) (controls : List ℤ) (steps : List ℕ) → wholes (divisor p.basis p.depth) (sums_at (λ (g : ℕ). sum_of p controls (2 * g)) (λ (g : ℕ). sum_of p controls (2 * g + 1)) steps) ≡ numbers_at p controls steps
unfolding sums_at numbers_at number
rounded-at p controls [] = refl
rounded-at p controls (g ∷ steps) = λ i. number-published p controls (2 * g) i ∷ number-published p controls (2 * g + 1) i ∷ rounded-at p controls steps i

exact-at : (p : Plan) (controls : List ℤ) (steps : List ℕ) → noughts (remainders (divisor p.basis p.depth) (sums_at (λ (g : ℕ). sum_of p controls (2 * g)) (λ (g : ℕ). sum_of p controls (2 * g + 1)) steps)) ≡ whole_at p controls steps
unfolding sums_at whole_at noughts remainder_of
exact-at p controls [] = refl
exact-at p controls (g ∷ steps) = λ i. counts_whole p controls (2 * g) i + (counts_whole p controls (2 * g + 1) i + exact-at p controls steps i)

-- ---- The call answered f, and left the points `held`.

module _ (s : Shape) (tolerance most : ℕ) (controls lent : List ℤ) (f : Steps) (held : List ℤ) (done : chooses s tolerance most controls lent ≡ outcome (Ok f) held) where
  abbrev p : Plan
  p = plan_of s

  -- the answered cuts are the inner nodes of the trees, no more than the caller's most; every piece is flat or cut
  pub answered-cuts : (f.cuts ≡ cuts_of p tolerance controls) × (f.cuts ≤ most) × ((t : ℕ) → t < p.spans → Sound (tree_of p tolerance controls t))
  answered-cuts = (answered.answered-cuts s tolerance most controls lent f held done, answered.answered-most s tolerance most controls lent f held done, answered.answered-sound s tolerance most controls lent f held done)

  -- there is a point for each span, one for each cut, and the last
  pub answered-points : f.points ≡ p.spans + f.cuts + 1
  answered-points = answered.answered-points s tolerance most controls lent f held done

  -- the steps at which the points stand, 64ths of a span: one to each point, the first 0, rising strictly, up to the end of the last span, which is the last of them (`steps_along`)
  abbrev steps : List ℕ
  steps = steps_along p tolerance controls

  pub answered-steps : (length steps ≡ f.points) × ((rest : List ℕ) × (steps ≡ 0 ∷ rest)) × Rises 0 steps (p.spans * 2 ^ finest + 1)
  answered-steps = (along.many-along s tolerance most controls lent f held done, along.beginning-along s tolerance most controls lent f held done, along.steps-rising p tolerance controls)

  -- each is the point of the even outline at depth 6 at its step: the published curve there, rounded once
  pub answered-published : take (2 * f.points) held ≡ numbers_at (finest_plan p) controls steps
  answered-published = along.held-along s tolerance most controls lent f held done ∙ rounded-at (finest_plan p) controls steps

  -- as many of their coordinates are exact as published values there are whole
  pub answered-exact : f.exact ≡ whole_at (finest_plan p) controls steps
  answered-exact = along.exact-along s tolerance most controls lent f held done ∙ exact-at (finest_plan p) controls steps

  -- where every piece above depth 6 is cut, which makes 63 cuts a span, it is the even outline at depth 6: drawing that leaves the same list and answers the same figures
  pub answered-even : f.cuts ≡ most_cuts * p.spans → draws (finest_shape s) controls lent ≡ outcome (Ok (record { points = f.points; exact = f.exact })) held
  answered-even full = evenly.even-outline s tolerance most controls lent f held done full

  -- more tolerance, up to 10,000, is accepted too, and never needs more cuts
  pub more-tolerance : (more : ℕ) → tolerance ≤ more → more ≤ most_tolerance → (g : Steps) × (now : List ℤ) × (chooses s more most controls lent ≡ outcome (Ok g) now) × (g.cuts ≤ f.cuts)
  more-tolerance bigger h near = more.more-tolerant s tolerance most controls lent f held done bigger h near
