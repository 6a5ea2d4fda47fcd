-- For contracts inside the project alone: no public contract uses what is here.
-- What a caller knows once the shared checks have passed.
use Rattle.std.specs.Prelude.{List, ◌≡◌, ℕ, ◌*◌, ◌≤◌, ◌<◌, ℤ, nat_abs, length}
use Rattle.std.specs.Coded.{Unit-prop, le_prop}
use mathlib.Core.Sum.{⊎_set}
use native.Mathlib.Nat.{ℕ_set}
use Rattle.curve.specs.Published.{most_parameter}
use Rattle.curve.specs.Limits.{limit, parameter_of}
use Rattle.curve.specs.Span.{coordinate}
use Rattle.curve.specs.Ways.{deepest}
use Rattle.curve.specs.declared.Basis.{Basis}
use Rattle.curve.specs.declared.Basis.TheVariants.{Bezier, BSpline, Cardinal, Hermite, Loop}
use Rattle.shape.specs.declared.Shape.{Shape}
use Rattle.shape.specs.declared.Plan.{Plan}
use Rattle.shape.specs.Shape.{last_basis, basis_in, records_of, least_records, most_records}

-- A loop has as many records, round which they are counted, as spans, and four at least.
abbrev pub RunsRound : Basis → ℕ → Type 0
RunsRound Bezier m = Unit {0}
RunsRound BSpline m = Unit {0}
RunsRound (Cardinal c) m = Unit {0}
RunsRound Hermite m = Unit {0}
RunsRound (Loop n) m = (n ≡ m) × (least_records ≤ m)

-- It holds in one way at most.
pub runs_round-prop : (b : Basis) (m : ℕ) → IsProp (RunsRound b m)
runs_round-prop Bezier m = Unit-prop
runs_round-prop BSpline m = Unit-prop
runs_round-prop (Cardinal c) m = Unit-prop
runs_round-prop Hermite m = Unit-prop
runs_round-prop (Loop n) m = hlevel (le_prop, ℕ_set)

-- A sound shape and its plan.
pub record Good (s : Shape) (p : Plan) : Type 0 where
  pub basis : p.basis ≡ basis_in s
  pub basis-least : 1 ≤ s.basis
  pub basis-most : s.basis ≤ last_basis
  pub depth : p.depth ≡ s.depth
  pub depth-most : p.depth ≤ deepest
  pub offered : parameter_of p.basis ≤ most_parameter
  pub spans-least : 1 ≤ p.spans
  pub spans-most : p.spans ≤ s.count
  pub round : RunsRound p.basis p.spans
  pub records : records_of p.basis p.spans ≡ s.count
  pub records-least : least_records ≤ s.count
  pub records-most : s.count ≤ most_records

-- It holds in one way at most: a struct may keep it.
pub good-prop : (s : Shape) (p : Plan) → IsProp (Good s p)
good-prop s p = hlevel (le_prop, ℕ_set, ⊎_set, runs_round-prop)

-- Lent lists that hold what is needed: n records inside the limits, and room for the points.
pub record Lent (n : ℕ) (controls : List ℤ) (points len : ℕ) : Type 0 where
  pub room : 2 * n ≤ length controls
  pub x : (r : ℕ) → r < n → nat_abs (coordinate controls 0 r) ≤ limit
  pub y : (r : ℕ) → r < n → nat_abs (coordinate controls 1 r) ≤ limit
  pub points-room : 2 * points ≤ len
