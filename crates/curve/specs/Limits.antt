-- How far controls and points may lie from zero, in micrometres (document 01).
use Rattle.std.specs.Prelude.{Bool, ℕ, ◌≤◌, ltb, ℤ, nat_abs, ◌≤ℤ◌}
use Rattle.curve.specs.declared.Four.{Four}
use Rattle.curve.specs.declared.Basis.{Basis}
use Rattle.curve.specs.declared.Basis.TheVariants.{Bezier, BSpline, Cardinal, Hermite, Loop}
use Rattle.curve.specs.Four.{four}

-- A control coordinate is from -4,000,000 to 4,000,000.
abbrev pub limit : ℕ
limit = 4000000

-- No point of an outline is beyond 5,000,000 either way, and no point of a cardinal one beyond 6,000,000 (document 02, request 7).
abbrev pub reach : Basis → ℕ
reach Bezier = 5000000
reach BSpline = 5000000
reach (Cardinal c) = 6000000
reach Hermite = 5000000
reach (Loop n) = 5000000

-- The parameter of a basis, of which row 24 refuses those above 64 (`shape`); nought where it has none.
abbrev pub parameter_of : Basis → ℕ
parameter_of Bezier = 0
parameter_of BSpline = 0
parameter_of (Cardinal c) = c
parameter_of Hermite = 0
parameter_of (Loop n) = 0

-- Further from zero than n, either way.
abbrev pub beyond : ℕ → ℤ → Bool
beyond n z = ltb n (nat_abs z)

-- Four records inside a bound.
pub record Inside (n : ℕ) (p : Four) : Type 0 where
  pub a : nat_abs p.a ≤ n
  pub b : nat_abs p.b ≤ n
  pub c : nat_abs p.c ≤ n
  pub d : nat_abs p.d ≤ n

-- Four numbers, each at most its fellow.
pub record AtMost (q r : Four) : Type 0 where
  pub a : q.a ≤ℤ r.a
  pub b : q.b ≤ℤ r.b
  pub c : q.c ≤ℤ r.c
  pub d : q.d ≤ℤ r.d

abbrev pub all : ℤ → Four
all z = four z z z z

-- The box of four records on an axis: all are from lo to hi.
pub record Box (lo hi : ℤ) (p : Four) : Type 0 where
  pub low : AtMost (all lo) p
  pub high : AtMost p (all hi)
