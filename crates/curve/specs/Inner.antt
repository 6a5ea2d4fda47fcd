-- For contracts inside the project alone: no public contract uses what is here.
-- How large sums on the way may be, and divisors as the machine has them.
use Rattle.std.specs.Prelude.{ℕ, ◌+◌, ◌*◌, ◌^◌, ◌≤◌, ◌<◌, nat_abs}
use Rattle.curve.specs.declared.Basis.{Basis}
use Rattle.curve.specs.declared.Basis.TheVariants.{Bezier, BSpline, Cardinal, Hermite, Loop}
use Rattle.curve.specs.declared.Differences.{Differences}
use Rattle.curve.specs.Limits.{limit}
use Rattle.curve.specs.Span.{first_record, record_at}
use Rattle.curve.specs.Ways.{deepest}

-- Whole controls of records inside the limit are within this: 320 times the limit, by the cardinal row at parameter 64.
abbrev pub widest : ℕ
widest = 320 * limit

-- No weight of the table is above this.
abbrev pub heaviest : ℕ
heaviest = 2 ^ (3 * deepest + 4)

-- The farthest reach of any basis.
abbrev pub far_reach : ℕ
far_reach = 6000000

-- Every divisor is six times a power of two, since 192 is 6 · 2^5: the bits of a basis, and those of its divisor at depth k.
abbrev pub fold_bits : Basis → ℕ
fold_bits Bezier = 0
fold_bits BSpline = 0
fold_bits (Cardinal c) = 5
fold_bits Hermite = 0
fold_bits (Loop n) = 0

unfoldable pub bits_of : Basis → ℕ → ℕ
bits_of b k = fold_bits b + 3 * k

abbrev pub divisor_of : ℕ → ℕ
divisor_of bits = 6 * 2 ^ bits

-- The most bits of a divisor.
abbrev pub most_bits : ℕ
most_bits = 5 + 3 * deepest

-- A list of `len` numbers holds the four records from one on, as a basis counts them, and those of span s.
abbrev pub HoldsFrom : Basis → ℕ → ℕ → Type 0
HoldsFrom b first len = (r : ℕ) → r < 4 → 2 * record_at b (first + r) + 2 ≤ len

abbrev pub Holds : Basis → ℕ → ℕ → Type 0
Holds b s len = HoldsFrom b (first_record b s) len

-- A sum and its differences that are far from the ends of 64 bits.
pub record Small (s : Differences) : Type 0 where
  pub value : nat_abs s.value ≤ 2 ^ 61
  pub first : nat_abs s.first ≤ 2 ^ 61
  pub second : nat_abs s.second ≤ 2 ^ 61
  pub third : nat_abs s.third ≤ 2 ^ 61
