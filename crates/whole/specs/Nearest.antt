-- Rounding once (document 01, "The curve, exactly", with document 02's request 1): a fraction z / d goes to the nearest whole number, and an exact half away from zero.
-- Document 02's request 9 asks what is left over. Definitions only; the laws that other crates use are in proofs/Nearest.antt.
use Rattle.std.specs.Prelude.{◌≡◌, ℕ, suc, ◌+◌, ◌*◌, ◌/◌, ◌≤◌, ℤ, pos, negsuc, neg_ℤ, nat_abs, ◌-ℤ◌, ◌*ℤ◌}
use Rattle.whole.specs.declared.Rounding.{Rounding}

-- The whole number nearest to n / d, a half up: the whole part of n / d + 1/2, which is (2n + d) / 2d.
unfoldable pub half_up : ℕ → ℕ → ℕ
half_up n d = (2 * n + d) / (2 * d)

-- The whole number nearest to z / d, a half away from zero: the size is rounded, a half up, and the sign put back.
unfoldable pub nearest : ℤ → ℕ → ℤ
nearest (pos n) d = pos (half_up n d)
nearest (negsuc n) d = neg_ℤ (pos (half_up (suc n) d))

-- What is left over, with its sign: the exact value less that number, over the same divisor, so that z is d times the number and the remainder.
unfoldable pub remainder : ℤ → ℕ → ℤ
remainder z d = z -ℤ pos d *ℤ nearest z d

-- Both together.
abbrev pub rounding : ℤ → ℕ → Rounding
rounding z d = record { whole = nearest z d; remainder = remainder z d }

-- What the paper's words ask of the number n that z / d is rounded to: it is at most a half away, and where it is exactly a half away it is, of the two that are, the one away
-- from zero. The distance is taken d times, |z - d·n|.
pub record Rounded (z : ℤ) (d : ℕ) (n : ℤ) : Type 0 where
  pub close : 2 * nat_abs (z -ℤ pos d *ℤ n) ≤ d
  pub away : 2 * nat_abs (z -ℤ pos d *ℤ n) ≡ d → nat_abs z ≤ d * nat_abs n
