-- Rounding (document 01, "The curve, exactly", with document 02's request 1): "rounded once to the nearest whole number", an exact half away from zero. Every point and every number
-- of a drawing step is rounded by `nearest`; here is what that comes to for a fraction z / d.
use mathlib.Core.Path.{◌≡◌, ap, ◌∙◌}
use mathlib.Core.Logic.{◌↔◌}
use Prim.Native.Nat.{ℕ, ◌+◌, ◌*◌, ◌≤◌, ◌<◌}
use lib.IntN.{ℤ, pos, neg_ℤ, nat_abs, ◌+ℤ◌, ◌*ℤ◌}
use Rattle.whole.specs.Nearest.{nearest, remainder, Rounded}
use Rattle.whole.proofs.Nearest as whole
use Rattle.whole.proofs.Remainder as leaves

-- it is at most a half away, and where it is exactly a half away it is, of the two that are, the one away from zero
pub nearest-rounds : (z : ℤ) (d : ℕ) → 0 < d → Rounded z d (nearest z d)
nearest-rounds = whole.nearest-rounded

-- no other whole number is so
pub no_other : (z : ℤ) (d : ℕ) (n : ℤ) → 0 < d → Rounded z d n → n ≡ nearest z d
no_other = whole.rounded-nearest

-- n and a half goes to n + 1, and its negative to the negative of n + 1
pub half-away : (z d n : ℕ) → 0 < d → 2 * z ≡ d * (2 * n + 1) → (nearest (pos z) d ≡ pos (n + 1)) × (nearest (neg_ℤ (pos z)) d ≡ neg_ℤ (pos (n + 1)))
half-away = whole.half-away

-- a fraction and its negative are rounded to a number and its negative
pub nearest-minus : (z : ℤ) (d : ℕ) → nearest (neg_ℤ z) d ≡ neg_ℤ (nearest z d)
nearest-minus = whole.nearest-minus

-- ---- what is left over (document 02, request 9)

-- the number and the remainder make up the fraction, and twice the remainder's size is at most the divisor
pub remainder-left : (z : ℤ) (d : ℕ) → 0 < d → (z ≡ pos d *ℤ nearest z d +ℤ remainder z d) × (2 * nat_abs (remainder z d) ≤ d)
remainder-left z d h = (leaves.remainder-sum z d, leaves.remainder-close z d h)

-- it is nought exactly where the fraction is whole
pub nought-exactly : (z : ℤ) (d : ℕ) → 0 < d → (remainder z d ≡ pos 0) ↔ ((n : ℤ) × (z ≡ pos d *ℤ n))
nought-exactly z d h = ((λ e. (nearest z d, leaves.nought-whole z d e)), (λ (n, e). ap (λ x. remainder x d) e ∙ leaves.whole-nought n d h))

-- a fraction and its negative leave a remainder and its negative
pub remainder-minus : (z : ℤ) (d : ℕ) → remainder (neg_ℤ z) d ≡ neg_ℤ (remainder z d)
remainder-minus = leaves.remainder-minus
