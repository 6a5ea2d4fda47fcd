-- What a rounding answers of a sum within the reach: its number is one that 32 bits hold, and its remainder one that 64 bits do.
use mathlib.Core.Path.{◌≡◌, sym, ap, ◌∙◌, subst}
use Prim.Native.Nat.{ℕ, ◌*◌, ◌^◌, ◌≤◌, ◌<◌}
use native.Mathlib.Nat.{mul-pos, le_trans, lt_of_le_of_lt, mul-le-mul, le_refl}
use native.Mathlib.Omega.{arith}
use lib.Dec.{lit<}
use lib.IntN.{ℤ, pos, nat_abs}
use lib.Pow.{pow_pos}
use mir.Syntax.{w32, w64}
use mir.Val.{SFits, to_z, of_z}
use Rattle.whole.specs.declared.Rounding.{Rounding}
use Rattle.whole.specs.Nearest.{nearest, remainder, rounding}
use Rattle.whole.proofs.Nearest.{nearest-size}
use Rattle.whole.proofs.Remainder.{remainder-close}
use Rattle.whole.proofs.Fit.{kept, kept-is, sfits, size_fits}
use Rattle.curve.specs.Inner.{far_reach, divisor_of, most_bits}
use Rattle.curve.proofs.Bits.{divisor-most}

module _ (bits : ℕ) (deep : bits ≤ most_bits) (z : ℤ) (near : nat_abs z ≤ divisor_of bits * far_reach) where
  abbrev d : ℕ
  d = divisor_of bits

  some : 0 < d
  some = mul-pos (lit< tt) (pow_pos bits)

  small : nat_abs (nearest z d) ≤ far_reach
  small = nearest-size z d far_reach some near

  left-fits : SFits w64 (remainder z d)
  left-fits =
      let most : d < 2 ^ 62 = lt_of_le_of_lt (divisor-most bits deep) (lit< tt) in
      size_fits w64 (remainder z d) (omega (arith, remainder-close z d some, most))

  -- the sum itself is far inside 64 bits
  pub sum-small : nat_abs z < 2 ^ 63
  sum-small = lt_of_le_of_lt (le_trans near (mul-le-mul (divisor-most bits deep) (le_refl far_reach))) (lit< tt)

  module _ (r : Rounding) (answer : r ≡ rounding z d) where
    whole_is : kept w64 r.whole ≡ nearest z d
    whole_is = ap (λ (q : Rounding). kept w64 q.whole) answer ∙ kept-is w64 (nearest z d) (sfits w64 (nearest z d) far_reach small tt)

    pub whole-fits : SFits w32 (kept w64 r.whole)
    whole-fits = subst (SFits w32) (sym whole_is) (sfits w32 (nearest z d) far_reach small tt)

    pub stored : kept w32 (kept w64 r.whole) ≡ nearest z d
    stored = ap (kept w32) whole_is ∙ kept-is w32 (nearest z d) (sfits w32 (nearest z d) far_reach small tt)

    left_is : kept w64 r.remainder ≡ remainder z d
    left_is = ap (λ (q : Rounding). kept w64 q.remainder) answer ∙ kept-is w64 (remainder z d) left-fits

    -- what the test of the remainder as the machine keeps it says
    pub tested : of_z w64 r.remainder ≡ 0 → remainder z d ≡ pos 0
    tested e = sym left_is ∙ ap (to_z w64) e

    pub untested : remainder z d ≡ pos 0 → of_z w64 r.remainder ≡ 0
    untested e = ap (λ (q : Rounding). of_z w64 q.remainder) answer ∙ ap (of_z w64) e
