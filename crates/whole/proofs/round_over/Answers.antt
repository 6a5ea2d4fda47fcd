-- The sum moved outwards and rounded to the greater is `nearest` (`moved-nearest`). Times the divisor it is at most half a divisor past the sum, so that the product fits, and what is left is
-- at most half a divisor.
use mathlib.Core.Path.{◌≡◌, sym, ap, ◌∙◌, subst}
use Prim.Native.Nat.{ℕ, ◌+◌, ◌*◌, ◌%◌, ◌^◌, ◌≤◌, ◌<◌}
use native.Mathlib.Nat.{mod-eq_of_lt, mul-pos, mul-le-mul, le_refl, lt_of_le_of_lt}
use native.Mathlib.Omega.{arith}
use lib.Dec.{lit<}
use lib.IntN.{ℤ, pos, nat_abs, neg_ℤ, ◌-ℤ◌, ◌*ℤ◌}
use lib.Pow.{pow_pos, pow_mono}
use mir.Syntax.{w64}
use mir.Val.{SFits, to_z}
use mir.ValLaws.{to_z_pos}
use Rattle.whole.specs.Nearest.{nearest, remainder}
use Rattle.whole.proofs.Fit.{kept, kept-is, nat_abs-add, nat_abs-neg, size_fits}
use Rattle.whole.specs.Inner.{farthest, half_to_greater, moved}
use Rattle.whole.proofs.Lifted.{moved-nearest, moved-size}
use Rattle.whole.proofs.Remainder.{product-size, remainder-close}
use Rattle.whole.proofs.round_over.Goals as goal

-- ---- what can be rounded over

module _ (s : goal.Start) where
  abbrev z : ℤ
  z = s.args.sum

  abbrev m : ℕ
  m = s.args.multiple

  abbrev e : ℕ
  e = 2 ^ s.args.bits

  abbrev d : ℕ
  d = m * e

  -- the divisor is at most 2^38
  divisor-small : d ≤ 2 ^ 38
  divisor-small = mul-le-mul s.requires.roundable.few (pow_mono {i = s.args.bits} {j = 30} s.requires.roundable.shallow)

  small : nat_abs z < 2 ^ 61
  small = lt_of_le_of_lt s.requires.sum_bound (lt_of_le_of_lt (mul-le-mul divisor-small (le_refl farthest)) (lit< tt))

  some : 0 < d
  some = mul-pos s.requires.roundable.some (pow_pos s.args.bits)

pub outwards-requires : goal.outwards-requires
outwards-requires c = (subst (λ x. nat_abs x < 2 ^ 62) (sym (kept-is w64 (z c) c.ranges.sum)) (omega (arith, small c)), omega (arith, c.requires.roundable.shallow))

-- the sum moved outwards
moved-is : (c : goal.After-outwards) → kept w64 c.outwards.result ≡ moved (e c.before) (z c.before)
moved-is c =
    let s = c.before in
    kept-is w64 c.outwards.result (record { sfits = c.outwards.type_inv }) ∙ c.outwards.ensures ∙ ap (moved (e s)) (kept-is w64 (z s) s.ranges.sum)

pub nearest_up-whole-requires : goal.nearest_up-whole-requires
nearest_up-whole-requires c =
    let s = c.before in
    record {
      roundable = s.requires.roundable;
      sum_bound = subst (λ x. nat_abs x ≤ d s * farthest + 1) (sym (moved-is c)) (omega (arith, moved-size (z s) (e s), s.requires.sum_bound));
    }

-- two numbers far inside 64 bits have a difference inside them
apart-fits : (a b : ℤ) → nat_abs a < 2 ^ 62 → nat_abs b < 2 ^ 62 → SFits w64 (a -ℤ b)
apart-fits a b h k = size_fits w64 (a -ℤ b) (omega (arith, nat_abs-add a (neg_ℤ b), nat_abs-neg b, h, k))

-- ---- the number, and what is left over

module _ (c : goal.After-nearest_up-whole) where
  abbrev start : goal.Start
  start = c.before.before

  abbrev sum : ℤ
  sum = z start

  abbrev over : ℕ
  over = d start

  divisor-is : to_z w64 (over % 2 ^ 64) ≡ pos over
  divisor-is =
      let small : over < 2 ^ 63 = omega (arith, divisor-small start) in
      let held : over < 2 ^ 64 = omega arith in
      ap (to_z w64) (mod-eq_of_lt held) ∙ to_z_pos w64 over small

  whole_is : kept w64 c.nearest_up-whole.result ≡ nearest sum over
  whole_is =
      kept-is w64 c.nearest_up-whole.result (record { sfits = c.nearest_up-whole.type_inv })
      ∙ c.nearest_up-whole.ensures
      ∙ ap (half_to_greater (m start) (e start)) (moved-is c.before)
      ∙ moved-nearest sum (m start) (e start) start.requires.roundable.some start.requires.roundable.even (pow_pos start.args.bits)

  product_is : to_z w64 (over % 2 ^ 64) *ℤ kept w64 c.nearest_up-whole.result ≡ pos over *ℤ nearest sum over
  product_is = λ i. divisor-is i *ℤ whole_is i

  product-fits : SFits w64 (pos over *ℤ nearest sum over)
  product-fits = size_fits w64 (pos over *ℤ nearest sum over) (omega (arith, product-size sum over, small start, divisor-small start))

  product-kept : kept w64 (to_z w64 (over % 2 ^ 64) *ℤ kept w64 c.nearest_up-whole.result) ≡ pos over *ℤ nearest sum over
  product-kept = ap (kept w64) product_is ∙ kept-is w64 (pos over *ℤ nearest sum over) product-fits

  sum-kept : kept w64 sum ≡ sum
  sum-kept = kept-is w64 sum start.ranges.sum

  sum-small : nat_abs sum < 2 ^ 62
  sum-small = omega (arith, small start)

  product-small : nat_abs (pos over *ℤ nearest sum over) < 2 ^ 62
  product-small = omega (arith, product-size sum over, small start, divisor-small start)

  left-fits : SFits w64 (remainder sum over)
  left-fits = size_fits w64 (remainder sum over) (omega (arith, remainder-close sum over (some start), divisor-small start))

pub overflow_mul-result : goal.overflow_mul-result
overflow_mul-result c = subst (SFits w64) (sym (product_is c)) (product-fits c)

pub overflow_sub-result : goal.overflow_sub-result
overflow_sub-result c =
    subst (SFits w64) (sym (λ i. sum-kept c i -ℤ product-kept c i)) (apart-fits (sum c) (pos (over c) *ℤ nearest (sum c) (over c)) (sum-small c) (product-small c))

pub returns : goal.returns
unfolding remainder
returns c =
    let left = ap (kept w64) (λ i. sum-kept c i -ℤ product-kept c i) ∙ kept-is w64 (remainder (sum c) (over c)) (left-fits c) in
    λ i. record { whole = whole_is c i; remainder = left i }
