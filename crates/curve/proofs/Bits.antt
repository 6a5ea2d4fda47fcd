-- The divisor of a basis at a depth is six times a power of two, and how large it and a reach become.
use mathlib.Core.Path.{◌≡◌, refl, sym, ap, ◌∙◌}
use Prim.Native.Nat.{ℕ, ◌+◌, ◌*◌, ◌^◌, ◌≤◌}
use native.Mathlib.Nat.{mul_assoc, mul_left_comm, mul-le-mul, le_refl}
use native.Mathlib.Omega.{arith}
use lib.Dec.{lit≤}
use lib.Pow.{pow-add, pow_mono}
use Rattle.curve.specs.declared.Basis.{Basis}
use Rattle.curve.specs.declared.Basis.TheVariants.{Bezier, BSpline, Cardinal, Hermite, Loop}
use Rattle.curve.specs.Limits.{reach}
use Rattle.curve.specs.Span.{fold, divisor}
use Rattle.curve.specs.Ways.{deepest}
use Rattle.curve.specs.Inner.{far_reach, fold_bits, bits_of, divisor_of, most_bits}

fold-bits : (b : Basis) → fold b ≡ 6 * 2 ^ fold_bits b
fold-bits Bezier = refl
fold-bits BSpline = refl
fold-bits (Cardinal c) = refl
fold-bits Hermite = refl
fold-bits (Loop n) = refl

pub divisor-bits : (b : Basis) (k : ℕ) → divisor b k ≡ divisor_of (bits_of b k)
unfolding bits_of
divisor-bits b k =
    ap (λ (n : ℕ). n * 2 ^ (3 * k)) (fold-bits b) ∙ mul_assoc 6 (2 ^ fold_bits b) (2 ^ (3 * k)) ∙ ap (λ (n : ℕ). 6 * n) (sym (pow-add 2 (fold_bits b) (3 * k)))

-- l depths more make it 2^(3l) times as large
pub divisor-again : (b : Basis) (k l : ℕ) → divisor b (k + l) ≡ 2 ^ (3 * l) * divisor b k
divisor-again b k l =
    let three : 3 * (k + l) ≡ 3 * l + 3 * k = omega arith in
    ap (λ (n : ℕ). fold b * 2 ^ n) three ∙ ap (λ (n : ℕ). fold b * n) (pow-add 2 (3 * l) (3 * k)) ∙ mul_left_comm (fold b) (2 ^ (3 * l)) (2 ^ (3 * k))

few_bits : (b : Basis) → fold_bits b ≤ 5
few_bits Bezier = lit≤ tt
few_bits BSpline = lit≤ tt
few_bits (Cardinal c) = lit≤ tt
few_bits Hermite = lit≤ tt
few_bits (Loop n) = lit≤ tt

pub bits_most : (b : Basis) (k : ℕ) → k ≤ deepest → bits_of b k ≤ most_bits
unfolding bits_of
bits_most b k h = omega (arith, few_bits b)

-- the greatest divisor
pub divisor-most : (bits : ℕ) → bits ≤ most_bits → divisor_of bits ≤ divisor_of most_bits
divisor-most bits h = mul-le-mul (le_refl 6) (pow_mono {i = bits} {j = most_bits} h)

pub reach-most : (b : Basis) → reach b ≤ far_reach
reach-most Bezier = lit≤ tt
reach-most BSpline = lit≤ tt
reach-most (Cardinal c) = lit≤ tt
reach-most Hermite = lit≤ tt
reach-most (Loop n) = lit≤ tt
