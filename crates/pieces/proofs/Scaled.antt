-- The start of a piece, and the sum of the even outline at the finest level there: the same fraction, with both parts as many times as large as cuts are left. So it is rounded to the same
-- number, is exact where that is, and is within the reach of its own divisor.
use mathlib.Core.Path.{◌≡◌, sym, ap, ◌∙◌, subst}
use Prim.Native.Nat.{ℕ, ◌+◌, ◌*◌, ◌-◌, ◌^◌, ◌≤◌}
use native.Mathlib.Nat.{mul_assoc, le_of_mul-le-mul_left}
use native.Mathlib.Omega.{arith}
use lib.IntN.{pos, nat_abs, ◌*ℤ◌}
use lib.Pow.{pow_pos}
use Rattle.whole.proofs.Fit.{nat_abs_mul}
use Rattle.curve.specs.declared.Four.{Four}
use Rattle.curve.specs.declared.Basis.{Basis}
use Rattle.curve.specs.Inner.{far_reach}
use Rattle.curve.specs.Span.{weighted, divisor}
use Rattle.curve.proofs.Bits.{divisor-again}
use Rattle.curve.proofs.Powers.{cube, thrice}
use Rattle.curve.proofs.Span.{weighted-start}
use Rattle.spans.specs.Inner.{Cuttable}
use Rattle.pieces.specs.Tree.{finest}

-- by how much the finest divisor is finer than a level's
pub finer : (b : Basis) (level : ℕ) → level ≤ finest → divisor b finest ≡ 2 ^ (3 * (finest - level)) * divisor b level
finer b level h = let all : finest ≡ level + (finest - level) = omega arith in ap (divisor b) all ∙ divisor-again b level (finest - level)

-- the sum at a piece's start, with `left` more cuts to make
pub start-sum : (left : ℕ) (q : Four) → weighted q (pos 0) (pos (2 ^ left)) ≡ pos (2 ^ (3 * left)) *ℤ q.a
unfolding cube
start-sum left q = weighted-start q (pos (2 ^ left)) ∙ ap (λ (n : ℕ). pos n *ℤ q.a) (sym (thrice left))

pub start-near : (b : Basis) (level : ℕ) (q : Four) → level ≤ finest → Cuttable (finest - level) (divisor b finest) q → nat_abs q.a ≤ divisor b level * far_reach
start-near b level q h cut =
    let left = finest - level in
    let m = 2 ^ (3 * left) in
    let near : nat_abs (weighted q (pos 0) (pos (2 ^ left))) ≤ divisor b finest * far_reach = cut.near 0 (pow_pos left) in
    let scaled : m * nat_abs q.a ≤ m * (divisor b level * far_reach) =
    subst (λ (n : ℕ). n ≤ m * (divisor b level * far_reach)) (ap nat_abs (start-sum left q) ∙ nat_abs_mul (pos m) q.a)
    (subst (λ (n : ℕ). nat_abs (weighted q (pos 0) (pos (2 ^ left))) ≤ n) (ap (λ (n : ℕ). n * far_reach) (finer b level h) ∙ mul_assoc m (divisor b level) far_reach) near) in
    le_of_mul-le-mul_left scaled (pow_pos (3 * left))
