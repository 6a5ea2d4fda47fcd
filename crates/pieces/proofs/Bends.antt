-- How large second differences and divisors are at the levels that pieces have.
use mathlib.Core.Path.{◌≡◌, sym, ap, ◌∙◌, subst}
use mathlib.Core.List.{[], ◌∷◌}
use Prim.Native.Nat.{ℕ, ◌+◌, ◌*◌, ◌%◌, ◌^◌, ◌≤◌}
use native.Mathlib.Nat.{mod-eq_of_lt, lt_of_le_of_lt}
use native.Mathlib.Omega.{arith}
use lib.Dec.{lit<}
use lib.IntN.{nat_abs}
use Rattle.whole.proofs.Fit.{Bounded, ev-size}
use Rattle.curve.specs.declared.Four.{Four}
use Rattle.curve.specs.declared.Basis.{Basis}
use Rattle.curve.specs.Bend.{bend, first_bend, last_bend}
use Rattle.curve.specs.Limits.{Inside}
use Rattle.curve.specs.Span.{divisor}
use Rattle.curve.specs.Inner.{bits_of, divisor_of, most_bits}
use Rattle.curve.proofs.Bits.{divisor-bits, divisor-most, bits_most}
use Rattle.curve.proofs.Reflect.{p, first_bendᵉ, last_bendᵉ}
use Rattle.pieces.specs.Tree.{finest}

-- four times as large as the controls, at the most
pub bend-most : (n : ℕ) (q : Four) → Inside n q → bend q ≤ 4 * n
unfolding bend
bend-most n q inside =
    let r = q.a ∷ q.b ∷ q.c ∷ q.d ∷ [] in
    let bs = n ∷ n ∷ n ∷ n ∷ [] in
    let ok : Bounded r bs = (inside.a, (inside.b, (inside.c, (inside.d, tt)))) in
    let first : nat_abs (first_bend q) ≤ n + 2 * n + n = ev-size r bs ok (first_bendᵉ p) in
    let last : nat_abs (last_bend q) ≤ n + 2 * n + n = ev-size r bs ok (last_bendᵉ p) in
    omega arith

-- a divisor by its bits, and as the machine shifts it
module _ (b : Basis) (level bits : ℕ) (h : level ≤ finest) (e : bits ≡ bits_of b level) where
  is : divisor b level ≡ divisor_of bits
  is = divisor-bits b level ∙ ap divisor_of (sym e)

  pub divisor-small : divisor b level ≤ divisor_of most_bits
  divisor-small = subst (λ (n : ℕ). n ≤ divisor_of most_bits) (sym is) (divisor-most bits (subst (λ (n : ℕ). n ≤ most_bits) (sym e) (bits_most b level (omega arith))))

  pub divisor-is : 6 * 2 ^ bits % 2 ^ 64 ≡ divisor b level
  divisor-is = mod-eq_of_lt (lt_of_le_of_lt (subst (λ (n : ℕ). n ≤ divisor_of most_bits) is divisor-small) (lit< tt)) ∙ sym is
