-- At t = 1 the sum is the cube of 2^depth times the last control (`weighted-end`), and 64 bits hold it.
use mathlib.Core.Path.{◌≡◌, sym, ap, ◌∙◌, subst}
use Prim.Native.Nat.{ℕ, ◌*◌, ◌%◌, ◌^◌, ◌≤◌}
use native.Mathlib.Nat.{le_trans, le_of_eq, mul-le-mul, lt_of_le_of_lt}
use native.Mathlib.Omega.{arith}
use lib.Dec.{lit<}
use lib.IntN.{pos, ◌*ℤ◌}
use lib.Pow.{pow_mono}
use mir.Syntax.{w64}
use mir.Val.{SFits, to_z}
use mir.ValLaws.{to_z_pos}
use Rattle.whole.proofs.Fit.{kept, kept-is, nat_abs_mul, sfits}
use Rattle.curve.specs.declared.Four.{Four}
use Rattle.curve.specs.Limits.{Inside}
use Rattle.curve.specs.Inner.{widest, most_bits}
use Rattle.curve.specs.Ways.{deepest}
use Rattle.curve.proofs.Powers.{cube, thrice, shift_one}
use Rattle.curve.proofs.Span.{weighted-end}
use Rattle.spans.proofs.draft.end_sum.Goals as goal

module _ (k : ℕ) (q : Four) (h : k ≤ deepest) (inside : Inside widest q) where
  power : 2 ^ (3 * k) ≤ 2 ^ most_bits
  power = pow_mono {i = 3 * k} {j = most_bits} (omega arith)

  -- the machine's product is of the power of two and the control
  product : to_z w64 (1 * 2 ^ (3 * k) % 2 ^ 64) *ℤ kept w64 q.d ≡ pos (2 ^ (3 * k)) *ℤ q.d
  product =
      ap (λ x. x *ℤ kept w64 q.d) (ap (to_z w64) (shift_one (3 * k) (omega arith)) ∙ to_z_pos w64 (2 ^ (3 * k)) (lt_of_le_of_lt power (lit< tt)))
      ∙ ap (λ x. pos (2 ^ (3 * k)) *ℤ x) (kept-is w64 q.d (sfits w64 q.d widest inside.d tt))

  fits : SFits w64 (pos (2 ^ (3 * k)) *ℤ q.d)
  fits = sfits w64 (pos (2 ^ (3 * k)) *ℤ q.d) (2 ^ most_bits * widest) (le_trans (le_of_eq (nat_abs_mul (pos (2 ^ (3 * k))) q.d)) (mul-le-mul power inside.d)) tt

pub overflow_mul-result : goal.overflow_mul-result
overflow_mul-result c =
    let a = c.args in
    let p = c.requires in
    subst (SFits w64) (sym (product a.depth a.q p.depth_le_deepest p.inside)) (fits a.depth a.q p.depth_le_deepest p.inside)

pub returns : goal.returns
unfolding cube
returns c =
    let a = c.args in
    let p = c.requires in
    ap (kept w64) (product a.depth a.q p.depth_le_deepest p.inside)
    ∙ kept-is w64 (pos (2 ^ (3 * a.depth)) *ℤ a.q.d) (fits a.depth a.q p.depth_le_deepest p.inside)
    ∙ ap (λ (n : ℕ). pos n *ℤ a.q.d) (thrice a.depth)
    ∙ sym (weighted-end a.q (pos (2 ^ a.depth)))
