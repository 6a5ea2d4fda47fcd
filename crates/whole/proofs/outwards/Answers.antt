-- The ways through the code are the clauses of `moved`.
use mathlib.Core.Path.{◌≡◌, sym, ap, ◌∙◌}
use mathlib.Core.Bool.{Bool, true, false, cond}
use Prim.Native.Nat.{ℕ, suc, ◌^◌}
use native.Mathlib.Nat.{add-zero}
use native.Mathlib.Omega.{arith}
use lib.IntN.{ℤ, pos, negsuc, neg_ℤ, ◌-ℤ◌}
use lib.Signed.{lt_z}
use mir.Syntax.{w64}
use mir.Val.{SFits}
use Rattle.whole.specs.Inner.{moved, multiple_of}
use Rattle.whole.proofs.Order.{below-zero, not-below-zero}
use Rattle.whole.proofs.Fit.{kept, kept-is, nat_abs-add, size_fits}
use Rattle.whole.proofs.outwards.Goals as goal
use Rattle.whole.proofs.outwards.Goals.{else-sum-lt0-via-then-sum-lt0+else-is_multiple, else-sum-lt0-via-else-sum-lt0}

below-multiple : (z : ℤ) (e : ℕ) → lt_z z (pos 0) ≡ true → multiple_of e z ≡ true → z -ℤ pos 1 ≡ moved e z
unfolding moved
below-multiple z e below whole = let (n, is) = below-zero z below in ap (λ x. x -ℤ pos 1) is ∙ clause n (ap (multiple_of e) (sym is) ∙ whole) ∙ ap (moved e) (sym is)
  where
    clause : (n : ℕ) → multiple_of e (negsuc n) ≡ true → negsuc n -ℤ pos 1 ≡ moved e (negsuc n)
    clause n t = ap (λ (k : ℕ). negsuc (suc k)) (add-zero n) ∙ sym (ap (λ b. cond b (negsuc (suc n)) (negsuc n)) t)

below_other : (z : ℤ) (e : ℕ) → lt_z z (pos 0) ≡ true → multiple_of e z ≡ false → z ≡ moved e z
unfolding moved
below_other z e below other = let (n, is) = below-zero z below in is ∙ clause n (ap (multiple_of e) (sym is) ∙ other) ∙ ap (moved e) (sym is)
  where
    clause : (n : ℕ) → multiple_of e (negsuc n) ≡ false → negsuc n ≡ moved e (negsuc n)
    clause n t = sym (ap (λ b. cond b (negsuc (suc n)) (negsuc n)) t)

not-below : (z : ℤ) (e : ℕ) → lt_z z (pos 0) ≡ false → z ≡ moved e z
unfolding moved
not-below z e above = let (n, is) = not-below-zero z above in is ∙ sym (ap (moved e) is)

-- what the machine's test of the sum says of it
signed : (z : ℤ) → SFits w64 z → {b : Bool} → lt_z (kept w64 z) (pos 0) ≡ b → lt_z z (pos 0) ≡ b
signed z f e = ap (λ x. lt_z x (pos 0)) (sym (kept-is w64 z f)) ∙ e

pub returns-then-is_multiple : goal.returns-then-is_multiple
returns-then-is_multiple c =
    let z = c.args.sum in
    let e = 2 ^ c.args.bits in
    let is = kept-is w64 z c.ranges.sum in
    let fits = size_fits w64 (z -ℤ pos 1) (omega (arith, nat_abs-add z (neg_ℤ (pos 1)), c.requires.0)) in
    ap (λ x. kept w64 (x -ℤ pos 1)) is
    ∙ kept-is w64 (z -ℤ pos 1) fits
    ∙ below-multiple z e (signed z c.ranges.sum c.if-sum-lt0.true) (ap (multiple_of e) (sym is) ∙ sym c.is_multiple.ensures ∙ c.if-is_multiple.true)

pub returns-else-sum-lt0 : goal.returns-else-sum-lt0
returns-else-sum-lt0 c =
    let z = c.args.sum in
    let e = 2 ^ c.args.bits in
    let is = kept-is w64 z c.ranges.sum in
    elim c.else-sum-lt0.branch [
      | else-sum-lt0-via-then-sum-lt0+else-is_multiple w ↦
          is ∙ below_other z e (signed z c.ranges.sum w.if-sum-lt0.true) (ap (multiple_of e) (sym is) ∙ sym w.is_multiple.ensures ∙ w.if-is_multiple.false)
      | else-sum-lt0-via-else-sum-lt0 w ↦ is ∙ not-below z e (signed z c.ranges.sum w.if-sum-lt0.false)
    ]
