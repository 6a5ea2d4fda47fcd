-- The shifted sum is no farther from zero than what it is lifted by, so it comes above zero, and 32 bits hold it there; divided and put back it is the rule's (`lift-div`).
use mathlib.Core.Path.{◌≡◌, refl, sym, ap, ◌∙◌, subst}
use mathlib.Core.List.{[], ◌∷◌}
use Prim.Native.Nat.{ℕ, suc, ◌+◌, ◌*◌, ◌-◌, ◌/◌, ◌^◌, ◌≤◌, ◌<◌}
use native.Mathlib.Nat.{add-mul, mul_comm, mul_assoc, div-lt_iff_lt-mul, div-le_self, lt_of_le_of_lt}
use native.Mathlib.Omega.{arith}
use lib.Dec.{T}
use lib.IntN.{ℤ, pos, negsuc, neg_ℤ, nat_abs, ◌+ℤ◌, ◌-ℤ◌}
use lib.Pow.{pow_pos}
use lib.Signed.{shr_z, mag_shr, non_neg}
use mir.Syntax.{w32, w64}
use mir.Val.{Fits, SFits, to_z}
use mir.ValLaws.{to_z_pos}
use Rattle.whole.specs.Inner.{farthest, half_to_greater}
use Rattle.whole.proofs.Ring.{var, ◌⊕◌, solve}
use Rattle.whole.proofs.Order.{subℕ-pos}
use Rattle.whole.proofs.Fit.{kept, kept-is, nat_abs-add, nat_abs-neg, size_fits}
use Rattle.whole.proofs.Lifted.{lift-div}
use Rattle.whole.proofs.nearest_up.Goals as goal

-- ---- how far from zero a shifted sum is

shift-size : (z : ℤ) (e k : ℕ) → 0 < e → nat_abs z ≤ k * e + 1 → nat_abs (shr_z z e) ≤ k + 1
shift-size (pos n) e k h b =
    let below : n / e < k + 2 = (div-lt_iff_lt-mul {k = e} {x = n} {y = k + 2} h).1 (omega (arith, add-mul k 2 e)) in
    omega arith
shift-size (negsuc n) e k h b =
    let below : n / e < k + 1 = (div-lt_iff_lt-mul {k = e} {x = n} {y = k + 1} h).1 (omega (arith, add-mul k 1 e)) in
    omega arith

-- a number lifted by as much as it is from zero, or more, is a natural one
natural : (x : ℤ) (k : ℕ) → nat_abs x ≤ k → (n : ℕ) × (x +ℤ pos k ≡ pos n) × (n ≤ nat_abs x + k)
natural (pos a) k h = (a + k, refl, omega arith)
natural (negsuc a) k h = (k - suc a, subℕ-pos k (suc a) (k - suc a) (omega arith), omega arith)

module _ (c : goal.Start) where
  abbrev z : ℤ
  z = c.args.sum

  abbrev m : ℕ
  m = c.args.multiple

  abbrev e : ℕ
  e = 2 ^ c.args.bits

  abbrev lift : ℕ
  lift = 2 ^ 23

  abbrev x : ℤ
  x = shr_z z e

  near : nat_abs x ≤ m * farthest + 1
  near =
      let swap : m * e * farthest ≡ m * farthest * e = mul_assoc m e farthest ∙ ap (λ (n : ℕ). m * n) (mul_comm e farthest) ∙ sym (mul_assoc m farthest e) in
      shift-size z e (m * farthest) (pow_pos c.args.bits) (omega (arith, swap, c.requires.sum_bound))

  shifted-is : kept w64 (shr_z (kept w64 z) e) ≡ x
  shifted-is =
      ap (λ y. kept w64 (shr_z y e)) (kept-is w64 z c.ranges.sum)
      ∙ kept-is w64 x (record { sfits = lt_of_le_of_lt (mag_shr z e) c.ranges.sum.sfits })

  more-is : to_z w64 (m * lift + m / 2) ≡ pos (m * lift + m / 2)
  more-is = to_z_pos w64 (m * lift + m / 2) (omega (arith, c.requires.roundable.few))

  above : (n : ℕ) × (x +ℤ pos (m * lift + m / 2) ≡ pos n) × (n ≤ nat_abs x + (m * lift + m / 2))
  above = natural x (m * lift + m / 2) (omega (arith, near, c.requires.roundable.some))

  abbrev n : ℕ
  n = above.0

  held : n < 2 ^ 32
  held = omega (arith, above.2, near, c.requires.roundable.few, c.requires.roundable.some)

  lifted-is : kept w64 (shr_z (kept w64 z) e) +ℤ to_z w64 (m * lift + m / 2) ≡ pos n
  lifted-is = (λ i. shifted-is i +ℤ more-is i) ∙ above.1

  lifted-fits : SFits w64 (pos n)
  lifted-fits = size_fits w64 (pos n) (omega (arith, held))

  lifted-kept : kept w64 (kept w64 (shr_z (kept w64 z) e) +ℤ to_z w64 (m * lift + m / 2)) ≡ pos n
  lifted-kept = ap (kept w64) lifted-is ∙ kept-is w64 (pos n) lifted-fits

  quotient : n / m < 2 ^ 32
  quotient = lt_of_le_of_lt (div-le_self n m) held

  quotient_is : to_z w64 (n / m) ≡ pos (n / m)
  quotient_is = to_z_pos w64 (n / m) (omega (arith, quotient))

  back_is : pos (n / m) -ℤ pos lift ≡ half_to_greater m e z
  unfolding half_to_greater
  back_is =
      lift-div (x +ℤ pos (m / 2)) m lift n c.requires.roundable.some
      (solve (x ∷ pos (m / 2) ∷ pos (m * lift) ∷ []) (var 0 ⊕ var 1 ⊕ var 2) (var 0 ⊕ (var 2 ⊕ var 1)) tt ∙ above.1)

  back_fits : SFits w64 (pos (n / m) -ℤ pos lift)
  back_fits = size_fits w64 (pos (n / m) -ℤ pos lift) (omega (arith, nat_abs-add (pos (n / m)) (neg_ℤ (pos lift)), nat_abs-neg (pos lift), quotient))

pub overflow_add-lifted-2 : goal.overflow_add-lifted-2
overflow_add-lifted-2 c = subst (SFits w64) (sym (lifted-is c)) (lifted-fits c)

pub overflow_cast-result : goal.overflow_cast-result
overflow_cast-result c = subst (λ x. T (non_neg x) × Fits w32 (nat_abs x)) (sym (lifted-kept c)) (tt, record { fits = held c })

pub returns : goal.returns
returns c =
    ap (λ x. kept w64 (to_z w64 (nat_abs x / m c) -ℤ pos (2 ^ 23))) (lifted-kept c)
    ∙ ap (λ x. kept w64 (x -ℤ pos (2 ^ 23))) (quotient_is c)
    ∙ kept-is w64 (pos (n c / m c) -ℤ pos (2 ^ 23)) (back_fits c)
    ∙ back_is c
