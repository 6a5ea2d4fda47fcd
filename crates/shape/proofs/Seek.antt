-- The first number that passes a test: what lies below it fails, and where the search ends early it passes. By induction on how many are left to look at.
use mathlib.Core.Path.{◌≡◌, sym, ap, ◌∙◌, subst}
use mathlib.Core.Bool.{Bool, true, false}
use mathlib.Core.Logic.{◌⊎◌, inl, inr, ⊎_elim}
use Prim.Native.Nat.{ℕ, zero, suc, ◌+◌, ◌-◌, ◌≤◌, ◌<◌}
use native.Mathlib.Omega.{arith}
use borrow.Author.Tests.{ltb-true, ltb-false}
use lib.Dec.{ltb}
use Rattle.shape.specs.Refusals.{seek}
use Rattle.shape.proofs.Tests.{passes, true-is-not-false}

split : (a b : ℕ) → a ≤ b → (a ≡ b) ⊎ (a < b)
split a b h = ⊎_elim (λ e. inr (ltb-true a b e)) (λ e. inl (omega (arith, ltb-false a b e))) (passes (ltb a b))

module _ (test : ℕ → Bool) where
  -- ---- one step

  pub seek-here : (i n : ℕ) → 0 < n → test i ≡ true → seek test i n ≡ i
  unfolding seek
  seek-here i zero h e = absurd (omega arith)
  seek-here i (suc n) h e = rw e

  pub seek-on : (i n : ℕ) → test i ≡ false → seek test i (suc n) ≡ seek test (suc i) n
  unfolding seek
  seek-on i n e = rw e

  -- the same from i to n, as a loop has it
  pub seek-step : (i n : ℕ) → i < n → test i ≡ false → seek test (i + 1) (n - (i + 1)) ≡ seek test i (n - i)
  seek-step i n h e =
      let one : i + 1 ≡ suc i = omega arith in
      let left : suc (n - (i + 1)) ≡ n - i = omega arith in
      ap (λ j. seek test j (n - (i + 1))) one ∙ sym (seek-on i (n - (i + 1)) e) ∙ ap (seek test i) left

  pub seek-end : (i n : ℕ) → n ≤ i → seek test i (n - i) ≡ i
  unfolding seek
  seek-end i n h = let none : n - i ≡ 0 = omega arith in ap (seek test i) none

  -- ---- where it ends

  pub seek-from : (i n : ℕ) → i ≤ seek test i n
  unfolding seek
  seek-from i zero = omega arith
  seek-from i (suc n) = ⊎_elim (λ e. omega (arith, seek-here i (suc n) (omega arith) e)) (λ e. omega (arith, seek-on i n e, seek-from (suc i) n)) (passes (test i))

  pub seek-to : (i n : ℕ) → seek test i n ≤ i + n
  unfolding seek
  seek-to i zero = omega arith
  seek-to i (suc n) = ⊎_elim (λ e. omega (arith, seek-here i (suc n) (omega arith) e)) (λ e. omega (arith, seek-on i n e, seek-to (suc i) n)) (passes (test i))

  -- ---- what it finds

  pub seek-fails : (i n k : ℕ) → i ≤ k → k < seek test i n → test k ≡ false
  unfolding seek
  seek-fails i zero k h l = absurd (omega arith)
  seek-fails i (suc n) k h l =
      ⊎_elim (λ e. absurd (omega (arith, seek-here i (suc n) (omega arith) e)))
      (λ e. ⊎_elim (λ (d : i ≡ k). subst (λ j. test j ≡ false) d e) (λ (d : i < k). seek-fails (suc i) n k d (omega (arith, seek-on i n e))) (split i k h))
      (passes (test i))

  pub seek-passes : (i n : ℕ) → seek test i n < i + n → test (seek test i n) ≡ true
  unfolding seek
  seek-passes i zero h = absurd (omega arith)
  seek-passes i (suc n) h =
      ⊎_elim (λ e. subst (λ j. test j ≡ true) (sym (seek-here i (suc n) (omega arith) e)) e)
      (λ e. subst (λ j. test j ≡ true) (sym (seek-on i n e)) (seek-passes (suc i) n (omega (arith, seek-on i n e))))
      (passes (test i))

  -- ---- what determines it

  pub seek-none : (i n : ℕ) → ((j : ℕ) → i ≤ j → j < i + n → test j ≡ false) → seek test i n ≡ i + n
  seek-none i n fails =
      ⊎_elim (λ d. d) (λ d. absurd (true-is-not-false (seek-passes i n d) (fails (seek test i n) (seek-from i n) d))) (split (seek test i n) (i + n) (seek-to i n))
