-- What rounding the ends of a chord adds: each end moves by at most a half, so the chord does so at every fraction.
use mathlib.Core.Path.{◌≡◌, ap}
use mathlib.Core.List.{[], ◌∷◌}
use Prim.Native.Nat.{ℕ, ◌+◌, ◌*◌, ◌-◌, ◌≤◌}
use native.Mathlib.Nat.{le_refl, mul-le-mul, mul_assoc, mul_left_comm, mul-add, add-mul}
use native.Mathlib.Omega.{arith}
use lib.IntN.{ℤ, pos, nat_abs, ◌+ℤ◌, ◌-ℤ◌, ◌*ℤ◌}
use Rattle.whole.proofs.Ring.{var, ◌⊕◌, ◌⊖◌, ◌⊗◌, solve}
use Rattle.whole.proofs.Fit.{ev-size}
use Rattle.curve.proofs.Reflect.{num}
use Rattle.stray.specs.Chord.{Bound, Within, half_more, off_chord}

-- the ends a and c, over d, are rounded to m and n
module _ (w j d : ℕ) (a c z m n : ℤ) (h : j ≤ w) (on-a : 2 * nat_abs (a -ℤ pos d *ℤ m) ≤ d) (on-c : 2 * nat_abs (c -ℤ pos d *ℤ n) ≤ d) where
  abbrev exact : ℤ
  exact = off_chord w j a c z

  abbrev moved : ℤ
  moved = off_chord w j (pos d *ℤ m) (pos d *ℤ n) z

  -- twice as far, at most d more
  half-more : 2 * nat_abs moved ≤ 2 * nat_abs exact + w * d
  half-more =
      let u = w - j in
      let x = a -ℤ pos d *ℤ m in
      let y = c -ℤ pos d *ℤ n in
      let is : moved ≡ exact +ℤ (pos u *ℤ x +ℤ pos j *ℤ y) =
      solve (pos w ∷ pos u ∷ pos j ∷ pos d ∷ a ∷ c ∷ z ∷ m ∷ n ∷ [])
      (var 0 ⊗ var 6 ⊖ (var 1 ⊗ (var 3 ⊗ var 7) ⊕ var 2 ⊗ (var 3 ⊗ var 8)))
      (var 0 ⊗ var 6 ⊖ (var 1 ⊗ var 4 ⊕ var 2 ⊗ var 5) ⊕ (var 1 ⊗ (var 4 ⊖ var 3 ⊗ var 7) ⊕ var 2 ⊗ (var 5 ⊖ var 3 ⊗ var 8))) tt in
      let size : nat_abs (exact +ℤ (pos u *ℤ x +ℤ pos j *ℤ y)) ≤ nat_abs exact + (u * nat_abs x + j * nat_abs y) =
      ev-size (exact ∷ x ∷ y ∷ []) (nat_abs exact ∷ nat_abs x ∷ nat_abs y ∷ []) (le_refl _, (le_refl _, (le_refl _, tt))) (var 0 ⊕ (num u ⊗ var 1 ⊕ num j ⊗ var 2)) in
      let whole : u + j ≡ w = omega arith in
      omega (arith, ap nat_abs is, size, mul-le-mul (le_refl u) on-a, mul-le-mul (le_refl j) on-c, mul_left_comm u 2 (nat_abs x), mul_left_comm j 2 (nat_abs y), add-mul u j d, ap (λ (k : ℕ). k * d) whole)

  pub rounded-within : (f : Bound) → Within f exact (w * d) → Within (half_more f) moved (w * d)
  rounded-within f within =
      let o = f.over in
      let v = f.under in
      omega (
        arith,
        within,
        mul-le-mul (le_refl v) half-more,
        mul_assoc 2 v (nat_abs moved),
        mul_left_comm v 2 (nat_abs moved),
        mul-add v (2 * nat_abs exact) (w * d),
        mul_left_comm v 2 (nat_abs exact),
        add-mul (2 * o) v (w * d),
        mul_assoc 2 o (w * d),
      )
