-- The chord theorem for a span of any basis, at the depths that steps have: n is 2^k, m is 2^l. First over the sums of document 01, then over the published curve, which is the same fraction.
use mathlib.Core.Path.{◌≡◌, refl, sym, ap, ◌∙◌, subst}
use mathlib.Core.List.{[], ◌∷◌}
use Prim.Native.Nat.{ℕ, zero, suc, ◌+◌, ◌*◌, ◌^◌, ◌≤◌, ◌<◌}
use native.Mathlib.Nat.{pow-suc, mul-le-mul, le_refl, le_trans, le_of_eq}
use lib.IntN.{ℤ, pos, nat_abs, ◌*ℤ◌}
use lib.Pow.{pow-add}
use Rattle.whole.proofs.Ring.{var, ◌⊗◌, solve}
use Rattle.whole.proofs.Order.{pos-injective}
use Rattle.curve.specs.declared.Four.{Four}
use Rattle.curve.specs.declared.Basis.{Basis}
use Rattle.curve.specs.Bend.{bend, first_bend, last_bend}
use Rattle.curve.specs.Published.{published, denominator}
use Rattle.curve.specs.Span.{fold, whole_controls, weighted, divisor, sum_at}
use Rattle.curve.proofs.Powers.{cube, thrice}
use Rattle.curve.proofs.Reflect.{num}
use Rattle.curve.proofs.Span.{same-value}
use Rattle.stray.specs.Chord.{Within, Meets, bend_bound, off_chord, finer}
use Rattle.stray.proofs.Chord.{off_curve, chord-most, chord-met}
use Rattle.stray.proofs.Over.{OneFraction, finer-one, within-published, meets-published}

-- 4^k is 2^k twice over
fours : (k : ℕ) → 4 ^ k ≡ 2 ^ k * 2 ^ k
fours zero = refl
fours (suc k) =
    pow-suc 4 k
    ∙ ap (λ (n : ℕ). n * 4) (fours k)
    ∙ pos-injective (solve (pos (2 ^ k) ∷ []) (var 0 ⊗ var 0 ⊗ num 4) (var 0 ⊗ num 2 ⊗ (var 0 ⊗ num 2)) tt)
    ∙ sym (ap (λ (n : ℕ). n * n) (pow-suc 2 k))

module _ (b : Basis) (p : Four) (k l i : ℕ) where
  abbrev q : Four
  q = whole_controls b p

  -- ---- over the sums: how far the one at step i·2^l + j of depth k + l is from the chord between those at i and i + 1 of depth k

  abbrev off_sums : ℕ → ℤ
  off_sums j = off_chord (2 ^ l) j (finer l (sum_at b k p i)) (finer l (sum_at b k p (i + 1))) (sum_at b (k + l) p (i * 2 ^ l + j))

  off-is : (j : ℕ) → off_sums j ≡ off_curve q i (2 ^ k) j (2 ^ l)
  off-is j = λ x. off_chord (2 ^ l) j (pos (thrice l x) *ℤ sum_at b k p i) (pos (thrice l x) *ℤ sum_at b k p (i + 1)) (weighted q (pos (i * 2 ^ l + j)) (pos (pow-add 2 k l x)))

  -- both sides of the bound, divided by what the controls are over
  size : (j : ℕ) → 4 * (4 ^ k * divisor b 0) * nat_abs (off_sums j) ≡ divisor b 0 * (4 * (2 ^ k * 2 ^ k * nat_abs (off_curve q i (2 ^ k) j (2 ^ l))))
  size j =
      (λ x. 4 * (fours k x * divisor b 0) * nat_abs (off-is j x))
      ∙ pos-injective (solve (pos (2 ^ k) ∷ pos (divisor b 0) ∷ pos (nat_abs (off_curve q i (2 ^ k) j (2 ^ l))) ∷ []) (num 4 ⊗ (var 0 ⊗ var 0 ⊗ var 1) ⊗ var 2) (var 1 ⊗ (num 4 ⊗ (var 0 ⊗ var 0 ⊗ var 2))) tt)

  most : divisor b 0 * (3 * bend q * (2 ^ l * cube (2 ^ k * 2 ^ l))) ≡ 3 * bend q * (2 ^ l * divisor b (k + l))
  most =
      (λ x. divisor b 0 * (3 * bend q * (2 ^ l * cube (sym (pow-add 2 k l) x))))
      ∙ (λ x. divisor b 0 * (3 * bend q * (2 ^ l * sym (thrice (k + l)) x)))
      ∙ pos-injective (solve (pos (bend q) ∷ pos (2 ^ l) ∷ pos (2 ^ (3 * (k + l))) ∷ pos (fold b) ∷ []) (var 3 ⊗ num 1 ⊗ (num 3 ⊗ var 0 ⊗ (var 1 ⊗ var 2))) (num 3 ⊗ var 0 ⊗ (var 1 ⊗ (var 3 ⊗ var 2))) tt)

  pub sums-within : (j : ℕ) → i < 2 ^ k → j ≤ 2 ^ l → Within (bend_bound (divisor b 0) q k) (off_sums j) (2 ^ l * divisor b (k + l))
  sums-within j hi hj = le_trans (le_of_eq (size j)) (le_trans (mul-le-mul (le_refl (divisor b 0)) (chord-most q i (2 ^ k) j (2 ^ l) hi hj)) (le_of_eq most))

  -- where both second differences are the same, in the middle
  pub sums-meet : (j : ℕ) → i < 2 ^ k → j + j ≡ 2 ^ l → first_bend q ≡ last_bend q → Meets (bend_bound (divisor b 0) q k) (off_sums j) (2 ^ l * divisor b (k + l))
  sums-meet j hi half same =
      let met : 4 * (2 ^ k * 2 ^ k * nat_abs (off_curve q i (2 ^ k) j (2 ^ l))) ≡ 3 * bend q * (2 ^ l * cube (2 ^ k * 2 ^ l)) =
      subst (λ (m : ℕ). 4 * (2 ^ k * 2 ^ k * nat_abs (off_curve q i (2 ^ k) j m)) ≡ 3 * bend q * (m * cube (2 ^ k * m))) half (chord-met q i (2 ^ k) j hi same) in
      size j ∙ ap (λ (n : ℕ). divisor b 0 * n) met ∙ most

  -- ---- over the published curve

  abbrev value : ℕ → ℕ → ℤ
  value depth step = published b p (pos step) (pos (2 ^ depth))

  abbrev pub off_published : ℕ → ℤ
  off_published j = off_chord (2 ^ l) j (finer l (value k i)) (finer l (value k (i + 1))) (value (k + l) (i * 2 ^ l + j))

  one : (depth step : ℕ) → OneFraction b (sum_at b depth p step) (value depth step)
  one depth step = record { same = same-value b depth p step }

  pub published-within : (j : ℕ) → i < 2 ^ k → j ≤ 2 ^ l → Within (bend_bound (divisor b 0) q k) (off_published j) (2 ^ l * (denominator b * 2 ^ (3 * (k + l))))
  published-within j hi hj = within-published (k + l) (2 ^ l) j (bend_bound (divisor b 0) q k) (finer-one l (one k i)) (finer-one l (one k (i + 1))) (one (k + l) (i * 2 ^ l + j)) (sums-within j hi hj)

  pub published-meets : (j : ℕ) → i < 2 ^ k → j + j ≡ 2 ^ l → first_bend q ≡ last_bend q → Meets (bend_bound (divisor b 0) q k) (off_published j) (2 ^ l * (denominator b * 2 ^ (3 * (k + l))))
  published-meets j hi half same = meets-published (k + l) (2 ^ l) j (bend_bound (divisor b 0) q k) (finer-one l (one k i)) (finer-one l (one k (i + 1))) (one (k + l) (i * 2 ^ l + j)) (sums-meet j hi half same)
