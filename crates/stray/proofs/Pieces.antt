-- A flat piece stays within the tolerance of its chord: the chord theorem for the piece's own controls, in one step, has three quarters of its larger second difference, and flat means that this is at most
-- the tolerance.
use mathlib.Core.Path.{◌≡◌, sym, ap, ◌∙◌, subst}
use mathlib.Core.Bool.{true}
use mathlib.Core.List.{[], ◌∷◌}
use mathlib.Core.Logic.{◌↔◌}
use Prim.Native.Nat.{ℕ, ◌+◌, ◌*◌, ◌-◌, ◌^◌, ◌≤◌}
use native.Mathlib.Nat.{le_refl, mul-le-mul, add-zero, zero-mul, one-mul, mul_left_comm}
use native.Mathlib.Omega.{arith}
use borrow.Author.Tests.{leb-true, le-leb}
use lib.Dec.{lit<}
use lib.IntN.{ℤ, pos, nat_abs, ◌*ℤ◌}
use lib.Pow.{pow-add}
use Rattle.whole.proofs.Ring.{var, ◌⊗◌, solve}
use Rattle.whole.proofs.Order.{pos-injective}
use Rattle.curve.specs.declared.Four.{Four}
use Rattle.curve.specs.declared.Basis.{Basis}
use Rattle.curve.specs.Bend.{bend}
use Rattle.curve.specs.Span.{divisor, weighted}
use Rattle.curve.proofs.Bits.{divisor-again}
use Rattle.curve.proofs.Powers.{cube, thrice}
use Rattle.curve.proofs.Reflect.{num}
use Rattle.curve.proofs.Table.{weighted-scale}
use Rattle.pieces.specs.Tree.{finest, flat_on}
use Rattle.pieces.proofs.Deep.{flat-within}
use Rattle.pieces.proofs.Even.{Covers}
use Rattle.stray.specs.Chord.{Within, bend_bound, micrometres, off_chord}
use Rattle.stray.proofs.Chord.{off_curve, chord-most}
use Rattle.stray.proofs.Neighbours.{Stretch, on-by}

-- flat on an axis means that the chord theorem's bound for the piece is at most the tolerance
pub flat-bound : (d tolerance : ℕ) (q : Four) → (flat_on d tolerance q ≡ true) ↔ ((bend_bound d q 0).over ≤ tolerance * (bend_bound d q 0).under)
flat-bound d tolerance q =
    let same : 4 * (tolerance * d) ≡ tolerance * (4 * (1 * d)) = mul_left_comm 4 tolerance d ∙ ap (λ (n : ℕ). tolerance * (4 * n)) (sym (one-mul d)) in
    ((λ e. subst (λ (n : ℕ). 3 * bend q ≤ n) same (leb-true _ _ e)), (λ h. le-leb _ _ (subst (λ (n : ℕ). 3 * bend q ≤ n) (sym same) h)))

-- ---- on one axis, where the sums of a piece of 2^n steps are those of a rule from step `from` on

module _ (q : Four) (at : ℕ → ℤ) (n from : ℕ) (c : Covers n from q at) where
  abbrev w : ℕ
  w = 2 ^ n

  -- w times as many steps
  scaled : (i : ℕ) → pos (cube w) *ℤ weighted q (pos i) (pos 1) ≡ weighted q (pos (i * w)) (pos w)
  unfolding cube
  scaled i = sym (ap (λ (m : ℕ). weighted q (pos (i * w)) (pos m)) (sym (one-mul w)) ∙ weighted-scale (pos w) q (pos i) (pos 1))

  off-is : (j : ℕ) → j ≤ w → off_chord w j (at from) (at (from + w)) (at (from + j)) ≡ off_curve q 0 1 j w
  off-is j h =
      let start : at from ≡ pos (cube w) *ℤ weighted q (pos 0) (pos 1) =
      ap at (sym (add-zero from)) ∙ sym (c 0 (omega arith)) ∙ ap (λ (m : ℕ). weighted q (pos m) (pos w)) (sym (zero-mul w)) ∙ sym (scaled 0) in
      let end : at (from + w) ≡ pos (cube w) *ℤ weighted q (pos 1) (pos 1) = sym (c w (le_refl w)) ∙ ap (λ (m : ℕ). weighted q (pos m) (pos w)) (sym (one-mul w)) ∙ sym (scaled 1) in
      let here : at (from + j) ≡ weighted q (pos (0 * w + j)) (pos (1 * w)) =
      let step : j ≡ 0 * w + j = omega arith in
      let steps : w ≡ 1 * w = omega arith in
      sym (c j h) ∙ (λ x. weighted q (pos (step x)) (pos (steps x))) in
      λ x. off_chord w j (start x) (end x) (here x)

  pub piece-within : (b : Basis) (tolerance level l : ℕ) → level + n ≡ finest + l → 3 * bend q ≤ 4 * (tolerance * divisor b level) → (j : ℕ) → j ≤ w
      → Within (micrometres tolerance) (off_chord w j (at from) (at (from + w)) (at (from + j))) (w * divisor b (finest + l))
  unfolding cube
  piece-within b tolerance level l deep flat j h =
      let all : divisor b (finest + l) ≡ cube w * divisor b level = ap (divisor b) (sym deep) ∙ divisor-again b level n ∙ ap (λ (m : ℕ). m * divisor b level) (thrice n) in
      let most : 4 * (tolerance * divisor b level) * (w * cube w) ≡ 4 * (tolerance * (w * divisor b (finest + l))) =
      pos-injective (solve (pos tolerance ∷ pos (divisor b level) ∷ pos w ∷ []) (num 4 ⊗ (var 0 ⊗ var 1) ⊗ (var 2 ⊗ (var 2 ⊗ var 2 ⊗ var 2))) (num 4 ⊗ (var 0 ⊗ (var 2 ⊗ (var 2 ⊗ var 2 ⊗ var 2 ⊗ var 1)))) tt)
      ∙ ap (λ (m : ℕ). 4 * (tolerance * (w * m))) (sym all) in
      let one : w * cube (1 * w) ≡ w * cube w = ap (λ (m : ℕ). w * cube m) (one-mul w) in
      omega (arith, ap nat_abs (off-is j h), chord-most q 0 1 j w (lit< tt) h, ap (λ (m : ℕ). 3 * bend q * m) one, mul-le-mul flat (le_refl (w * cube w)), most)

-- ---- from step g to step h of the finest depth

-- at every step of l more depths
abbrev pub Near : Basis → ℕ → ℕ → (ℕ → ℤ) → ℕ → ℕ → Type 0
Near b tolerance l at g h =
    let w = (h - g) * 2 ^ l in
    (j : ℕ) → j ≤ w → Within (micrometres tolerance) (off_chord w j (at (g * 2 ^ l)) (at (h * 2 ^ l)) (at (g * 2 ^ l + j))) (w * divisor b (finest + l))

module _ (b : Basis) (tolerance l : ℕ) (x y : ℕ → ℤ) (g h : ℕ) (s : Stretch b tolerance l x y g h) where
  abbrev left : ℕ
  left = s.left

  near : (q : Four) (at : ℕ → ℤ) → Covers (left + l) (g * 2 ^ l) q at → 3 * bend q ≤ 4 * (tolerance * divisor b s.piece.level) → Near b tolerance l at g h
  near q at c flat =
      let width : 2 ^ (left + l) ≡ (h - g) * 2 ^ l =
      let steps : 2 ^ left ≡ h - g = omega (arith, s.ends) in
      pow-add 2 left l ∙ ap (λ (m : ℕ). m * 2 ^ l) steps in
      let end : g * 2 ^ l + (h - g) * 2 ^ l ≡ h * 2 ^ l = ap (λ (m : ℕ). g * 2 ^ l + m) (sym width) ∙ on-by l left g ∙ ap (λ (m : ℕ). m * 2 ^ l) (sym s.ends) in
      subst (λ (e : ℕ). (j : ℕ) → j ≤ (h - g) * 2 ^ l → Within (micrometres tolerance) (off_chord ((h - g) * 2 ^ l) j (at (g * 2 ^ l)) (at e) (at (g * 2 ^ l + j))) ((h - g) * 2 ^ l * divisor b (finest + l))) end
      (subst (λ (w : ℕ). (j : ℕ) → j ≤ w → Within (micrometres tolerance) (off_chord w j (at (g * 2 ^ l)) (at (g * 2 ^ l + w)) (at (g * 2 ^ l + j))) (w * divisor b (finest + l))) width
      (piece-within q at (left + l) (g * 2 ^ l) c b tolerance s.piece.level l (omega (arith, s.deep)) flat))

  pub near-x : Near b tolerance l x g h
  near-x = near s.piece.x x s.on-x (flat-within b tolerance s.piece s.flat).on-x

  pub near-y : Near b tolerance l y g h
  near-y = near s.piece.y y s.on-y (flat-within b tolerance s.piece s.flat).on-y
