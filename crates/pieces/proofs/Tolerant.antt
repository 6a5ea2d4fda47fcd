-- More tolerance never needs more cuts: a piece that is flat stays flat, so a tree keeps a part of its cuts.
use mathlib.Core.Path.{◌≡◌, ap}
use mathlib.Core.Bool.{true, false}
use mathlib.Core.Logic.{⊎_elim}
use Prim.Native.Nat.{ℕ, zero, suc, ◌*◌, ◌≤◌}
use native.Mathlib.Nat.{le_refl, le_trans, mul-le-mul}
use native.Mathlib.Omega.{arith}
use Rattle.curve.specs.declared.Basis.{Basis}
use Rattle.curve.specs.Span.{divisor}
use Rattle.shape.proofs.Tests.{passes, true-is-not-false}
use Rattle.pieces.specs.declared.Piece.{Piece}
use Rattle.pieces.specs.Tree.{left_piece, right_piece, is_flat, tree, cuts, Sound}
use Rattle.pieces.proofs.Trees.{tree-flat, tree-rough, tree-cut}
use Rattle.pieces.proofs.Deep.{Within, flat-within, within-flat, sound-within, within-sound}

-- more tolerance than t, of any basis
module _ (b : Basis) (t more : ℕ) (h : t ≤ more) where
  wider : (m : ℕ) → 4 * (t * m) ≤ 4 * (more * m)
  wider m = mul-le-mul (le_refl 4) (mul-le-mul h (le_refl m))

  stays_within : (m : ℕ) (p : Piece) → Within (4 * (t * m)) p → Within (4 * (more * m)) p
  stays_within m p w = record { on-x = le_trans w.on-x (wider m); on-y = le_trans w.on-y (wider m) }

  stays-flat : (p : Piece) → is_flat (divisor b) t p ≡ true → is_flat (divisor b) more p ≡ true
  stays-flat p e = within-flat b more p (stays_within (divisor b p.level) p (flat-within b t p e))

  pub stays-sound : (left : ℕ) (p : Piece) → Sound (tree (divisor b) t left p) → Sound (tree (divisor b) more left p)
  stays-sound left p s = within-sound b more left p (stays_within _ p (sound-within b t left p s))

  no-cuts : (left : ℕ) (p : Piece) → is_flat (divisor b) more p ≡ true → cuts (tree (divisor b) more left p) ≡ 0
  unfolding cuts
  no-cuts left p e = ap cuts (tree-flat (divisor b) more p left e)

  pub fewer-cuts : (left : ℕ) (p : Piece) → cuts (tree (divisor b) more left p) ≤ cuts (tree (divisor b) t left p)
  unfolding cuts
  fewer-cuts zero p =
      ⊎_elim (λ (flat : is_flat (divisor b) more p ≡ true). omega (arith, no-cuts 0 p flat)) (λ (not : is_flat (divisor b) more p ≡ false). omega (arith, ap cuts (tree-rough (divisor b) more p not)))
      (passes (is_flat (divisor b) more p))
  fewer-cuts (suc left) p =
      ⊎_elim (λ (flat : is_flat (divisor b) more p ≡ true). omega (arith, no-cuts (suc left) p flat))
      (λ (not : is_flat (divisor b) more p ≡ false).
      ⊎_elim (λ (flat : is_flat (divisor b) t p ≡ true). absurd (true-is-not-false (stays-flat p flat) not))
      (λ (neither : is_flat (divisor b) t p ≡ false).
      omega (arith, ap cuts (tree-cut (divisor b) more p left not), ap cuts (tree-cut (divisor b) t p left neither), fewer-cuts left (left_piece p), fewer-cuts left (right_piece p)))
      (passes (is_flat (divisor b) t p)))
      (passes (is_flat (divisor b) more p))
