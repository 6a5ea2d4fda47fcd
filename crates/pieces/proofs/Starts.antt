-- The starts of a sound tree, kind of piece by kind of piece, and how many numbers they are: two for each flat piece, and there is one flat piece more than there are cuts.
use mathlib.Core.Path.{◌≡◌, refl, ap, ◌∙◌, subst}
use mathlib.Core.Bool.{true, false}
use mathlib.Core.List.{◌++◌}
use mathlib.Core.Logic.{⊎_elim}
use Prim.Native.Nat.{ℕ, zero, suc, ◌+◌, ◌*◌, ◌^◌, ◌≤◌, ◌<◌}
use native.Mathlib.Omega.{arith}
use lib.ListN.{length, length-append}
use lib.Pow.{pow_pos}
use Rattle.curve.specs.declared.Four.{Four}
use Rattle.curve.specs.declared.Basis.{Basis}
use Rattle.curve.specs.Span.{divisor}
use Rattle.curve.proofs.Powers.{doubled}
use Rattle.shape.proofs.Tests.{either, passes}
use Rattle.pieces.specs.declared.Piece.{Piece}
use Rattle.pieces.specs.Tree.{finest, piece, left_piece, right_piece, is_flat, Tree, Flat, Rough, Cut, tree, cuts, Sound}
use Rattle.pieces.specs.Values.{start, starts}
use Rattle.pieces.specs.Inner.{tree_at}
use Rattle.pieces.proofs.Trees.{tree-flat, tree-rough, tree-cut, at-finest}

-- ---- sound trees

-- a piece of one that is not flat is above the finest level
pub sound-shallow : (b : Basis) (tolerance level : ℕ) (x y : Four) → level ≤ finest → is_flat (divisor b) tolerance (piece level x y) ≡ false → Sound (tree_at b tolerance level x y) → level < finest
unfolding Sound
sound-shallow b tolerance level x y h e sound = ⊎_elim (λ (above : level < finest). above) (λ (past : finest ≤ level). absurd (subst Sound (at-finest b tolerance level x y e (omega arith)) sound)) (either level finest)

-- and both its halves are sound
pub sound-halves : (l r t : Tree) → t ≡ Cut l r → Sound t → Sound l × Sound r
unfolding Sound
sound-halves l r t e sound = subst Sound e sound

-- ---- their starts

module _ (d : ℕ → ℕ) where
  pub starts-flat : (p : Piece) (t : Tree) → t ≡ Flat p → starts d t ≡ start d p
  unfolding starts
  starts-flat p t e = ap (starts d) e

  pub starts-cut : (l r t : Tree) → t ≡ Cut l r → starts d t ≡ starts d l ++ starts d r
  unfolding starts
  starts-cut l r t e = ap (starts d) e

  pub cut-length : (l r t : Tree) → t ≡ Cut l r → length (starts d t) ≡ length (starts d l) + length (starts d r)
  cut-length l r t e = ap length (starts-cut l r t e) ∙ length-append (starts d l) (starts d r)

  pub length-starts : (t : Tree) → length (starts d t) ≡ 2 * (cuts t + 1)
  unfolding starts cuts
  length-starts (Flat p) = refl
  length-starts (Rough p) = refl
  length-starts (Cut l r) = length-append (starts d l) (starts d r) ∙ omega (arith, length-starts l, length-starts r)

-- ---- how many cuts there can be: fewer than the pieces of the finest level

pub cuts-most : (d : ℕ → ℕ) (tolerance left : ℕ) (p : Piece) → cuts (tree d tolerance left p) < 2 ^ left
unfolding cuts
cuts-most d tolerance zero p =
    ⊎_elim (λ (flat : is_flat d tolerance p ≡ true). omega (arith, ap cuts (tree-flat d tolerance p 0 flat))) (λ (not : is_flat d tolerance p ≡ false). omega (arith, ap cuts (tree-rough d tolerance p not)))
    (passes (is_flat d tolerance p))
cuts-most d tolerance (suc left) p =
    ⊎_elim (λ (flat : is_flat d tolerance p ≡ true). omega (arith, ap cuts (tree-flat d tolerance p (suc left) flat), pow_pos (suc left)))
    (λ (not : is_flat d tolerance p ≡ false). omega (arith, ap cuts (tree-cut d tolerance p left not), cuts-most d tolerance left (left_piece p), cuts-most d tolerance left (right_piece p), doubled left))
    (passes (is_flat d tolerance p))
