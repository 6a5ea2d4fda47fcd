-- One cut in doubles: a piece that is not cut on is one point, and the numbers of any other are those of its left half and then those of its right half, so halves written
-- one after the other are the whole.
use mathlib.Core.Path.{◌≡◌, refl, ap, ◌∙◌}
use mathlib.Core.List.{◌++◌}
use Prim.Native.Nat.{ℕ, zero, suc, ◌+◌, ◌*◌, ◌-◌, ◌^◌, ◌<◌}
use native.Mathlib.Omega.{arith}
use lib.ListN.{length, length-append}
use Rattle.curve.proofs.Powers.{doubled}
use Rattle.preview.specs.declared.Piece.{Piece}
use Rattle.preview.specs.Halving.{left_half, right_half, pieces}

pub length-pieces : (left : ℕ) (p : Piece) → length (pieces left p) ≡ 2 * 2 ^ left
unfolding pieces
length-pieces zero p = refl
length-pieces (suc left) p =
    length-append (pieces left (left_half p)) (pieces left (right_half p)) ∙ sum (length-pieces left (left_half p)) (length-pieces left (right_half p))
  where
    sum : {p q : ℕ} → p ≡ 2 * 2 ^ left → q ≡ 2 * 2 ^ left → p + q ≡ 2 * 2 ^ suc left
    sum e f = omega (arith, doubled left)

pub halves : (left : ℕ) (p : Piece) → 0 < left → pieces (left - 1) (left_half p) ++ pieces (left - 1) (right_half p) ≡ pieces left p
unfolding pieces
halves left p some = let whole : suc (left - 1) ≡ left = omega arith in ap (λ (i : ℕ). pieces i p) whole
