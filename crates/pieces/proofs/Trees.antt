-- The tree of a piece by its level: a flat piece is a leaf, one at the finest level that is not flat is rough, and any other is cut; its halves can be cut on.
use mathlib.Core.Path.{◌≡◌, sym, ap, ◌∙◌, subst}
use mathlib.Core.Bool.{true, false, cond}
use Prim.Native.Nat.{ℕ, zero, suc, ◌+◌, ◌-◌, ◌^◌, ◌<◌}
use native.Mathlib.Omega.{arith}
use Rattle.curve.specs.declared.Four.{Four}
use Rattle.curve.specs.declared.Basis.{Basis}
use Rattle.curve.specs.Limits.{Inside}
use Rattle.curve.specs.Span.{divisor}
use Rattle.curve.specs.Ways.{left_half, right_half}
use Rattle.spans.specs.Inner.{Cuttable}
use Rattle.spans.proofs.Halves.{cut_on, cuttable-small}
use Rattle.pieces.specs.declared.Piece.{Piece}
use Rattle.pieces.specs.Tree.{finest, piece, left_piece, right_piece, is_flat, Flat, Rough, Cut, tree}
use Rattle.pieces.specs.Inner.{tree_at, Walkable, Halvable}

-- ---- what can be cut on

module _ (b : Basis) where
  -- the controls of both axes are far inside 64 bits
  pub walkable-small : (level : ℕ) (x y : Four) → Walkable b level x y → Inside (2 ^ 59) x × Inside (2 ^ 59) y
  walkable-small level x y w = (cuttable-small (finest - level) (divisor b finest) x w.on-x, cuttable-small (finest - level) (divisor b finest) y w.on-y)

  -- so that the piece has halves
  pub halvable : (p : Piece) → Walkable b p.level p.x p.y → Halvable p
  halvable p w = let (x, y) = walkable-small p.level p.x p.y w in (w.shallow, x, y)

  -- the halves of an axis
  halves : (level : ℕ) (q : Four) → level < finest → Cuttable (finest - level) (divisor b finest) q → Cuttable (finest - (level + 1)) (divisor b finest) (left_half q) × Cuttable (finest - (level + 1)) (divisor b finest) (right_half q)
  halves level q h cut =
      let next : finest - level - 1 ≡ finest - (level + 1) = omega arith in
      subst (λ (n : ℕ). Cuttable n (divisor b finest) (left_half q) × Cuttable n (divisor b finest) (right_half q)) next (cut_on (finest - level) (divisor b finest) q (omega arith) (omega arith) cut)

  module _ (level : ℕ) (x y : Four) (h : level < finest) (w : Walkable b level x y) where
    pub walkable-left : Walkable b (level + 1) (left_half x) (left_half y)
    walkable-left = record { shallow = omega arith; on-x = (halves level x h w.on-x).0; on-y = (halves level y h w.on-y).0 }

    pub walkable-right : Walkable b (level + 1) (right_half x) (right_half y)
    walkable-right = record { shallow = omega arith; on-x = (halves level x h w.on-x).1; on-y = (halves level y h w.on-y).1 }

  -- the same controls under other names
  pub walkable-same : (level : ℕ) {x y u v : Four} → u ≡ x → v ≡ y → Walkable b level x y → Walkable b level u v
  walkable-same level {x} {y} {u} {v} e f w = subst (λ (q : Four). Walkable b level q v) (sym e) (subst (Walkable b level x) (sym f) w)

  pub same-tree : (tolerance level : ℕ) {x y u v : Four} → u ≡ x → v ≡ y → tree_at b tolerance level u v ≡ tree_at b tolerance level x y
  same-tree tolerance level e f = λ i. tree_at b tolerance level (e i) (f i)

-- ---- the tree of a piece

module _ (d : ℕ → ℕ) (tolerance : ℕ) (p : Piece) where
  pub tree-flat : (left : ℕ) → is_flat d tolerance p ≡ true → tree d tolerance left p ≡ Flat p
  unfolding tree
  tree-flat zero e = ap (λ t. cond t (Flat p) (Rough p)) e
  tree-flat (suc left) e = ap (λ t. cond t (Flat p) (Cut (tree d tolerance left (left_piece p)) (tree d tolerance left (right_piece p)))) e

  pub tree-rough : is_flat d tolerance p ≡ false → tree d tolerance 0 p ≡ Rough p
  unfolding tree
  tree-rough e = ap (λ t. cond t (Flat p) (Rough p)) e

  pub tree-cut : (left : ℕ) → is_flat d tolerance p ≡ false → tree d tolerance (suc left) p ≡ Cut (tree d tolerance left (left_piece p)) (tree d tolerance left (right_piece p))
  unfolding tree
  tree-cut left e = ap (λ t. cond t (Flat p) (Cut (tree d tolerance left (left_piece p)) (tree d tolerance left (right_piece p)))) e

-- the same by its level
module _ (b : Basis) (tolerance level : ℕ) (x y : Four) where
  pub at-flat : is_flat (divisor b) tolerance (piece level x y) ≡ true → tree_at b tolerance level x y ≡ Flat (piece level x y)
  at-flat e = tree-flat (divisor b) tolerance (piece level x y) (finest - level) e

  pub at-finest : is_flat (divisor b) tolerance (piece level x y) ≡ false → level ≡ finest → tree_at b tolerance level x y ≡ Rough (piece level x y)
  at-finest e h =
      let none : finest - level ≡ 0 = omega arith in
      ap (λ (n : ℕ). tree (divisor b) tolerance n (piece level x y)) none ∙ tree-rough (divisor b) tolerance (piece level x y) e

  pub at_cut : is_flat (divisor b) tolerance (piece level x y) ≡ false → level < finest → tree_at b tolerance level x y ≡ Cut (tree_at b tolerance (level + 1) (left_half x) (left_half y)) (tree_at b tolerance (level + 1) (right_half x) (right_half y))
  at_cut e h =
      let more : finest - level ≡ suc (finest - (level + 1)) = omega arith in
      ap (λ (n : ℕ). tree (divisor b) tolerance n (piece level x y)) more ∙ tree-cut (divisor b) tolerance (piece level x y) (finest - (level + 1)) e
