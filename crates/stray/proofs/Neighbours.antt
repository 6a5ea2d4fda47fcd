-- Neighbours in a list of numbers, and those of a tree's steps: two chosen points that follow one another are the ends of one flat piece.
use mathlib.Core.Path.{◌≡◌, refl, sym, ap, ◌∙◌, subst}
use mathlib.Core.Bool.{true, false}
use mathlib.Core.List.{List, [], ◌∷◌, ◌++◌}
use mathlib.Core.Logic.{⊎_elim}
use Prim.Native.Nat.{ℕ, zero, suc, ◌+◌, ◌*◌, ◌^◌, ◌<◌}
use native.Mathlib.Nat.{add-mul}
use native.Mathlib.Omega.{arith}
use lib.IntN.{ℤ}
use lib.ListN.{get_or, length}
use lib.Pow.{pow-add}
use Rattle.curve.specs.declared.Four.{Four}
use Rattle.curve.specs.declared.Basis.{Basis}
use Rattle.curve.specs.Span.{divisor}
use Rattle.curve.specs.Ways.{left_half, right_half}
use Rattle.curve.proofs.Powers.{doubled}
use Rattle.shape.proofs.Tests.{passes}
use Rattle.pieces.specs.declared.Piece.{Piece}
use Rattle.pieces.specs.Tree.{finest, left_piece, right_piece, is_flat, Tree, tree, Sound}
use Rattle.pieces.specs.Steps.{steps_in}
use Rattle.pieces.proofs.Trees.{tree-flat, tree-rough, tree-cut}
use Rattle.pieces.proofs.Stepped.{steps-begin}
use Rattle.pieces.proofs.Even.{Covers, covers-left, covers-right}

-- ---- of a list

-- what a list begins with, or what comes after it
abbrev pub first : List ℕ → ℕ → ℕ
first [] to = to
first (g ∷ l) to = g

-- each number is linked with the next one, and the last with what comes after the list
abbrev pub Linked : (ℕ → ℕ → Type 0) → List ℕ → ℕ → Type 0
Linked R [] to = Unit {0}
Linked R (g ∷ l) to = R g (first l to) × Linked R l to

module _ (R : ℕ → ℕ → Type 0) where
  first-append : (a b : List ℕ) (to : ℕ) → first (a ++ b) to ≡ first a (first b to)
  first-append [] b to = refl
  first-append (g ∷ a) b to = refl

  pub linked-append : (a b : List ℕ) (to : ℕ) → Linked R a (first b to) → Linked R b to → Linked R (a ++ b) to
  linked-append [] b to x y = y
  linked-append (g ∷ a) b to (here, x) y = (subst (R g) (sym (first-append a b to)) here, linked-append a b to x y)

  first-at : (l : List ℕ) (to : ℕ) → get_or (l ++ (to ∷ [])) 0 0 ≡ first l to
  first-at [] to = refl
  first-at (g ∷ l) to = refl

  pub linked-at : (l : List ℕ) (to r : ℕ) → r < length l → Linked R l to → R (get_or (l ++ (to ∷ [])) r 0) (get_or (l ++ (to ∷ [])) (suc r) 0)
  linked-at [] to r h x = absurd (omega arith)
  linked-at (g ∷ l) to zero h (here, x) = subst (R g) (sym (first-at l to)) here
  linked-at (g ∷ l) to (suc r) h (here, x) = linked-at l to r (omega arith) x

-- ---- of a tree's steps, where `x` and `y` give the sums of both axes at l more depths than the finest

-- 2^left steps on, at l more depths
pub on-by : (l left from : ℕ) → from * 2 ^ l + 2 ^ (left + l) ≡ (from + 2 ^ left) * 2 ^ l
on-by l left from = ap (λ (n : ℕ). from * 2 ^ l + n) (pow-add 2 left l) ∙ sym (add-mul from (2 ^ left) (2 ^ l))

-- a flat piece from step g to step h
pub record Stretch (basis : Basis) (tolerance l : ℕ) (x y : ℕ → ℤ) (g h : ℕ) : Type 0 where
  pub piece : Piece
  pub left : ℕ
  pub deep : piece.level + left ≡ finest
  pub ends : h ≡ g + 2 ^ left
  pub flat : is_flat (divisor basis) tolerance piece ≡ true
  pub on-x : Covers (left + l) (g * 2 ^ l) piece.x x
  pub on-y : Covers (left + l) (g * 2 ^ l) piece.y y

module _ (basis : Basis) (tolerance l : ℕ) (x y : ℕ → ℤ) where
  abbrev R : ℕ → ℕ → Type 0
  R = Stretch basis tolerance l x y

  -- of a piece that is flat
  leaf : (left from : ℕ) (p : Piece) → p.level + left ≡ finest → Covers (left + l) (from * 2 ^ l) p.x x → Covers (left + l) (from * 2 ^ l) p.y y → is_flat (divisor basis) tolerance p ≡ true
      → Linked R (steps_in left from (tree (divisor basis) tolerance left p)) (from + 2 ^ left)
  unfolding steps_in
  leaf left from p deep cx cy flat =
      subst (λ (t : Tree). Linked R (steps_in left from t) (from + 2 ^ left)) (sym (tree-flat (divisor basis) tolerance p left flat)) (record { piece = p; left = left; deep = deep; ends = refl; flat = flat; on-x = cx; on-y = cy }, tt)

  -- of one that is cut: its halves', one after the other
  halves : (left from : ℕ) (a b : Tree) → Linked R (steps_in left from a) (from + 2 ^ left) → Linked R (steps_in left (from + 2 ^ left) b) (from + 2 ^ left + 2 ^ left) → Linked R (steps_in left from a ++ steps_in left (from + 2 ^ left) b) (from + 2 ^ suc left)
  halves left from a b on-left on-right =
      let (rest, begins) = steps-begin left (from + 2 ^ left) b in
      let end : from + 2 ^ left + 2 ^ left ≡ from + 2 ^ suc left = omega (arith, doubled left) in
      linked-append R (steps_in left from a) (steps_in left (from + 2 ^ left) b) (from + 2 ^ suc left) (subst (λ (steps : List ℕ). Linked R (steps_in left from a) (first steps (from + 2 ^ suc left))) (sym begins) on-left)
      (subst (Linked R (steps_in left (from + 2 ^ left) b)) end on-right)

  pub stretches : (left from : ℕ) (p : Piece) → p.level + left ≡ finest → Covers (left + l) (from * 2 ^ l) p.x x → Covers (left + l) (from * 2 ^ l) p.y y → Sound (tree (divisor basis) tolerance left p)
      → Linked R (steps_in left from (tree (divisor basis) tolerance left p)) (from + 2 ^ left)
  unfolding steps_in Sound
  stretches zero from p deep cx cy sound =
      ⊎_elim (leaf 0 from p deep cx cy) (λ (not : is_flat (divisor basis) tolerance p ≡ false). absurd (subst Sound (tree-rough (divisor basis) tolerance p not) sound)) (passes (is_flat (divisor basis) tolerance p))
  stretches (suc left) from p deep cx cy sound =
      let next : suc left + l ≡ suc (left + l) = omega arith in
      let a = tree (divisor basis) tolerance left (left_piece p) in
      let b = tree (divisor basis) tolerance left (right_piece p) in
      let onward : (q : Four) (at : ℕ → ℤ) → Covers (suc left + l) (from * 2 ^ l) q at → Covers (suc (left + l)) (from * 2 ^ l) q at = λ q at c. subst (λ (n : ℕ). Covers n (from * 2 ^ l) q at) next c in
      let on-left : (q : Four) (at : ℕ → ℤ) → Covers (suc left + l) (from * 2 ^ l) q at → Covers (left + l) (from * 2 ^ l) (left_half q) at = λ q at c. covers-left (left + l) (from * 2 ^ l) q at (onward q at c) in
      let on-right : (q : Four) (at : ℕ → ℤ) → Covers (suc left + l) (from * 2 ^ l) q at → Covers (left + l) ((from + 2 ^ left) * 2 ^ l) (right_half q) at =
      λ q at c. subst (λ (n : ℕ). Covers (left + l) n (right_half q) at) (on-by l left from) (covers-right (left + l) (from * 2 ^ l) q at (onward q at c)) in
      ⊎_elim (leaf (suc left) from p deep cx cy)
      (λ (not : is_flat (divisor basis) tolerance p ≡ false).
      let is = tree-cut (divisor basis) tolerance p left not in
      let (sound-left, sound-right) = subst Sound is sound in
      subst (λ (t : Tree). Linked R (steps_in (suc left) from t) (from + 2 ^ suc left)) (sym is)
      (halves left from a b
      (stretches left from (left_piece p) (omega arith) (on-left p.x x cx) (on-left p.y y cy) sound-left)
      (stretches left (from + 2 ^ left) (right_piece p) (omega arith) (on-right p.x x cx) (on-right p.y y cy) sound-right)))
      (passes (is_flat (divisor basis) tolerance p))
