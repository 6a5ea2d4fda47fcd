-- The steps at which a tree's pieces start: they rise strictly from its own start, and where every piece above the finest level is cut they are all steps.
use mathlib.Core.Path.{◌≡◌, refl, sym, ap, ◌∙◌, subst}
use mathlib.Core.Bool.{true, false}
use mathlib.Core.List.{List, [], ◌∷◌, ◌++◌}
use mathlib.Core.Logic.{⊎_elim}
use Prim.Native.Nat.{ℕ, zero, suc, ◌+◌, ◌^◌, ◌≤◌}
use native.Mathlib.Nat.{le_trans}
use native.Mathlib.Omega.{arith}
use lib.ListN.{length, length-append}
use lib.Pow.{pow_pos}
use Rattle.curve.specs.Tab.{tab}
use Rattle.curve.proofs.Powers.{doubled}
use Rattle.curve.proofs.Tab.{tab-append}
use Rattle.shape.proofs.Tests.{passes}
use Rattle.pieces.specs.declared.Piece.{Piece}
use Rattle.pieces.specs.Tree.{left_piece, right_piece, is_flat, Tree, Flat, Rough, Cut, tree, cuts}
use Rattle.pieces.specs.Steps.{steps_in, Rises}
use Rattle.pieces.proofs.Trees.{tree-flat, tree-rough, tree-cut}
use Rattle.pieces.proofs.Starts.{cuts-most}

-- ---- they rise

pub rises-append : (a : List ℕ) (b : List ℕ) (from middle to : ℕ) → Rises from a middle → Rises middle b to → Rises from (a ++ b) to
rises-append [] b from middle to r s = later b middle from to r s
  where
    later : (l : List ℕ) (from sooner to : ℕ) → sooner ≤ from → Rises from l to → Rises sooner l to
    later [] from sooner to h r = le_trans h r
    later (g ∷ l) from sooner to h (low, r) = (le_trans h low, r)
rises-append (g ∷ a) b from middle to (low, r) s = (low, rises-append a b (suc g) middle to r s)

pub steps-rise : (left from : ℕ) (t : Tree) → Rises from (steps_in left from t) (from + 2 ^ left)
unfolding steps_in
steps-rise left from (Flat p) = (omega arith, omega (arith, pow_pos left))
steps-rise left from (Rough p) = (omega arith, omega (arith, pow_pos left))
steps-rise zero from (Cut l r) = (omega arith, omega arith)
steps-rise (suc left) from (Cut l r) =
    let end : from + 2 ^ left + 2 ^ left ≡ from + 2 ^ suc left = omega (arith, doubled left) in
    subst (Rises from (steps_in left from l ++ steps_in left (from + 2 ^ left) r)) end
    (rises-append (steps_in left from l) (steps_in left (from + 2 ^ left) r) from (from + 2 ^ left) (from + 2 ^ left + 2 ^ left) (steps-rise left from l) (steps-rise left (from + 2 ^ left) r))

-- from the start of the tree
pub steps-begin : (left from : ℕ) (t : Tree) → (rest : List ℕ) × (steps_in left from t ≡ from ∷ rest)
unfolding steps_in
steps-begin left from (Flat p) = ([], refl)
steps-begin left from (Rough p) = ([], refl)
steps-begin zero from (Cut l r) = ([], refl)
steps-begin (suc left) from (Cut l r) = let (rest, e) = steps-begin left from l in (rest ++ steps_in left (from + 2 ^ left) r, ap (λ a. a ++ steps_in left (from + 2 ^ left) r) e)

-- the rule of all steps
abbrev pub itself : ℕ → ℕ
itself n = n

-- ---- of a tree with `left` levels: one for each piece, and all of them where every piece above the finest level is cut

module _ (d : ℕ → ℕ) (tolerance : ℕ) where
  pub steps-count : (left from : ℕ) (p : Piece) → length (steps_in left from (tree d tolerance left p)) ≡ cuts (tree d tolerance left p) + 1
  unfolding steps_in cuts
  steps-count zero from p =
      let P : Tree → Type 0 = λ t. length (steps_in 0 from t) ≡ cuts t + 1 in
      ⊎_elim (λ (flat : is_flat d tolerance p ≡ true). subst P (sym (tree-flat d tolerance p 0 flat)) refl) (λ (not : is_flat d tolerance p ≡ false). subst P (sym (tree-rough d tolerance p not)) refl)
      (passes (is_flat d tolerance p))
  steps-count (suc left) from p =
      let P : Tree → Type 0 = λ t. length (steps_in (suc left) from t) ≡ cuts t + 1 in
      let l = tree d tolerance left (left_piece p) in
      let r = tree d tolerance left (right_piece p) in
      ⊎_elim (λ (flat : is_flat d tolerance p ≡ true). subst P (sym (tree-flat d tolerance p (suc left) flat)) refl)
      (λ (not : is_flat d tolerance p ≡ false).
      subst P (sym (tree-cut d tolerance p left not))
      (length-append (steps_in left from l) (steps_in left (from + 2 ^ left) r) ∙ omega (arith, steps-count left from (left_piece p), steps-count left (from + 2 ^ left) (right_piece p))))
      (passes (is_flat d tolerance p))

  pub steps_all : (left from : ℕ) (p : Piece) → cuts (tree d tolerance left p) + 1 ≡ 2 ^ left → steps_in left from (tree d tolerance left p) ≡ tab itself from (2 ^ left)
  unfolding steps_in cuts tab
  steps_all zero from p e =
      let P : Tree → Type 0 = λ t. steps_in 0 from t ≡ from ∷ [] in
      ⊎_elim (λ (flat : is_flat d tolerance p ≡ true). subst P (sym (tree-flat d tolerance p 0 flat)) refl) (λ (not : is_flat d tolerance p ≡ false). subst P (sym (tree-rough d tolerance p not)) refl)
      (passes (is_flat d tolerance p))
  steps_all (suc left) from p e =
      let l = tree d tolerance left (left_piece p) in
      let r = tree d tolerance left (right_piece p) in
      let cl = cuts-most d tolerance left (left_piece p) in
      let cr = cuts-most d tolerance left (right_piece p) in
      ⊎_elim (λ (flat : is_flat d tolerance p ≡ true). absurd (omega (arith, e, ap cuts (tree-flat d tolerance p (suc left) flat), doubled left, pow_pos left)))
      (λ (not : is_flat d tolerance p ≡ false).
      let both = ap cuts (tree-cut d tolerance p left not) in
      let twice : 2 ^ left + 2 ^ left ≡ 2 ^ suc left = omega (arith, doubled left) in
      ap (steps_in (suc left) from) (tree-cut d tolerance p left not)
      ∙ ap (λ a. a ++ steps_in left (from + 2 ^ left) r) (steps_all left from (left_piece p) (omega (arith, e, both, cl, cr, doubled left)))
      ∙ ap (λ b. tab itself from (2 ^ left) ++ b) (steps_all left (from + 2 ^ left) (right_piece p) (omega (arith, e, both, cl, cr, doubled left)))
      ∙ sym (tab-append itself from (2 ^ left) (2 ^ left))
      ∙ ap (tab itself from) twice)
      (passes (is_flat d tolerance p))
