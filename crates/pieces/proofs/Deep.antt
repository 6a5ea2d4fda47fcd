-- Which trees have a rough piece. With a cut the first second difference of the left half and the last one of the right half are twice as large, and no other is larger than that, while the divisor is eight
-- times as large. So the larger second difference is a quarter with each cut, and it is all pieces that are flat at the finest level, or one of the outermost is not.
use mathlib.Core.Path.{◌≡◌, sym, ap, ◌∙◌, subst}
use mathlib.Core.Bool.{true, false, ◌&&◌}
use mathlib.Core.List.{List, [], ◌∷◌}
use mathlib.Core.Logic.{⊎_elim}
use Prim.Native.Nat.{ℕ, zero, suc, ◌+◌, ◌*◌, ◌^◌, max, ◌≤◌}
use native.Mathlib.Nat.{pow-suc, mul-one, mul_comm, mul-le-mul, le_refl, le_trans, le-mul_of_pos_right, one-le-pow}
use native.Mathlib.Omega.{arith}
use borrow.Author.Tests.{leb-true, le-leb}
use lib.Dec.{lit<}
use lib.IntN.{ℤ, pos, nat_abs, ◌+ℤ◌, ◌*ℤ◌}
use Rattle.whole.proofs.Ring.{var, ◌⊗◌, ◌⊕◌, solve}
use Rattle.whole.proofs.Order.{pos-injective}
use Rattle.whole.proofs.Fit.{nat_abs-add, nat_abs_mul}
use Rattle.curve.specs.declared.Four.{Four}
use Rattle.curve.specs.declared.Basis.{Basis}
use Rattle.curve.specs.Span.{divisor}
use Rattle.curve.specs.Bend.{bend, first_bend, last_bend}
use Rattle.curve.specs.Ways.{left_half, right_half}
use Rattle.curve.proofs.Bits.{divisor-again}
use Rattle.curve.proofs.Reflect.{p, num, first_bendᵉ, last_bendᵉ, leftᵉ, rightᵉ}
use Rattle.shape.proofs.Tests.{passes, and-true}
use Rattle.pieces.specs.declared.Piece.{Piece}
use Rattle.pieces.specs.Tree.{left_piece, right_piece, flat_on, is_flat, tree, Sound}
use Rattle.pieces.proofs.Trees.{tree-flat, tree-rough, tree-cut}

-- ---- the second differences of the halves

module _ (q : Four) where
  abbrev r : List ℤ
  r = q.a ∷ q.b ∷ q.c ∷ q.d ∷ []

  left-first : first_bend (left_half q) ≡ pos 2 *ℤ first_bend q
  unfolding left_half
  left-first = solve r (first_bendᵉ (leftᵉ p)) (num 2 ⊗ first_bendᵉ p) tt

  left-last : last_bend (left_half q) ≡ first_bend q +ℤ last_bend q
  unfolding left_half
  left-last = solve r (last_bendᵉ (leftᵉ p)) (first_bendᵉ p ⊕ last_bendᵉ p) tt

  right-first : first_bend (right_half q) ≡ first_bend q +ℤ last_bend q
  unfolding right_half
  right-first = solve r (first_bendᵉ (rightᵉ p)) (first_bendᵉ p ⊕ last_bendᵉ p) tt

  right-last : last_bend (right_half q) ≡ pos 2 *ℤ last_bend q
  unfolding right_half
  right-last = solve r (last_bendᵉ (rightᵉ p)) (num 2 ⊗ last_bendᵉ p) tt

  -- in size
  twice-first : nat_abs (first_bend (left_half q)) ≡ 2 * nat_abs (first_bend q)
  twice-first = ap nat_abs left-first ∙ nat_abs_mul (pos 2) (first_bend q)

  twice-last : nat_abs (last_bend (right_half q)) ≡ 2 * nat_abs (last_bend q)
  twice-last = ap nat_abs right-last ∙ nat_abs_mul (pos 2) (last_bend q)

  -- neither half's is more than twice as large
  pub left-bend : bend (left_half q) ≤ 2 * bend q
  unfolding bend
  left-bend = omega (arith, twice-first, ap nat_abs left-last, nat_abs-add (first_bend q) (last_bend q))

  pub right-bend : bend (right_half q) ≤ 2 * bend q
  unfolding bend
  right-bend = omega (arith, twice-last, ap nat_abs right-first, nat_abs-add (first_bend q) (last_bend q))

  -- and one of the two's is
  pub halves-bend : 2 * bend q ≤ max (bend (left_half q)) (bend (right_half q))
  unfolding bend
  halves-bend = omega (arith, twice-first, twice-last)

-- ---- how large they may be, with some levels left

-- both axes within a bound
pub record Within (n : ℕ) (p : Piece) : Type 0 where
  pub on-x : 3 * bend p.x ≤ n
  pub on-y : 3 * bend p.y ≤ n

module _ (b : Basis) where
  -- four times the tolerance, over the divisor of a level, and four times as much with each level left
  abbrev pub bound : ℕ → ℕ → ℕ → ℕ
  bound tolerance level left = 4 * (tolerance * (divisor b level * 4 ^ left))

  next-bound : (tolerance level left : ℕ) → bound tolerance (level + 1) left ≡ 2 * bound tolerance level (suc left)
  next-bound tolerance level left =
      let finer : divisor b (level + 1) ≡ divisor b level * 8 = divisor-again b level 1 ∙ mul_comm 8 (divisor b level) in
      let t = pos tolerance in
      let d = pos (divisor b level) in
      let e = pos (4 ^ left) in
      ap (λ (n : ℕ). 4 * (tolerance * (n * 4 ^ left))) finer
      ∙ pos-injective (solve (t ∷ d ∷ e ∷ []) (num 4 ⊗ (var 0 ⊗ (var 1 ⊗ num 8 ⊗ var 2))) (num 2 ⊗ (num 4 ⊗ (var 0 ⊗ (var 1 ⊗ (var 2 ⊗ num 4))))) tt)
      ∙ ap (λ (n : ℕ). 2 * (4 * (tolerance * (divisor b level * n)))) (sym (pow-suc 4 left))

  -- where none is left, that is the test of a flat piece
  none_left : (tolerance level : ℕ) → bound tolerance level 0 ≡ 4 * (tolerance * divisor b level)
  none_left tolerance level = ap (λ (n : ℕ). 4 * (tolerance * n)) (mul-one (divisor b level))

  more_left : (tolerance level left : ℕ) → 4 * (tolerance * divisor b level) ≤ bound tolerance level left
  more_left tolerance level left = mul-le-mul (le_refl 4) (mul-le-mul (le_refl tolerance) (le-mul_of_pos_right (divisor b level) (one-le-pow left 4 (lit< tt))))

  pub flat-within : (tolerance : ℕ) (p : Piece) → is_flat (divisor b) tolerance p ≡ true → Within (4 * (tolerance * divisor b p.level)) p
  unfolding is_flat
  flat-within tolerance p e =
      let (x, y) = and-true (flat_on (divisor b p.level) tolerance p.x) (flat_on (divisor b p.level) tolerance p.y) e in
      record { on-x = leb-true _ _ x; on-y = leb-true _ _ y }

  pub within-flat : (tolerance : ℕ) (p : Piece) → Within (4 * (tolerance * divisor b p.level)) p → is_flat (divisor b) tolerance p ≡ true
  unfolding is_flat
  within-flat tolerance p w = λ i. le-leb _ _ w.on-x i && le-leb _ _ w.on-y i

  -- ---- a tree is sound exactly where its piece is within the bound

  pub within-sound : (tolerance left : ℕ) (p : Piece) → Within (bound tolerance p.level left) p → Sound (tree (divisor b) tolerance left p)
  unfolding Sound
  within-sound tolerance zero p w =
      let e = none_left tolerance p.level in
      subst Sound (sym (tree-flat (divisor b) tolerance p 0 (within-flat tolerance p (subst (λ (n : ℕ). Within n p) e w)))) tt
  within-sound tolerance (suc left) p w =
      let e = next-bound tolerance p.level left in
      let l = within-sound tolerance left (left_piece p) (record { on-x = omega (arith, e, w.on-x, left-bend p.x); on-y = omega (arith, e, w.on-y, left-bend p.y) }) in
      let r = within-sound tolerance left (right_piece p) (record { on-x = omega (arith, e, w.on-x, right-bend p.x); on-y = omega (arith, e, w.on-y, right-bend p.y) }) in
      ⊎_elim (λ (flat : is_flat (divisor b) tolerance p ≡ true). subst Sound (sym (tree-flat (divisor b) tolerance p (suc left) flat)) tt)
      (λ (not : is_flat (divisor b) tolerance p ≡ false). subst Sound (sym (tree-cut (divisor b) tolerance p left not)) (l, r))
      (passes (is_flat (divisor b) tolerance p))

  pub sound-within : (tolerance left : ℕ) (p : Piece) → Sound (tree (divisor b) tolerance left p) → Within (bound tolerance p.level left) p
  unfolding Sound
  sound-within tolerance zero p s =
      ⊎_elim (λ (flat : is_flat (divisor b) tolerance p ≡ true). subst (λ (n : ℕ). Within n p) (sym (none_left tolerance p.level)) (flat-within tolerance p flat))
      (λ (not : is_flat (divisor b) tolerance p ≡ false). absurd (subst Sound (tree-rough (divisor b) tolerance p not) s))
      (passes (is_flat (divisor b) tolerance p))
  sound-within tolerance (suc left) p s =
      let e = next-bound tolerance p.level left in
      let more = more_left tolerance p.level (suc left) in
      ⊎_elim (λ (flat : is_flat (divisor b) tolerance p ≡ true). let w = flat-within tolerance p flat in record { on-x = le_trans w.on-x more; on-y = le_trans w.on-y more })
      (λ (not : is_flat (divisor b) tolerance p ≡ false).
      let (l, r) = subst Sound (tree-cut (divisor b) tolerance p left not) s in
      let u = sound-within tolerance left (left_piece p) l in
      let v = sound-within tolerance left (right_piece p) r in
      record { on-x = omega (arith, e, u.on-x, v.on-x, halves-bend p.x); on-y = omega (arith, e, u.on-y, v.on-y, halves-bend p.y) })
      (passes (is_flat (divisor b) tolerance p))
