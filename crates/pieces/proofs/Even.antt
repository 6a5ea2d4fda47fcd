-- The starts of a tree's pieces are sums of the even outline at the finest depth, at the steps where the pieces start: a half of a piece is the same curve at twice the steps, so an induction on the
-- levels left carries them down the tree. Each is rounded to the same number, and is exact where that is.
use mathlib.Core.Path.{◌≡◌, refl, sym, ap, ◌∙◌, subst}
use mathlib.Core.Bool.{true, false}
use mathlib.Core.List.{List, [], ◌∷◌, ◌++◌, map-append}
use mathlib.Core.Logic.{⊎_elim}
use Prim.Native.Nat.{ℕ, zero, suc, ◌+◌, ◌*◌, ◌-◌, ◌^◌, ◌≤◌, ◌<◌}
use native.Mathlib.Nat.{add-zero, add_assoc, suc-mul}
use native.Mathlib.Omega.{arith}
use lib.IntN.{ℤ, pos, negsuc, neg_ℤ, ◌*ℤ◌}
use lib.Pow.{pow_pos}
use Rattle.whole.specs.Nearest.{nearest, remainder}
use Rattle.whole.proofs.Nearest.{nearest-scale}
use Rattle.whole.proofs.Remainder.{remainder-scale}
use Rattle.curve.specs.declared.Four.{Four}
use Rattle.curve.specs.declared.Basis.{Basis}
use Rattle.curve.specs.Span.{weighted, divisor}
use Rattle.curve.specs.Ways.{left_half, right_half}
use Rattle.curve.proofs.Span.{divisor-pos}
use Rattle.curve.proofs.Powers.{doubled}
use Rattle.curve.proofs.Ways.{left-half, right-half}
use Rattle.shape.proofs.Tests.{passes}
use Rattle.spans.specs.Numbers.{nought, noughts}
use Rattle.spans.specs.Inner.{wholes, remainders}
use Rattle.spans.proofs.Rounds.{noughts-append}
use Rattle.pieces.specs.declared.Piece.{Piece}
use Rattle.pieces.specs.Tree.{finest, left_piece, right_piece, is_flat, Tree, tree}
use Rattle.pieces.specs.Values.{Value, both, start, starts, numbers, exact_of}
use Rattle.pieces.specs.Steps.{steps_in}
use Rattle.pieces.proofs.Trees.{tree-flat, tree-rough, tree-cut}
use Rattle.pieces.proofs.Scaled.{finer, start-sum}
use Rattle.pieces.proofs.Writes.{numbers-append, exact-append}

-- the sums of both axes at some steps, x then y
unfoldable pub sums_at : (ℕ → ℤ) → (ℕ → ℤ) → List ℕ → List ℤ
sums_at x y [] = []
sums_at x y (g ∷ steps) = x g ∷ y g ∷ sums_at x y steps

pub sums-append : (x y : ℕ → ℤ) (a b : List ℕ) → sums_at x y (a ++ b) ≡ sums_at x y a ++ sums_at x y b
unfolding sums_at
sums-append x y [] b = refl
sums-append x y (g ∷ a) b = ap (λ l. x g ∷ y g ∷ l) (sums-append x y a b)

-- ---- values that are sums over one divisor

-- they round to the same numbers, and as many are exact
pub record Same (d : ℕ) (values : List Value) (sums : List ℤ) : Type 0 where
  pub rounds-alike : numbers values ≡ wholes d sums
  pub as-exact : exact_of values ≡ noughts (remainders d sums)

pub same-append : (d : ℕ) (a b : List Value) (s t : List ℤ) → Same d a s → Same d b t → Same d (a ++ b) (s ++ t)
same-append d a b s t e f =
    record {
      rounds-alike = numbers-append a b ∙ (λ i. e.rounds-alike i ++ f.rounds-alike i) ∙ sym (map-append (λ z. nearest z d) s t);
      as-exact = exact-append a b ∙ (λ i. e.as-exact i + f.as-exact i) ∙ sym (ap noughts (map-append (λ z. remainder z d) s t) ∙ noughts-append (remainders d s) (remainders d t));
    }

-- ---- a fraction m times as large, above and below

pub nought-times : (m : ℕ) (z : ℤ) → 0 < m → nought (pos m *ℤ z) ≡ nought z
nought-times zero z h = absurd (omega arith)
nought-times (suc m) (pos zero) h = let e : suc m * 0 ≡ 0 = omega arith in ap (λ (k : ℕ). nought (pos k)) e
nought-times (suc m) (pos (suc n)) h = let e : suc m * suc n ≡ suc (m * suc n + n) = omega (arith, suc-mul m (suc n)) in ap (λ (k : ℕ). nought (pos k)) e
nought-times (suc m) (negsuc n) h = let e : suc m * suc n ≡ suc (m * suc n + n) = omega (arith, suc-mul m (suc n)) in ap (λ (k : ℕ). nought (neg_ℤ (pos k))) e

module _ (m d : ℕ) (z w : ℤ) (hm : 0 < m) (hd : 0 < d) (e : w ≡ pos m *ℤ z) where
  scaled-whole : nearest z d ≡ nearest w (m * d)
  scaled-whole = sym (ap (λ u. nearest u (m * d)) e ∙ nearest-scale m z d hm hd)

  scaled-nought : nought (remainder z d) ≡ nought (remainder w (m * d))
  scaled-nought = sym (ap (λ u. nought (remainder u (m * d))) e ∙ ap nought (remainder-scale m z d hm hd) ∙ nought-times m (remainder z d) hm)

-- the two values of a point at a level, whose sums there are so many times as large
pub same-both : (b : Basis) (level : ℕ) → level ≤ finest → (x y u v : ℤ) → u ≡ pos (2 ^ (3 * (finest - level))) *ℤ x → v ≡ pos (2 ^ (3 * (finest - level))) *ℤ y → Same (divisor b finest) (both (divisor b level) x y) (u ∷ v ∷ [])
unfolding noughts
same-both b level h x y u v e f =
    let m = 2 ^ (3 * (finest - level)) in
    let hm = pow_pos (3 * (finest - level)) in
    let hd = divisor-pos b level in
    let fine = sym (finer b level h) in
    record {
      rounds-alike = λ i. (scaled-whole m (divisor b level) x u hm hd e ∙ ap (nearest u) fine) i ∷ (scaled-whole m (divisor b level) y v hm hd f ∙ ap (nearest v) fine) i ∷ [];
      as-exact = λ i. (scaled-nought m (divisor b level) x u hm hd e ∙ ap (λ (n : ℕ). nought (remainder u n)) fine) i + ((scaled-nought m (divisor b level) y v hm hd f ∙ ap (λ (n : ℕ). nought (remainder v n)) fine) i + 0);
    }

-- ---- down the tree

-- the sums of a piece of 2^left steps, its end's too, are those of a rule from step `from` on
abbrev pub Covers : ℕ → ℕ → Four → (ℕ → ℤ) → Type 0
Covers left from q at = (i : ℕ) → i ≤ 2 ^ left → weighted q (pos i) (pos (2 ^ left)) ≡ at (from + i)

pub covers-left : (left from : ℕ) (q : Four) (at : ℕ → ℤ) → Covers (suc left) from q at → Covers left from (left_half q) at
covers-left left from q at c i h = left-half q (pos i) (pos (2 ^ left)) ∙ ap (λ (n : ℕ). weighted q (pos i) (pos n)) (doubled left) ∙ c i (omega (arith, doubled left))

pub covers-right : (left from : ℕ) (q : Four) (at : ℕ → ℤ) → Covers (suc left) from q at → Covers left (from + 2 ^ left) (right_half q) at
covers-right left from q at c i h =
    right-half q (pos i) (pos (2 ^ left))
    ∙ ap (λ (n : ℕ). weighted q (pos (2 ^ left + i)) (pos n)) (doubled left)
    ∙ c (2 ^ left + i) (omega (arith, doubled left))
    ∙ ap at (sym (add_assoc from (2 ^ left) i))

module _ (b : Basis) (tolerance : ℕ) (x y : ℕ → ℤ) where
  -- a piece that is not cut on
  leaf : (left from : ℕ) (p : Piece) → p.level + left ≡ finest → Covers left from p.x x → Covers left from p.y y → Same (divisor b finest) (start (divisor b) p) (x from ∷ y from ∷ [])
  leaf left from p deep cx cy =
      let levels : left ≡ finest - p.level = omega arith in
      let sum : (q : Four) (at : ℕ → ℤ) → Covers left from q at → at from ≡ pos (2 ^ (3 * (finest - p.level))) *ℤ q.a =
      λ q at c. ap at (sym (add-zero from)) ∙ sym (c 0 (omega arith)) ∙ start-sum left q ∙ ap (λ (n : ℕ). pos (2 ^ (3 * n)) *ℤ q.a) levels in
      same-both b p.level (omega arith) p.x.a p.y.a (x from) (y from) (sum p.x x cx) (sum p.y y cy)

  pub starts-even : (left from : ℕ) (p : Piece) → p.level + left ≡ finest → Covers left from p.x x → Covers left from p.y y
      → Same (divisor b finest) (starts (divisor b) (tree (divisor b) tolerance left p)) (sums_at x y (steps_in left from (tree (divisor b) tolerance left p)))
  unfolding starts steps_in sums_at
  starts-even zero from p deep cx cy =
      let P : Tree → Type 0 = λ t. Same (divisor b finest) (starts (divisor b) t) (sums_at x y (steps_in 0 from t)) in
      ⊎_elim (λ (flat : is_flat (divisor b) tolerance p ≡ true). subst P (sym (tree-flat (divisor b) tolerance p 0 flat)) (leaf 0 from p deep cx cy))
      (λ (rough : is_flat (divisor b) tolerance p ≡ false). subst P (sym (tree-rough (divisor b) tolerance p rough)) (leaf 0 from p deep cx cy))
      (passes (is_flat (divisor b) tolerance p))
  starts-even (suc left) from p deep cx cy =
      let P : Tree → Type 0 = λ t. Same (divisor b finest) (starts (divisor b) t) (sums_at x y (steps_in (suc left) from t)) in
      let l = tree (divisor b) tolerance left (left_piece p) in
      let r = tree (divisor b) tolerance left (right_piece p) in
      let on-left = starts-even left from (left_piece p) (omega arith) (covers-left left from p.x x cx) (covers-left left from p.y y cy) in
      let on-right = starts-even left (from + 2 ^ left) (right_piece p) (omega arith) (covers-right left from p.x x cx) (covers-right left from p.y y cy) in
      ⊎_elim (λ (flat : is_flat (divisor b) tolerance p ≡ true). subst P (sym (tree-flat (divisor b) tolerance p (suc left) flat)) (leaf (suc left) from p deep cx cy))
      (λ (rough : is_flat (divisor b) tolerance p ≡ false).
      subst P (sym (tree-cut (divisor b) tolerance p left rough))
      (subst (Same (divisor b finest) (starts (divisor b) l ++ starts (divisor b) r)) (sym (sums-append x y (steps_in left from l) (steps_in left (from + 2 ^ left) r)))
      (same-append (divisor b finest) (starts (divisor b) l) (starts (divisor b) r) (sums_at x y (steps_in left from l)) (sums_at x y (steps_in left (from + 2 ^ left) r)) on-left on-right)))
      (passes (is_flat (divisor b) tolerance p))
