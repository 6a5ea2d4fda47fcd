-- An induction on the levels left. A flat piece's start is one point; of a cut piece the left half's starts are written and then the right half's after them (`writes-append`).
use mathlib.Core.Path.{◌≡◌, refl, sym, ap, ◌∙◌, subst}
use mathlib.Core.List.{[], ◌∷◌}
use Prim.Native.Nat.{ℕ, ◌+◌, ◌*◌, ◌-◌, ◌≤◌, ◌<◌}
use native.Mathlib.Omega.{arith}
use lib.IntN.{nat_abs}
use lib.ListN.{length}
use mir.Syntax.{w64}
use Rattle.whole.specs.Outcome.{outcome}
use Rattle.whole.proofs.Fit.{kept, kept-is}
use Rattle.curve.specs.declared.Four.{Four}
use Rattle.curve.specs.Span.{divisor}
use Rattle.curve.specs.Inner.{far_reach, divisor_of, most_bits}
use Rattle.curve.proofs.Bits.{divisor-bits, bits_most}
use Rattle.spans.specs.Inner.{rounds, Cuttable}
use Rattle.spans.proofs.Halves.{leaf-fits}
use Rattle.pieces.specs.declared.Piece.{Piece}
use Rattle.pieces.specs.Tree.{finest, Tree, Flat, Cut, Sound, left_piece, right_piece}
use Rattle.pieces.specs.Values.{starts}
use Rattle.pieces.specs.Inner.{tree_at, writes, Walkable}
use Rattle.pieces.proofs.Trees.{halvable, walkable-left, walkable-right, at-flat, at_cut}
use Rattle.pieces.proofs.Writes.{onward, writes-append, writes-both, writes-next, writes-most}
use Rattle.pieces.proofs.Scaled.{start-near}
use Rattle.pieces.proofs.Starts.{sound-shallow, sound-halves, starts-flat, starts-cut, cut-length}
use Rattle.pieces.proofs.fill.+fill_starts.Goals as goal
use Rattle.pieces.proofs.fill.+fill_starts.Goals.{Start, Then-is_flat, Else-is_flat, After-divisor_bits-bits, After-fill_starts-on_left}

-- the tree of a piece
abbrev tree_of : (t : ℕ) → Start t → Piece → Tree
tree_of t c q = tree_at c.args.rule.basis c.args.rule.tolerance q.level q.x q.y

pub is_flat-requires : goal.is_flat-requires
is_flat-requires t c = halvable c.args.rule.basis c.args.piece c.requires.walkable.0

-- ---- a flat piece

flat : (t : ℕ) (c : Then-is_flat t) → tree_of t c.before.before c.args.piece ≡ Flat c.args.piece
flat t c = let a = c.args in at-flat a.rule.basis a.rule.tolerance a.piece.level a.piece.x a.piece.y (sym c.is_flat.ensures ∙ c.if-is_flat.true)

module _ (t : ℕ) (c : After-divisor_bits-bits t) where
  abbrev level : ℕ
  level = c.args.piece.level

  -- the level's divisor by its bits
  over : divisor_of c.divisor_bits-bits.result ≡ divisor c.args.rule.basis level
  over = ap divisor_of c.divisor_bits-bits.ensures ∙ sym (divisor-bits c.args.rule.basis level)

  -- a first control, as the machine keeps it, is in reach of the rounding
  near : (q : Four) → Cuttable (finest - level) (divisor c.args.rule.basis finest) q → nat_abs (kept w64 q.a) ≤ divisor_of c.divisor_bits-bits.result * far_reach
  near q cut =
      let b = c.args.rule.basis in
      subst (λ (n : ℕ). nat_abs (kept w64 q.a) ≤ n * far_reach) (sym over)
      (subst (λ z. nat_abs z ≤ divisor b level * far_reach) (sym (kept-is w64 q.a (leaf-fits (finest - level) (divisor b finest) q cut))) (start-near b level q c.requires.walkable.0.shallow cut))

pub put_point-exact-requires-clause-bits_le_most_bits : goal.put_point-exact-requires-clause-bits_le_most_bits
put_point-exact-requires-clause-bits_le_most_bits t c =
    let a = c.args in
    subst (λ (n : ℕ). n ≤ most_bits) (sym c.divisor_bits-bits.ensures) (bits_most a.rule.basis a.piece.level (omega (arith, c.requires.walkable.0.shallow)))

pub put_point-exact-requires-clause-x_bound : goal.put_point-exact-requires-clause-x_bound
put_point-exact-requires-clause-x_bound t c =
    let d = c.before.before.before.before in
    let w = c.requires.walkable.0 in
    (near t d c.args.piece.x w.on-x, near t d c.args.piece.y w.on-y)

pub put_point-exact-requires-clause-at_in_bounds : goal.put_point-exact-requires-clause-at_in_bounds
put_point-exact-requires-clause-at_in_bounds t c =
    let two = starts-flat (divisor c.args.rule.basis) _ _ (flat t c.before.before.before.before.before) in
    (omega (arith, ap length two, c.requires.exact_le_next.1), c.requires.exact_le_next.0)

pub returns-then-is_flat : goal.returns-then-is_flat
returns-then-is_flat t c =
    let d = c.before.before.before.before.before in
    let a = c.args in
    let p = a.piece in
    let w = c.requires.walkable.0 in
    let x = kept-is w64 p.x.a (leaf-fits (finest - p.level) (divisor a.rule.basis finest) p.x w.on-x) in
    let y = kept-is w64 p.y.a (leaf-fits (finest - p.level) (divisor a.rule.basis finest) p.y w.on-y) in
    writes-both (divisor a.rule.basis p.level) p.x.a p.y.a a.filled a.points.now _
    (c.put_point-exact.ensures ∙ (λ i. rounds (over t d i) (x i ∷ y i ∷ []) a.filled.next a.filled.exact a.points.now))
    ∙ ap (λ values. writes values a.filled a.points.now) (sym (starts-flat (divisor a.rule.basis) _ _ (flat t d.before)))

-- ---- a piece that is not flat is above the finest level, and its tree is that of its halves

module _ (t : ℕ) (c : Else-is_flat t) where
  abbrev p : Piece
  p = c.args.piece

  abbrev tree_in : Piece → Tree
  tree_in q = tree_at c.args.rule.basis c.args.rule.tolerance q.level q.x q.y

  shallow : p.level < finest
  shallow = sound-shallow c.args.rule.basis c.args.rule.tolerance p.level p.x p.y c.requires.walkable.0.shallow (sym c.is_flat.ensures ∙ c.if-is_flat.false) c.requires.walkable.1

  is_cut : tree_in p ≡ Cut (tree_in (left_piece p)) (tree_in (right_piece p))
  is_cut = at_cut c.args.rule.basis c.args.rule.tolerance p.level p.x p.y (sym c.is_flat.ensures ∙ c.if-is_flat.false) shallow

  -- so many numbers are its halves' together
  halves-length : length (starts (divisor c.args.rule.basis) (tree_in p))
      ≡ length (starts (divisor c.args.rule.basis) (tree_in (left_piece p))) + length (starts (divisor c.args.rule.basis) (tree_in (right_piece p)))
  halves-length = cut-length (divisor c.args.rule.basis) _ _ _ is_cut

  -- a half that is filled is at the next level
  filled : (half : Piece → Piece) (q : Piece) → q ≡ half p → (half p).level ≡ p.level + 1 → finest - q.level < t
  filled half q e next = omega (arith, ap (λ (r : Piece). r.level) e, next, shallow, c.decreases)

  left : Walkable c.args.rule.basis (left_piece p).level (left_piece p).x (left_piece p).y × Sound (tree_in (left_piece p))
  left = (walkable-left c.args.rule.basis p.level p.x p.y shallow c.requires.walkable.0, (sound-halves _ _ _ is_cut c.requires.walkable.1).0)

  right : Walkable c.args.rule.basis (right_piece p).level (right_piece p).x (right_piece p).y × Sound (tree_in (right_piece p))
  right = (walkable-right c.args.rule.basis p.level p.x p.y shallow c.requires.walkable.0, (sound-halves _ _ _ is_cut c.requires.walkable.1).1)

pub left_half-requires : goal.left_half-requires
left_half-requires t c = halvable c.args.rule.basis c.args.piece c.requires.walkable.0

pub fill_starts-on_left-requires : goal.fill_starts-on_left-requires
fill_starts-on_left-requires t c =
    let e = c.before.before in
    let same = c.left_half.ensures in
    let a = c.args in (
      filled t e left_piece c.left_half.result same refl,
      (
        subst (λ (q : Piece). Walkable a.rule.basis q.level q.x q.y × Sound (tree_in t e q)) (sym same) (left t e),
        (
          c.requires.exact_le_next.0,
          omega (arith, ap (λ (q : Piece). length (starts (divisor a.rule.basis) (tree_in t e q))) same, c.requires.exact_le_next.1, halves-length t e),
        ),
      ),
    )

-- what the left half comes to
left-written : (t : ℕ) (c : After-fill_starts-on_left t) → outcome c.fill_starts-on_left.result c.fill_starts-on_left.new.points
    ≡ writes (starts (divisor c.args.rule.basis) (tree_in t c.before.before.before (left_piece c.args.piece))) c.args.filled c.args.points.now
left-written t c =
    let a = c.args in
    c.fill_starts-on_left.ensures ∙ ap (λ (q : Piece). writes (starts (divisor a.rule.basis) (tree_in t c.before.before.before q)) a.filled a.points.now) c.left_half.ensures

pub right_half-requires : goal.right_half-requires
right_half-requires t c = halvable c.args.rule.basis c.args.piece c.requires.walkable.0

pub fill_starts-requires : goal.fill_starts-requires
fill_starts-requires t c =
    let l = c.before.before.before in
    let e = l.before.before.before in
    let same = c.right_half.ensures in
    let a = c.args in
    let left = left-written t l in (
      filled t e right_piece c.right_half.result same refl,
      (
        subst (λ (q : Piece). Walkable a.rule.basis q.level q.x q.y × Sound (tree_in t e q)) (sym same) (right t e),
        (
          omega (arith, writes-most _ _ _ _ left c.requires.exact_le_next.0, c.requires.exact_le_next.0),
          omega (arith, ap (λ (q : Piece). length (starts (divisor a.rule.basis) (tree_in t e q))) same, c.requires.exact_le_next.1, halves-length t e, writes-next _ _ _ _ left, l.fill_starts-on_left.auto.points),
        ),
      ),
    )

pub returns : goal.returns
returns t c =
    let l = c.before.before.before.before.before in
    let e = l.before.before.before in
    let a = c.args in
    c.fill_starts.ensures
    ∙ ap (λ (q : Piece). writes (starts (divisor a.rule.basis) (tree_in t e q)) l.fill_starts-on_left.result l.fill_starts-on_left.new.points) c.right_half.ensures
    ∙ ap (onward (starts (divisor a.rule.basis) (tree_in t e (right_piece a.piece)))) (left-written t l)
    ∙ writes-append _ _ a.filled a.points.now
    ∙ ap (λ values. writes values a.filled a.points.now) (sym (starts-cut (divisor a.rule.basis) _ _ _ (is_cut t e)))
