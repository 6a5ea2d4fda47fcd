-- An induction on the levels left: each return is what the walk of the piece's tree comes to (`Trees`, `Walks`).
use Rattle.std.specs.Prelude.{Result, Err}
use mathlib.Core.Path.{◌≡◌, refl, sym, ap, ◌∙◌, subst}
use Prim.Native.Nat.{ℕ, ◌+◌, ◌-◌, ◌<◌}
use native.Mathlib.Omega.{arith}
use borrow.Author.Rules.{rules}
use Rattle.pieces.specs.Tree.{finest, Tree, Cut, left_piece, right_piece}
use Rattle.pieces.specs.Walk.{and_then, walk}
use Rattle.pieces.specs.Inner.{tree_at, Walkable}
use Rattle.pieces.specs.declared.Uncut.{Uncut}
use Rattle.pieces.specs.declared.Piece.{Piece}
use Rattle.pieces.proofs.Trees.{halvable, walkable-left, walkable-right, at-flat, at-finest, at_cut}
use Rattle.pieces.proofs.Walks.{walk-flat, walk-rough, walk-too-many, walk-cut}
use Rattle.pieces.proofs.walk.+count_cuts.Goals as goal
use Rattle.pieces.proofs.walk.+count_cuts.Goals.{Else-piece-eq-FINEST, Else-most-made, After-count_cuts}

pub is_flat-requires : goal.is_flat-requires
is_flat-requires t c = halvable c.args.rule.basis c.args.piece c.requires

pub returns-then-is_flat : goal.returns-then-is_flat
returns-then-is_flat t c =
    let a = c.args in
    walk-flat a.most a.made _ _ (at-flat a.rule.basis a.rule.tolerance a.piece.level a.piece.x a.piece.y (sym c.is_flat.ensures ∙ c.if-is_flat.true))

pub returns-then-piece-eq-FINEST : goal.returns-then-piece-eq-FINEST
returns-then-piece-eq-FINEST t c =
    let a = c.args in
    walk-rough a.most a.made _ _ (at-finest a.rule.basis a.rule.tolerance a.piece.level a.piece.x a.piece.y (sym c.is_flat.ensures ∙ c.if-is_flat.false) c.if-piece-eq-FINEST.true)

-- a piece that is not flat and not at the finest level is cut
module _ (t : ℕ) (c : Else-piece-eq-FINEST t) where
  abbrev p : Piece
  p = c.args.piece

  abbrev tree_of : Piece → Tree
  tree_of q = tree_at c.args.rule.basis c.args.rule.tolerance q.level q.x q.y

  shallow : p.level < finest
  shallow = omega (arith, c.if-piece-eq-FINEST.false, c.requires.shallow)

  is_cut : tree_of p ≡ Cut (tree_of (left_piece p)) (tree_of (right_piece p))
  is_cut = at_cut c.args.rule.basis c.args.rule.tolerance p.level p.x p.y (sym c.is_flat.ensures ∙ c.if-is_flat.false) shallow

  left : Walkable c.args.rule.basis (p.level + 1) (left_piece p).x (left_piece p).y
  left = walkable-left c.args.rule.basis p.level p.x p.y shallow c.requires

  right : Walkable c.args.rule.basis (p.level + 1) (right_piece p).x (right_piece p).y
  right = walkable-right c.args.rule.basis p.level p.x p.y shallow c.requires

pub returns-then-most-made : goal.returns-then-most-made
returns-then-most-made t c = let a = c.args in walk-too-many a.most a.made _ _ _ (is_cut t c.before) c.if-most-made.true

pub left_half-requires : goal.left_half-requires
left_half-requires t c = halvable c.args.rule.basis c.args.piece c.requires

-- a half that is walked is at the next level
walked : (t : ℕ) (c : Else-most-made t) (half : Piece → Piece) (q : Piece) → q ≡ half c.args.piece → (half c.args.piece).level ≡ c.args.piece.level + 1 → finest - q.level < t
walked t c half q e next = omega (arith, ap (λ (r : Piece). r.level) e, next, shallow t c.before, c.decreases)

pub count_cuts-requires : goal.count_cuts-requires
count_cuts-requires t c =
    let e = c.left_half.ensures in
    let b = c.args.rule.basis in (
      walked t c.before left_piece c.left_half.result e refl,
      subst (λ (q : Piece). Walkable b q.level q.x q.y) (sym e) (left t c.before.before),
    )

-- the walk goes on from what the left half's came to
cut-walked : (t : ℕ) (c : After-count_cuts t)
    → walk c.args.most c.args.made (tree_of t c.before.before.before c.args.piece)
    ≡ and_then c.count_cuts.result (λ n. walk c.args.most n (tree_of t c.before.before.before (right_piece c.args.piece)))
cut-walked t c =
    let e = c.before.before.before in
    let a = c.args in
    let rest : ℕ → Result ℕ Uncut = λ n. walk a.most n (tree_of t e (right_piece a.piece)) in
    walk-cut a.most a.made _ _ _ (is_cut t e) c.if-most-made.false
    ∙ ap (λ w. and_then w rest) (sym (c.count_cuts.ensures ∙ ap (λ (q : Piece). walk a.most (a.made + 1) (tree_of t e q)) c.left_half.ensures))

pub returns-in_err-so_far : goal.returns-in_err-so_far
returns-in_err-so_far t c =
    let k = c.before.before.before in
    let out : c.from_residual.result ≡ Err c.in_err-so_far.field-0.0 = search rules in
    out ∙ sym (cut-walked t k ∙ ap (λ w. and_then w (λ n. walk c.args.most n (tree_of t k.before.before.before (right_piece c.args.piece)))) c.in_err-so_far.was)

pub right_half-requires : goal.right_half-requires
right_half-requires t c = halvable c.args.rule.basis c.args.piece c.requires

pub count_cuts-requires-2 : goal.count_cuts-requires-2
count_cuts-requires-2 t c =
    let e = c.right_half.ensures in
    let s = c.before.before.before.before.before in (
      walked t s right_piece c.right_half.result e refl,
      subst (λ (q : Piece). Walkable c.args.rule.basis q.level q.x q.y) (sym e) (right t s.before),
    )

pub returns : goal.returns
returns t c =
    let a = c.args in
    let k = c.before.before.before.before in
    c.count_cuts-2.ensures
    ∙ ap (λ (q : Piece). walk a.most c.in_ok-so_far.so_far (tree_of t k.before.before.before q)) c.right_half.ensures
    ∙ sym (cut-walked t k ∙ ap (λ w. and_then w (λ n. walk a.most n (tree_of t k.before.before.before (right_piece a.piece)))) c.in_ok-so_far.was)
