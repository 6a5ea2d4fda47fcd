-- For contracts inside the project alone: no public contract uses what is here.
-- A piece on its way through the code: its tree by its level, and its starts written into a lent list.
use Rattle.std.specs.Prelude.{List, ℕ, ◌+◌, ◌-◌, ◌^◌, ◌≤◌, ℤ, length}
use Rattle.std.proofs.lemmas.List.Edits.{sets}
use Rattle.whole.specs.Outcome.{Outcome, outcome}
use Rattle.curve.specs.declared.Four.{Four}
use Rattle.curve.specs.declared.Basis.{Basis}
use Rattle.curve.specs.Limits.{Inside}
use Rattle.curve.specs.Span.{divisor}
use Rattle.spans.specs.Inner.{Cuttable}
use Rattle.pieces.specs.declared.Filled.{Filled}
use Rattle.pieces.specs.declared.Piece.{Piece}
use Rattle.pieces.specs.Tree.{Tree, finest, piece, tree}
use Rattle.pieces.specs.Values.{Value, numbers, exact_of}

-- The controls of a piece are over the divisor of an outline's sums at that depth.
abbrev pub tree_at : Basis → ℕ → ℕ → Four → Four → Tree
tree_at b tolerance level x y = tree (divisor b) tolerance (finest - level) (piece level x y)

-- A piece that can be cut on to the finest level.
pub record Walkable (b : Basis) (level : ℕ) (x y : Four) : Type 0 where
  pub shallow : level ≤ finest
  pub on-x : Cuttable (finest - level) (divisor b finest) x
  pub on-y : Cuttable (finest - level) (divisor b finest) y

-- A piece whose halves fit: it is not below the finest level, and its controls are far inside 64 bits.
abbrev pub Halvable : Piece → Type 0
Halvable p = (p.level ≤ finest) × Inside (2 ^ 59) p.x × Inside (2 ^ 59) p.y

-- Values rounded into a lent list: from place f .next on, where f.exact numbers were exact before.
unfoldable pub writes : List Value → Filled → List ℤ → Outcome Filled (List ℤ)
writes values f l = outcome (record { next = f.next + length values; exact = f.exact + exact_of values }) (sets l f.next (numbers values))
