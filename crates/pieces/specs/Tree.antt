-- Steps chosen by tolerance (document 02, request 3): "an outline that cuts a span at its midpoint only while needed". A piece of a span is flat, or it is cut at its middle into a left
-- and a right piece, and so on: a tree. Nothing in it is rounded or divided. Definitions only.
use Rattle.std.specs.Prelude.{Bool, cond, ◌&&◌, List, [], ◌∷◌, ℕ, zero, suc, ◌+◌, ◌*◌, ◌-◌, ◌^◌, leb}
use Rattle.curve.specs.declared.Four.{Four}
use Rattle.pieces.specs.declared.Piece.{Piece}
use Rattle.curve.specs.Bend.{bend}
use Rattle.curve.specs.Ways.{left_half, right_half}

-- "A piece at depth 6": no piece is cut more often than this. A number of its own, not the depth that outlines may have.
abbrev pub finest : ℕ
finest = 6

-- "Tolerance is a whole number of micrometres from 0 to 10,000."
abbrev pub most_tolerance : ℕ
most_tolerance = 10000

-- A piece (`Piece` in src/lib.rt): how many cuts made it, and its Bezier controls on both axes. They are exact, as whole numbers over a divisor, which is eight times finer with each cut: `d level`, where d gives
-- the divisor of each depth.
abbrev pub piece : ℕ → Four → Four → Piece
piece level x y = record { level = level; x = x; y = y }

-- Its halves, cut at the middle.
abbrev pub left_piece : Piece → Piece
left_piece p = piece (p.level + 1) (left_half p.x) (left_half p.y)

abbrev pub right_piece : Piece → Piece
right_piece p = piece (p.level + 1) (right_half p.x) (right_half p.y)

-- "A piece is flat when, on both axes, three times the larger, in size, of its two second differences of Bezier controls is at most four times the tolerance, in exact values": both sides
-- times the divisor.
abbrev pub flat_on : ℕ → ℕ → Four → Bool
flat_on divisor tolerance q = leb (3 * bend q) (4 * (tolerance * divisor))

unfoldable pub is_flat : (ℕ → ℕ) → ℕ → Piece → Bool
is_flat d tolerance p = flat_on (d p.level) tolerance p.x && flat_on (d p.level) tolerance p.y

-- A flat piece; a piece that is cut, with what comes of its halves; or one that is not flat and is not cut either, since it is at the finest level.
pub data Tree : Type 0 where
  Flat : Piece → Tree
  Rough : Piece → Tree
  Cut : Tree → Tree → Tree

-- The tree of a piece with `left` more levels below it.
unfoldable pub tree : (ℕ → ℕ) → ℕ → ℕ → Piece → Tree
tree d tolerance zero p = cond (is_flat d tolerance p) (Flat p) (Rough p)
tree d tolerance (suc left) p = cond (is_flat d tolerance p) (Flat p) (Cut (tree d tolerance left (left_piece p)) (tree d tolerance left (right_piece p)))

-- The tree of a span, from its controls on both axes.
abbrev pub span_tree : (ℕ → ℕ) → ℕ → Four → Four → Tree
span_tree d tolerance x y = tree d tolerance finest (piece 0 x y)

-- "The cuts in the definition's tree": its inner nodes.
unfoldable pub cuts : Tree → ℕ
cuts (Flat p) = 0
cuts (Rough p) = 0
cuts (Cut l r) = suc (cuts l + cuts r)

-- No span takes more than these: every piece above the finest level cut.
abbrev pub most_cuts : ℕ
most_cuts = 2 ^ finest - 1

-- Each span is a tree of its own; their cuts are counted together.
unfoldable pub all_cuts : List Tree → ℕ
all_cuts [] = 0
all_cuts (t ∷ trees) = cuts t + all_cuts trees

-- Every piece of it is flat or cut: none is refused.
unfoldable pub Sound : Tree → Type 0
Sound (Flat p) = Unit {0}
Sound (Rough p) = ⊥
Sound (Cut l r) = Sound l × Sound r
