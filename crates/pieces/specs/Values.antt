-- Exact values, each a whole number over a divisor of its own, and what rounding them comes to. "Points are the rounded start of each flat piece in order and the last end" (document 02,
-- request 3). Definitions only.
use Rattle.std.specs.Prelude.{List, [], ◌∷◌, ◌++◌, map, ℕ, ℤ}
use Rattle.whole.specs.Nearest.{nearest, remainder}
use Rattle.curve.specs.declared.Four.{Four}
use Rattle.spans.specs.Numbers.{noughts}
use Rattle.pieces.specs.declared.Piece.{Piece}
use Rattle.pieces.specs.Tree.{Tree, Flat, Rough, Cut}

pub record Value : Type 0 where
  pub sum : ℤ
  pub divisor : ℕ

abbrev pub value : ℕ → ℤ → Value
value divisor sum = record { sum = sum; divisor = divisor }

-- The two of a point, x then y.
abbrev pub both : ℕ → ℤ → ℤ → List Value
both divisor x y = value divisor x ∷ value divisor y ∷ []

-- A piece starts at its first control.
abbrev pub start : (ℕ → ℕ) → Piece → List Value
start d p = both (d p.level) p.x.a p.y.a

-- The starts of a tree's flat pieces, from the left. (A tree with a rough piece is refused: nothing comes of that piece's start.)
unfoldable pub starts : (ℕ → ℕ) → Tree → List Value
starts d (Flat p) = start d p
starts d (Rough p) = start d p
starts d (Cut l r) = starts d l ++ starts d r

-- Those of trees, one after another.
unfoldable pub all_starts : (ℕ → ℕ) → List Tree → List Value
all_starts d [] = []
all_starts d (t ∷ trees) = starts d t ++ all_starts d trees

-- A span ends at its last control.
abbrev pub end : (ℕ → ℕ) → Four → Four → List Value
end d x y = both (d 0) x.d y.d

-- The numbers that they are rounded to, and how many of them are exact: nothing is left over.
abbrev pub numbers : List Value → List ℤ
numbers values = map (λ (v : Value). nearest v.sum v.divisor) values

abbrev pub exact_of : List Value → ℕ
exact_of values = noughts (map (λ (v : Value). remainder v.sum v.divisor) values)
