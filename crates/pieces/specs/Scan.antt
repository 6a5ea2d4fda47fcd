-- The pieces in the order in which the walk from the left meets them, and which refusal comes first (document 02, request 3): "21 a piece at depth 6 not flat, 22 cuts would pass the caller's most,
-- whichever the walk from the left meets first, 21 before 22 at one piece". Definitions only.
use Rattle.std.specs.Prelude.{cond, List, [], ◌∷◌, ◌++◌, ℕ, ◌+◌, leb, Err, Ok, Result}
use Rattle.pieces.specs.Tree.{Tree, Flat, Rough, Cut}
use Rattle.pieces.specs.declared.Uncut.{Uncut}
use Rattle.pieces.specs.declared.Uncut.TheVariants.{TooDeep, TooMany}

-- What is met: a flat piece, one that is not flat at the finest level, or one to be cut.
pub data Met : Type 0 where
  flat : Met
  rough : Met
  cut : Met

-- A piece comes before its halves, and the left half before the right one.
unfoldable pub met : Tree → List Met
met (Flat p) = flat ∷ []
met (Rough p) = rough ∷ []
met (Cut l r) = cut ∷ met l ++ met r

unfoldable pub met_all : List Tree → List Met
met_all [] = []
met_all (t ∷ trees) = met t ++ met_all trees

-- One after another, with `made` cuts made already.
unfoldable pub scan : ℕ → ℕ → List Met → Result ℕ Uncut
scan most made [] = Ok made
scan most made (flat ∷ rest) = scan most made rest
scan most made (rough ∷ rest) = Err TooDeep
scan most made (cut ∷ rest) = cond (leb most made) (Err TooMany) (scan most (made + 1) rest)
