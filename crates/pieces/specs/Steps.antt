-- Where the chosen points stand on a span: at which steps of the finest depth, 64ths of it. Definitions only.
use Rattle.std.specs.Prelude.{List, [], ◌∷◌, ◌++◌, ℕ, zero, suc, ◌+◌, ◌^◌, ◌≤◌}
use Rattle.pieces.specs.Tree.{Tree, Flat, Rough, Cut}

-- The steps at which the pieces of a tree start, where the piece that it is of starts at step `from` and has `left` more levels below it, so 2^left steps: the right half starts in the middle.
unfoldable pub steps_in : ℕ → ℕ → Tree → List ℕ
steps_in left from (Flat p) = from ∷ []
steps_in left from (Rough p) = from ∷ []
steps_in zero from (Cut l r) = from ∷ []
steps_in (suc left) from (Cut l r) = steps_in left from l ++ steps_in left (from + 2 ^ left) r

-- Numbers that rise strictly, the first at least `from` and the last below `to`.
abbrev pub Rises : ℕ → List ℕ → ℕ → Type 0
Rises from [] to = from ≤ to
Rises from (g ∷ steps) to = (from ≤ g) × Rises (suc g) steps to
