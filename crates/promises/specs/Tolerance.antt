-- The published curve at given steps (document 02, request 3): what stands in a list that has the points of those steps alone. Step g of a plan's outline is its point number g. Definitions only.
use Rattle.std.specs.Prelude.{cond, List, [], ◌∷◌, ℕ, ◌+◌, ◌*◌, ℤ}
use Rattle.shape.specs.declared.Plan.{Plan}
use Rattle.promises.specs.Points.{published_divisor, published_value, published_number, is_whole}

-- The points there, x then y.
unfoldable pub numbers_at : Plan → List ℤ → List ℕ → List ℤ
numbers_at p controls [] = []
numbers_at p controls (g ∷ steps) = published_number p controls (2 * g) ∷ published_number p controls (2 * g + 1) ∷ numbers_at p controls steps

-- Whether number q is exact, as 1 or 0, and how many of those points' numbers are.
abbrev pub whole_number : Plan → List ℤ → ℕ → ℕ
whole_number p controls q = cond (is_whole (published_value p controls q) (published_divisor p.basis p.depth)) 1 0

unfoldable pub whole_at : Plan → List ℤ → List ℕ → ℕ
whole_at p controls [] = 0
whole_at p controls (g ∷ steps) = whole_number p controls (2 * g) + (whole_number p controls (2 * g + 1) + whole_at p controls steps)
