-- The numbers of an outline, x then y (document 01, "What it draws"): point s·2^k + i is span s at t = i / 2^k, and the last is the last span at t = 1.
use Rattle.std.specs.Prelude.{List, [], ◌∷◌, ℕ, zero, suc, ◌+◌, ◌*◌, ◌-◌, ◌/◌, ◌%◌, ◌^◌, min, ℤ, pos, negsuc}
use Rattle.whole.specs.Nearest.{nearest, remainder}
use Rattle.curve.specs.Tab.{tab}
use Rattle.curve.specs.Span.{coordinate, records, divisor, sum_at}
use Rattle.shape.specs.declared.Plan.{Plan}

-- The exact sum of number q of a plan's outline: its point is q / 2, its axis q % 2.
unfoldable pub sum_of : Plan → List ℤ → ℕ → ℤ
sum_of p controls q =
    let g = q / 2 in
    let s = min (g / 2 ^ p.depth) (p.spans - 1) in
    sum_at p.basis p.depth (records p.basis s (coordinate controls (q % 2))) (g - s * 2 ^ p.depth)

-- Number q: its sum, rounded once.
unfoldable pub number : Plan → List ℤ → ℕ → ℤ
number p controls q = nearest (sum_of p controls q) (divisor p.basis p.depth)

-- What is left over of it (document 02, request 9).
unfoldable pub remainder_of : Plan → List ℤ → ℕ → ℤ
remainder_of p controls q = remainder (sum_of p controls q) (divisor p.basis p.depth)

-- The numbers from one span's start to another's, of which there are 2·2^k for each span.
abbrev pub per_span : ℕ → ℕ
per_span k = 2 * 2 ^ k

-- ---- how many are exact: of which nothing is left over

abbrev pub nought : ℤ → ℕ
nought (pos zero) = 1
nought (pos (suc n)) = 0
nought (negsuc n) = 0

unfoldable pub noughts : List ℤ → ℕ
noughts [] = 0
noughts (z ∷ l) = nought z + noughts l

-- What a rule gives for n numbers from q on, added up.
unfoldable pub total : (ℕ → ℕ) → ℕ → ℕ → ℕ
total f q zero = 0
total f q (suc n) = f q + total f (suc q) n

-- Of n numbers of a plan's outline, from number q on.
abbrev pub exact_in : Plan → List ℤ → ℕ → ℕ → ℕ
exact_in p controls q n = noughts (tab (remainder_of p controls) q n)
