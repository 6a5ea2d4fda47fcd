-- The listing of an outline (document 01, "Sums to hold it to"). First line: basis, depth, spans, points. Then for each point its number, x, y.
-- Of an outline with steps chosen by tolerance (document 02, request 3) the first line is basis, tolerance, spans, points, cuts, and the rest as ever.
-- A refusal is one line: the word `refused`, the number, the place. Definitions only.
use Rattle.std.specs.Prelude.{ℕ, suc, ◌*◌, ◌/◌, cond, List, [], ◌∷◌, ◌++◌, map, leb, ℤ, length, take, Option, None}
use Rattle.whole.specs.Outcome.{Outcome, outcome}
use Rattle.listing.specs.Decimal.{natural, decimal}
use Rattle.listing.specs.Written.{written}

abbrev pub space : ℕ
space = 32

abbrev pub newline : ℕ
newline = 10

-- words with a single space between them, ended by a newline
abbrev pub line : List (List ℕ) → List ℕ
line [] = newline ∷ []
line (word ∷ []) = word ++ (newline ∷ [])
line (word ∷ next ∷ words) = word ++ (space ∷ line (next ∷ words))

-- a line of natural numbers, as the first line is
abbrev pub numbers_line : List ℕ → List ℕ
numbers_line numbers = line (map natural numbers)

-- the line of one point
abbrev pub point_line : ℕ → ℤ → ℤ → List ℕ
point_line number x y = line (natural number ∷ decimal x ∷ decimal y ∷ [])

-- a line for each point, x then y, the first of them with the given number
abbrev pub point_lines : ℕ → List ℤ → List ℕ
point_lines number [] = []
point_lines number (x ∷ []) = []
point_lines number (x ∷ y ∷ points) = point_line number x y ++ point_lines (suc number) points

-- the first line of an outline's listing
abbrev pub heading_text : ℕ → ℕ → ℕ → ℕ → List ℕ
heading_text basis depth spans points = numbers_line (basis ∷ depth ∷ spans ∷ points ∷ [])

-- the numbers of a first line, and points as one list, x then y
abbrev pub text_under : List ℕ → List ℤ → List ℕ
text_under numbers points = numbers_line numbers ++ point_lines 0 points

-- the listing of an outline
unfoldable pub outline_text : ℕ → ℕ → ℕ → List ℤ → List ℕ
outline_text basis depth spans points = text_under (basis ∷ depth ∷ spans ∷ length points / 2 ∷ []) points

-- the listing of an outline with steps chosen by tolerance
unfoldable pub chosen_text : ℕ → ℕ → ℕ → ℕ → List ℤ → List ℕ
chosen_text basis tolerance spans cuts points = text_under (basis ∷ tolerance ∷ spans ∷ length points / 2 ∷ cuts ∷ []) points

-- the word `refused`
abbrev pub refused : List ℕ
refused = 114 ∷ 101 ∷ 102 ∷ 117 ∷ 115 ∷ 101 ∷ 100 ∷ []

-- the listing of a refusal
abbrev pub refusal_text : ℕ → ℕ → List ℕ
refusal_text number place = line (refused ∷ natural number ∷ natural place ∷ [])

-- What listing the first `count` points answers and leaves, where `text` makes the listing of points: it stands from the start of the lent list on; where `points` holds fewer than
-- those, `None`, and all is kept.
unfoldable pub listed_by : (List ℤ → List ℕ) → List ℕ → List ℤ → ℕ → Outcome (Option ℕ) (List ℕ)
listed_by text lent points count =
    cond (leb (2 * count) (length points))
    (written lent 0 (text (take (2 * count) points)))
    (outcome None lent)

abbrev pub listed_chosen : List ℕ → ℕ → ℕ → ℕ → List ℤ → ℕ → ℕ → Outcome (Option ℕ) (List ℕ)
listed_chosen lent basis tolerance spans points count cuts = listed_by (chosen_text basis tolerance spans cuts) lent points count
