-- No text is longer than the room for the longest: a heading has at most 21 characters, each point a line of at most 24, since its number has five digits and its coordinates seven and a
-- sign; and the line of a refusal has at most 14.
use mathlib.Core.Path.{◌≡◌}
use mathlib.Core.List.{List, [], ◌∷◌, ◌++◌}
use Prim.Native.Nat.{ℕ, suc, ◌+◌, ◌*◌, ◌/◌, ◌^◌, ◌≤◌, ◌<◌}
use native.Mathlib.Omega.{arith}
use lib.IntN.{ℤ, pos, negsuc, nat_abs}
use lib.ListN.{length, length-append}
use Rattle.listing.specs.Decimal.{natural, decimal}
use Rattle.listing.specs.Listing.{space, newline, numbers_line, heading_text, point_line, point_lines, chosen_text, refusal_text}
use Rattle.listing.proofs.Digits.{at_most}
use Rattle.pieces.specs.Tree.{finest}
use Rattle.file_list.specs.Files.{most_listed, most_heading, most_text}
use Rattle.file_list.specs.Parts.{span_points, most_part}

decimal-at-most : (k : ℕ) (z : ℤ) → nat_abs z < 10 ^ suc k → length (decimal z) ≤ suc (suc k)
decimal-at-most k (pos n) h = omega (arith, at_most k n h)
decimal-at-most k (negsuc n) h = omega (arith, at_most k (suc n) h)

-- a word, and a character and more after it
word-length : (w : List ℕ) (c : ℕ) (rest : List ℕ) → length (w ++ (c ∷ rest)) ≡ length w + 1 + length rest
word-length w c rest = omega (arith, length-append w (c ∷ rest))

-- ---- the lines

point-line : (i : ℕ) (x y : ℤ) → i < 10 ^ 5 → nat_abs x < 10 ^ 7 → nat_abs y < 10 ^ 7 → length (point_line i x y) ≤ 24
point-line i x y few near near' =
    let last = decimal y ++ (newline ∷ []) in
    let middle = decimal x ++ (space ∷ last) in
    omega (
      arith,
      word-length (natural i) space middle,
      word-length (decimal x) space last,
      word-length (decimal y) newline [],
      at_most 4 i few,
      decimal-at-most 6 x near,
      decimal-at-most 6 y near',
    )

-- every number of a list has at most seven digits
abbrev pub Small : List ℤ → Type 0
Small [] = Unit {0}
Small (z ∷ zs) = (nat_abs z < 10 ^ 7) × Small zs

point-lines : (i : ℕ) (points : List ℤ) → 2 * i + length points ≤ 2 * 10 ^ 5 → Small points → 2 * length (point_lines i points) ≤ 24 * length points
point-lines i [] few near = omega arith
point-lines i (x ∷ []) few near = omega arith
point-lines i (x ∷ y ∷ points) few near =
    omega (
      arith,
      length-append (point_line i x y) (point_lines (suc i) points),
      point-line i x y (omega arith) near.0 near.1.0,
      point-lines (suc i) points (omega arith) near.1.1,
    )

-- a number of at most so many digits, first of a heading's or last
first-number : (k n next : ℕ) (rest : List ℕ) → n < 10 ^ suc k → length (numbers_line (n ∷ next ∷ rest)) ≤ suc k + 1 + length (numbers_line (next ∷ rest))
first-number k n next rest few = omega (arith, word-length (natural n) space (numbers_line (next ∷ rest)), at_most k n few)

last-number : (k n : ℕ) → n < 10 ^ suc k → length (numbers_line (n ∷ [])) ≤ suc k + 1
last-number k n few = omega (arith, word-length (natural n) newline [], at_most k n few)

pub refusal-length : (a b : ℕ) → a < 10 ^ 2 → b < 10 ^ 2 → length (refusal_text a b) ≤ 14
refusal-length a b few low =
    let last = natural b ++ (newline ∷ []) in
    omega (arith, word-length (natural a) space last, word-length (natural b) newline [], at_most 1 a few, at_most 1 b low)

-- the first line of an outline's listing
pub heading-length : (b k s n : ℕ) → b < 10 → k < 10 → s < 10 ^ 2 → n < 10 ^ 5 → length (heading_text b k s n) ≤ most_part
heading-length b k s n small shallow short few =
    omega (arith, first-number 0 b k (s ∷ n ∷ []) small, first-number 0 k s (n ∷ []) shallow, first-number 1 s n [] short, last-number 4 n few)

-- and the lines of a span's points
pub span-length : (i : ℕ) (points : List ℤ) → 2 * i + length points ≤ 2 * 10 ^ 5 → length points ≤ 2 * span_points → Small points → length (point_lines i points) ≤ most_part
span-length i points low few near = omega (arith, point-lines i points low near)

-- the listing of chosen points
module _ (b s : ℕ) (points : List ℤ) (small : b < 10) (short : s < 10 ^ 2) (few : length points ≤ 2 * most_listed finest) (near : Small points) where
  -- how many points the heading says there are
  abbrev n : ℕ
  n = length points / 2

  pub chosen-length : (t c : ℕ) → t < 10 ^ 5 → c < 10 ^ 4 → length (chosen_text b t s c points) ≤ most_text
  unfolding chosen_text
  chosen-length t c fine sparse =
      let heading = b ∷ t ∷ s ∷ n ∷ c ∷ [] in
      let short-heading : length (numbers_line heading) ≤ most_heading =
      omega (arith, first-number 0 b t (s ∷ n ∷ c ∷ []) small, first-number 4 t s (n ∷ c ∷ []) fine, first-number 1 s n (c ∷ []) short, first-number 3 n c [] (omega arith), last-number 3 c sparse) in
      omega (arith, length-append (numbers_line heading) (point_lines 0 points), point-lines 0 points (omega arith) near, short-heading)
