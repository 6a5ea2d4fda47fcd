-- What a program's argument is where a natural number is asked for: digits alone, one or more, and what they mean. Definitions only.
use Rattle.std.specs.Prelude.{Bool, true, cond, ◌&&◌, List, [], ◌∷◌, ℕ, ◌-◌, ◌^◌, min, leb, eqb, length, Option, Some, None}
use Rattle.listing.specs.Decimal.{worth_after}

-- `0` is 48, `9` is 57
abbrev pub is_digit : ℕ → Bool
is_digit c = leb 48 c && leb c 57

unfoldable pub all_digits : List ℕ → Bool
all_digits [] = true
all_digits (c ∷ cs) = is_digit c && all_digits cs

-- the greatest number of 64 bits stands for each past it
abbrev pub held : ℕ → ℕ
held n = min n (2 ^ 64 - 1)

unfoldable pub number_of : List ℕ → Option ℕ
number_of text = cond (eqb (length text) 0) None (cond (all_digits text) (Some (held (worth_after 0 text))) None)
