-- A whole number as decimal text, and what such a text means: digits, the most significant first, a minus sign in front of a negative number,
-- no spare zeros (document 01, "Sums to hold it to", the listing). A text is the list of its character codes. Definitions only.
use Rattle.std.specs.Prelude.{ℕ, zero, suc, ◌+◌, ◌*◌, ◌-◌, ◌/◌, ◌%◌, true, false, cond, List, [], ◌∷◌, ◌++◌, ltb, eqb, ℤ, pos, negsuc, neg_ℤ}

-- the character of a digit: `0` is 48, `9` is 57
abbrev pub digit : ℕ → ℕ
digit d = 48 + d

-- the minus sign
abbrev pub minus : ℕ
minus = 45

-- below ten the digit itself; from ten on the text of n / 10, and then the digit of n % 10. Each step leaves a smaller number: `steps` counts down to end them
unfoldable pub natural_in : ℕ → ℕ → List ℕ
natural_in zero n = []
natural_in (suc steps) n = elim (ltb n 10) [ true ↦ digit n ∷ [] | false ↦ natural_in steps (n / 10) ++ (digit (n % 10) ∷ []) ]

-- the decimal text of a natural number; n + 1 steps are always enough
unfoldable pub natural : ℕ → List ℕ
natural n = natural_in (suc n) n

-- the decimal text of a whole number
abbrev pub decimal : ℤ → List ℕ
decimal (pos n) = natural n
decimal (negsuc n) = minus ∷ natural (suc n)

-- what digits mean after a beginning that means n: each digit adds itself to ten times what stands before it
abbrev pub worth_after : ℕ → List ℕ → ℕ
worth_after n [] = n
worth_after n (c ∷ cs) = worth_after (n * 10 + (c - 48)) cs

-- what a decimal text means: the digits' number, negative where a minus sign stands in front
abbrev pub value : List ℕ → ℤ
value [] = pos 0
value (c ∷ cs) = cond (eqb c minus) (neg_ℤ (pos (worth_after 0 cs))) (pos (worth_after 0 (c ∷ cs)))
