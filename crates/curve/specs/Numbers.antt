-- Whole numbers as they are printed, and a test for equality.
use Rattle.std.specs.Prelude.{Bool, false, ℕ, eqb, ℤ, pos, negsuc, neg_ℤ}

abbrev pub neg : ℕ → ℤ
neg n = neg_ℤ (pos n)

-- Two whole numbers are the same.
abbrev pub equal : ℤ → ℤ → Bool
equal (pos m) (pos n) = eqb m n
equal (negsuc m) (negsuc n) = eqb m n
equal (pos m) (negsuc n) = false
equal (negsuc m) (pos n) = false
