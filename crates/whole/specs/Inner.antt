-- For contracts inside the project alone: no public contract uses what is here.
-- A sum over m · e, where e is a power of two and m an even multiple of it, as the machine rounds it.
use Rattle.std.specs.Prelude.{◌≡◌, Bool, cond, ℕ, suc, ◌-◌, ◌/◌, ◌%◌, ◌^◌, ◌≤◌, ◌<◌, eqb, ℤ, pos, negsuc, nat_abs, ◌+ℤ◌}
use Rattle.std.specs.Int.Signed.{shr_z}

-- Whether a sum is a multiple of e.
abbrev pub multiple_of : ℕ → ℤ → Bool
multiple_of e z = eqb (nat_abs z % e) 0

-- The sum, and one less where it is below zero and a multiple of e.
unfoldable pub moved : ℕ → ℤ → ℤ
moved e (pos n) = pos n
moved e (negsuc n) = cond (eqb (suc n % e) 0) (negsuc (suc n)) (negsuc n)

-- The whole number nearest to z / (m · e), a half to the greater: the whole part of (the whole part of z / e, and half of m more) / m.
unfoldable pub half_to_greater : ℕ → ℕ → ℤ → ℤ
half_to_greater m e z = shr_z (shr_z z e +ℤ pos (m / 2)) m

-- How far from zero a number that is rounded to may be.
abbrev pub farthest : ℕ
farthest = 2 ^ 23 - 1

-- What can be rounded over: 32 bits hold twice as many of m as the farthest number, and 64 bits a sum.
pub record Roundable (m bits : ℕ) : Type 0 where
  pub some : 0 < m
  pub even : m % 2 ≡ 0
  pub few : m ≤ 2 ^ 8
  pub shallow : bits ≤ 30
