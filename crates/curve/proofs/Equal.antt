-- Two whole numbers that pass the test for equality are the same.
use mathlib.Core.Path.{◌≡◌, ap}
use lib.Dec.{T, eqb→eq}
use lib.IntN.{ℤ, pos, negsuc}
use Rattle.curve.specs.Numbers.{equal}

pub equal-same : (x y : ℤ) → T (equal x y) → x ≡ y
equal-same (pos m) (pos n) t = ap pos (eqb→eq m n t)
equal-same (negsuc m) (negsuc n) t = ap negsuc (eqb→eq m n t)
equal-same (pos m) (negsuc n) t = absurd t
equal-same (negsuc m) (pos n) t = absurd t
