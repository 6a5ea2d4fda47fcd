-- The uniform B-spline by 004's recursion (94), with its knots t_j = j. The parameter is u / h, and each N of order k is multiplied by (k-1)!·h^(k-1):
-- then N_{j,1} is 1 from knot j up to, and not with, knot j + 1, and (94) loses its denominators k - 1.
use Rattle.std.specs.Prelude.{◌&&◌, cond, ℕ, zero, suc, ◌+◌, ◌*◌, leb, ltb, ℤ, pos, ◌+ℤ◌, ◌-ℤ◌, ◌*ℤ◌}

-- `order k h j u` is N_{j,k+1}(u / h), so times k!·h^k.
unfoldable pub order : ℕ → ℕ → ℕ → ℕ → ℤ
order zero h j u = cond (leb (j * h) u && ltb u (suc j * h)) (pos 1) (pos 0)
order (suc k) h j u = (pos u -ℤ pos (j * h)) *ℤ order k h j u +ℤ (pos ((j + suc (suc k)) * h) -ℤ pos u) *ℤ order k h (suc j) u
