-- The points of an outline from the published formulas alone (document 01, "What it draws" and "The curve, exactly"): the published value as a fraction, rounded once. Number q
-- of an outline is span s at t = i / 2^k on axis q % 2.
use Rattle.std.specs.Prelude.{Bool, cond, List, ℕ, zero, suc, ◌+◌, ◌*◌, ◌-◌, ◌/◌, ◌%◌, ◌^◌, min, eqb, ℤ, pos, nat_abs}
use Rattle.whole.specs.Nearest.{nearest}
use Rattle.curve.specs.declared.Basis.{Basis}
use Rattle.curve.specs.Tab.{tab}
use Rattle.curve.specs.Published.{published, denominator}
use Rattle.curve.specs.Span.{coordinate, records}
use Rattle.shape.specs.declared.Plan.{Plan}

-- What a published value at t = i / 2^k is a fraction of.
abbrev pub published_divisor : Basis → ℕ → ℕ
published_divisor b k = denominator b * 2 ^ (3 * k)

-- The published value of span s on an axis (0 is x, 1 is y) at t = i / 2^k, as that fraction's numerator, and the point there.
abbrev pub published_at : Basis → ℕ → List ℤ → ℕ → ℕ → ℕ → ℤ
published_at b k controls s axis i = published b (records b s (coordinate controls axis)) (pos i) (pos (2 ^ k))

abbrev pub published_point : Basis → ℕ → List ℤ → ℕ → ℕ → ℕ → ℤ
published_point b k controls s axis i = nearest (published_at b k controls s axis i) (published_divisor b k)

-- The 2^k + 1 points of span s, from t = 0 to t = 1, x then y.
abbrev pub published_span : Basis → ℕ → List ℤ → ℕ → List ℤ
published_span b k controls s = tab (λ (j : ℕ). published_point b k controls s (j % 2) (j / 2)) 0 (2 * (2 ^ k + 1))

-- The published value of number q of a plan's outline, and the number.
unfoldable pub published_value : Plan → List ℤ → ℕ → ℤ
published_value p controls q =
    let s = min (q / 2 / 2 ^ p.depth) (p.spans - 1) in
    published_at p.basis p.depth controls s (q % 2) (q / 2 - s * 2 ^ p.depth)

unfoldable pub published_number : Plan → List ℤ → ℕ → ℤ
published_number p controls q = nearest (published_value p controls q) (published_divisor p.basis p.depth)

-- ---- which are whole (document 02, request 9)

-- Whether z / d is: d divides z.
abbrev pub is_whole : ℤ → ℕ → Bool
is_whole z d = eqb (nat_abs z % d) 0

-- 1 where the published value of number q is whole, and 0 where it is not.
abbrev pub whole_at : Plan → List ℤ → ℕ → ℕ
whole_at p controls q = cond (is_whole (published_value p controls q) (published_divisor p.basis p.depth)) 1 0

-- How many of the published values of n numbers, from number q on.
unfoldable pub whole_values : Plan → List ℤ → ℕ → ℕ → ℕ
whole_values p controls q zero = 0
whole_values p controls q (suc n) = whole_at p controls q + whole_values p controls (suc q) n
