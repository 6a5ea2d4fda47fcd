-- One span on one axis, as document 01 works it ("The curve, exactly"): the Bezier controls so many times that all are whole, their weighted sum, rounded once.
use Rattle.std.specs.Prelude.{Bool, true, false, cond, List, ℕ, ◌+◌, ◌*◌, ◌-◌, ◌^◌, ltb, ℤ, pos, ◌+ℤ◌, ◌-ℤ◌, ◌*ℤ◌, get_or}
use Rattle.whole.specs.Nearest.{nearest}
use Rattle.curve.specs.declared.Four.{Four}
use Rattle.curve.specs.declared.Basis.{Basis}
use Rattle.curve.specs.declared.Basis.TheVariants.{Bezier, BSpline, Cardinal, Hermite, Loop}
use Rattle.curve.specs.Four.{four, dot}
use Rattle.curve.specs.Published.{weights}

-- The one number of a basis that counts and places follow from (document 01, the table of bases): how many records after a span's first the next span's first is.
abbrev pub stride : Basis → ℕ
stride Bezier = 3
stride BSpline = 1
stride (Cardinal c) = 1
stride Hermite = 2
stride (Loop n) = 1

-- The first of the four records that span s uses.
unfoldable pub first_record : Basis → ℕ → ℕ
first_record b s = stride b * s

-- The coordinate of record r on an axis (0 is x, 1 is y) in a list of controls, x then y.
unfoldable pub coordinate : List ℤ → ℕ → ℕ → ℤ
coordinate l axis r = get_or l (2 * r + axis) (pos 0)

-- The four records from record r on, where `at` gives the coordinate of each.
unfoldable pub records_from : ℕ → (ℕ → ℤ) → Four
records_from r at = four (at r) (at (r + 1)) (at (r + 2)) (at (r + 3))

-- Counted round the end of n: past the last comes the first again. Nothing here is counted round twice, so x is below 2n.
unfoldable pub round_end : ℕ → ℕ → ℕ
round_end n x = cond (ltb x n) x (x - n)

-- Whether the records of a basis run round.
abbrev pub is_loop : Basis → Bool
is_loop Bezier = false
is_loop BSpline = false
is_loop (Cardinal c) = false
is_loop Hermite = false
is_loop (Loop n) = true

-- Record r as a basis counts its records: those of a loop run round (document 02, request 8; 004, section 3.1.2, "Joining the ends").
abbrev pub record_at : Basis → ℕ → ℕ
record_at Bezier r = r
record_at BSpline r = r
record_at (Cardinal c) r = r
record_at Hermite r = r
record_at (Loop n) r = round_end n r

-- The same basis with m records: a loop alone says how many it has.
abbrev pub recount : ℕ → Basis → Basis
recount m Bezier = Bezier
recount m BSpline = BSpline
recount m (Cardinal c) = Cardinal c
recount m Hermite = Hermite
recount m (Loop n) = Loop m

-- The four records of span s.
abbrev pub records : Basis → ℕ → (ℕ → ℤ) → Four
records b s at = records_from (first_record b s) (λ r. at (record_at b r))

-- How many times the four Bezier controls of a span are taken, so that all are whole: six, and for a cardinal curve 192, three times the 64 of its parameter (document 02, request 7).
abbrev pub fold : Basis → ℕ
fold Bezier = 6
fold BSpline = 6
fold (Cardinal c) = 192
fold Hermite = 6
fold (Loop n) = 6

-- Six times the Bezier controls of a B-spline's four records, of an open one's and of a loop's.
abbrev pub b_spline_controls : Four → Four
b_spline_controls p =
    four
    (p.a +ℤ pos 4 *ℤ p.b +ℤ p.c)
    (pos 4 *ℤ p.b +ℤ pos 2 *ℤ p.c)
    (pos 2 *ℤ p.b +ℤ pos 4 *ℤ p.c)
    (p.b +ℤ pos 4 *ℤ p.c +ℤ p.d)

-- The four Bezier controls, that many times.
unfoldable pub whole_controls : Basis → Four → Four
whole_controls Bezier p = four (pos 6 *ℤ p.a) (pos 6 *ℤ p.b) (pos 6 *ℤ p.c) (pos 6 *ℤ p.d)
whole_controls BSpline p = b_spline_controls p
whole_controls (Cardinal c) p =
    four
    (pos 192 *ℤ p.b)
    (pos 192 *ℤ p.b +ℤ pos c *ℤ (p.c -ℤ p.a))
    (pos 192 *ℤ p.c -ℤ pos c *ℤ (p.d -ℤ p.b))
    (pos 192 *ℤ p.c)
whole_controls Hermite p = four (pos 6 *ℤ p.a) (pos 6 *ℤ p.a +ℤ pos 2 *ℤ p.b) (pos 6 *ℤ p.c -ℤ pos 2 *ℤ p.d) (pos 6 *ℤ p.c)
whole_controls (Loop n) p = b_spline_controls p

-- The weighted sum of four controls at t = i / h, times h^3.
unfoldable pub weighted : Four → ℤ → ℤ → ℤ
weighted q i h = dot (weights i h) q

-- What the sum of a basis at depth k is divided by: 6 · 2^(3k), and for a cardinal curve 192 · 2^(3k).
abbrev pub divisor : Basis → ℕ → ℕ
divisor b k = fold b * 2 ^ (3 * k)

-- The exact sum of a span at t = i / 2^k, over that divisor.
abbrev pub sum_at : Basis → ℕ → Four → ℕ → ℤ
sum_at b k p i = weighted (whole_controls b p) (pos i) (pos (2 ^ k))

-- The point of a span at t = i / 2^k: worked exactly and rounded once.
unfoldable pub point : Basis → ℕ → Four → ℕ → ℤ
point b k p i = nearest (sum_at b k p i) (divisor b k)
