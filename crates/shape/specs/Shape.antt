-- A shape is basis, depth k and control count n (document 01, "What it draws"), and a parameter (document 02, request 7): how many spans and points it has. The numbers are as they were passed, wrong ones too.
use Rattle.std.specs.Prelude.{Bool, cond, ◌&&◌, ℕ, zero, suc, ◌+◌, ◌*◌, ◌-◌, ◌/◌, ◌^◌, leb, eqb}
use Rattle.curve.specs.Span.{stride, is_loop}
use Rattle.curve.specs.Ways.{deepest}
use Rattle.curve.specs.declared.Basis.{Basis}
use Rattle.curve.specs.declared.Basis.TheVariants.{Bezier, BSpline, Cardinal, Hermite, Loop}
use Rattle.shape.specs.declared.Shape.{Shape}

-- The bases are numbered from 1 to 5: four of document 01, and the loop (document 02, request 8).
abbrev pub last_basis : ℕ
last_basis = 5

-- The numbers of those that are spoken of alone: the open B-spline, the one that has a parameter, and the loop.
abbrev pub b_spline : ℕ
b_spline = 2

abbrev pub cardinal : ℕ
cardinal = 3

abbrev pub loop : ℕ
loop = 5

-- A parameter in 64ths: 0 means one half, as 32 does (document 02, request 7).
unfoldable pub sixty_fourths : ℕ → ℕ
sixty_fourths zero = 32
sixty_fourths (suc c) = suc c

-- The basis of a number from 1 to 5, with a parameter, which a cardinal curve alone looks at, and a control count, round which a loop alone counts. Of any other number, which row 1
-- refuses, it says a loop, and nothing comes of that.
unfoldable pub basis_of : ℕ → ℕ → ℕ → Basis
basis_of zero c n = Loop n
basis_of (suc zero) c n = Bezier
basis_of (suc (suc zero)) c n = BSpline
basis_of (suc (suc (suc zero))) c n = Cardinal (sixty_fourths c)
basis_of (suc (suc (suc (suc zero)))) c n = Hermite
basis_of (suc (suc (suc (suc (suc b))))) c n = Loop n

abbrev pub basis_in : Shape → Basis
basis_in s = basis_of s.basis s.parameter s.count

-- A span takes four records, whatever the basis, a loop has four at least, and n is at most 64.
abbrev pub least_records : ℕ
least_records = 4

abbrev pub most_records : ℕ
most_records = 64

-- The records past the last span's stride, which it would share with a next one. In a loop those are the first ones again, and it has none besides.
abbrev pub tail : Basis → ℕ
tail b = cond (is_loop b) 0 (least_records - stride b)

-- The records of m spans: a stride for each, and those past the last. In the papers' numbers (`Table`): 3m+1, m+3, m+3, 2m+2, and m in a loop.
unfoldable pub records_of : Basis → ℕ → ℕ
records_of b m = stride b * m + tail b

-- The spans of n records: of an open basis, those that have all four of theirs among the first n.
unfoldable pub spans_of : Basis → ℕ → ℕ
spans_of b n = (n - tail b) / stride b

-- The first and the last span that uses record j of an open basis: the spans before have all their records among the first j, and those after begin past it.
abbrev pub first_using : Basis → ℕ → ℕ
first_using b j = spans_of b j

unfoldable pub last_using : Basis → ℕ → ℕ
last_using b j = j / stride b

-- n is allowed for a basis: from four to 64, it is the records of some m.
unfoldable pub allowed : Basis → ℕ → Bool
allowed b n = leb least_records n && (leb n most_records && eqb (records_of b (spans_of b n)) n)

-- There are m·2^k + 1 points.
unfoldable pub points_of : ℕ → ℕ → ℕ
points_of k m = m * 2 ^ k + 1

-- No outline has more points than as many spans as records would give at the deepest.
abbrev pub most_points : ℕ
most_points = most_records * 2 ^ deepest + 1
