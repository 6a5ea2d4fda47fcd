-- Files small enough to be read by computation alone: document 01's own, one with two faults in a record, and two words.
use Rattle.std.specs.Prelude.{Err, Ok}
use mathlib.Core.Path.{◌≡◌, refl}
use mathlib.Core.List.{List, [], ◌∷◌, ◌++◌}
use Prim.Native.Nat.{ℕ}
use lib.IntN.{ℤ, pos, negsuc}
use lib.ListN.{replicate}
use Rattle.whole.specs.Outcome.{outcome, refuses}
use Rattle.curve.specs.Tab.{tab}
use Rattle.curve.specs.Span.{coordinate}
use Rattle.shape.specs.Shape.{sixty_fourths, basis_of, spans_of, records_of, allowed}
use Rattle.shape.specs.Refusals.{judge, outside, seek}
use Rattle.record_file.specs.Format.{word, signed, number}
use Rattle.record_file.specs.Rows.{record_rows, reading}

-- basis 1, depth 1 and records (0,0), (0,8), (8,8), (8,0)
abbrev paper : List ℕ
paper =
    1 ∷ 1 ∷ 0 ∷ 0 ∷ 0 ∷ 0 ∷ 0 ∷ 0 ∷ 0 ∷ 0 ∷ 0 ∷ 0
    ∷ 1 ∷ 1 ∷ 0 ∷ 0 ∷ 0 ∷ 0 ∷ 0 ∷ 0 ∷ 8 ∷ 0 ∷ 0 ∷ 0
    ∷ 1 ∷ 1 ∷ 0 ∷ 0 ∷ 8 ∷ 0 ∷ 0 ∷ 0 ∷ 8 ∷ 0 ∷ 0 ∷ 0
    ∷ 1 ∷ 1 ∷ 0 ∷ 0 ∷ 8 ∷ 0 ∷ 0 ∷ 0 ∷ 0 ∷ 0 ∷ 0 ∷ 0
    ∷ []

abbrev lent : List ℤ
lent = replicate 10 (negsuc 4)

pub paper-read :
    reading paper lent
    ≡ outcome (Ok (record { basis = 1; depth = 1; count = 4; parameter = 0 })) (pos 0 ∷ pos 0 ∷ pos 0 ∷ pos 8 ∷ pos 8 ∷ pos 8 ∷ pos 8 ∷ pos 0 ∷ negsuc 4 ∷ negsuc 4 ∷ [])
unfolding reading judge record_rows number word signed tab coordinate sixty_fourths basis_of spans_of records_of allowed outside seek
paper-read = refl

-- a record with both faults is refused for its zero bytes, and the place is the record
pub zeros-first :
    reading (1 ∷ 1 ∷ 0 ∷ 0 ∷ 0 ∷ 0 ∷ 0 ∷ 0 ∷ 0 ∷ 0 ∷ 0 ∷ 0 ∷ 2 ∷ 1 ∷ 0 ∷ 7 ∷ 0 ∷ 0 ∷ 0 ∷ 0 ∷ 0 ∷ 0 ∷ 0 ∷ 0 ∷ []) lent ≡ refuses Err lent (record { number = 14; place = 1 })
unfolding reading judge record_rows number word signed tab coordinate sixty_fourths basis_of spans_of records_of allowed outside seek
zeros-first = refl

-- document 02, request 7: the parameter is read; a record of another one is unlike record 0; and byte 2 of a record whose own basis is not 3 is refused as a zero byte is, before that
abbrev origin_of : ℕ → ℕ → List ℕ
origin_of basis c = basis ∷ 1 ∷ c ∷ 0 ∷ 0 ∷ 0 ∷ 0 ∷ 0 ∷ 0 ∷ 0 ∷ 0 ∷ 0 ∷ []

abbrev cardinals : ℕ → ℕ → List ℕ
cardinals basis c = origin_of 3 48 ++ (origin_of 3 48 ++ (origin_of 3 48 ++ origin_of basis c))

pub parameter-read : reading (cardinals 3 48) (replicate 8 (negsuc 4)) ≡ outcome (Ok (record { basis = 3; depth = 1; count = 4; parameter = 48 })) (replicate 8 (pos 0))
unfolding reading judge record_rows number word signed tab coordinate sixty_fourths basis_of spans_of records_of allowed outside seek
parameter-read = refl

pub parameter-unlike : reading (cardinals 3 0) lent ≡ refuses Err lent (record { number = 15; place = 3 })
unfolding reading judge record_rows number word signed tab coordinate sixty_fourths basis_of spans_of records_of allowed outside seek
parameter-unlike = refl

pub own-basis : reading (cardinals 2 48) lent ≡ refuses Err lent (record { number = 14; place = 3 })
unfolding reading judge record_rows number word signed tab coordinate sixty_fourths basis_of spans_of records_of allowed outside seek
own-basis = refl

-- document 02, request 8: four records of basis 5 are read as others are, its byte 2 is a zero byte, and there is no basis 6
abbrev four_of : ℕ → ℕ → List ℕ
four_of basis c = origin_of basis c ++ (origin_of basis c ++ (origin_of basis c ++ origin_of basis c))

pub loop-read : reading (four_of 5 0) (replicate 8 (negsuc 4)) ≡ outcome (Ok (record { basis = 5; depth = 1; count = 4; parameter = 0 })) (replicate 8 (pos 0))
unfolding reading judge record_rows number word signed tab coordinate sixty_fourths basis_of spans_of records_of allowed outside seek
loop-read = refl

pub loop-no-parameter : reading (four_of 5 48) lent ≡ refuses Err lent (record { number = 14; place = 0 })
unfolding reading judge record_rows number word signed tab coordinate sixty_fourths basis_of spans_of records_of allowed outside seek
loop-no-parameter = refl

pub no-sixth : reading (four_of 6 0) lent ≡ refuses Err lent (record { number = 1; place = 0 })
unfolding reading judge record_rows number word signed tab coordinate sixty_fourths basis_of spans_of records_of allowed outside seek
no-sixth = refl

-- 255 255 255 255 is -1, and 0 0 0 128 the least number
pub minus_one : signed (word (255 ∷ 255 ∷ 255 ∷ 255 ∷ []) 0) ≡ negsuc 0
unfolding word signed
minus_one = refl

pub least : signed (word (0 ∷ 0 ∷ 0 ∷ 128 ∷ []) 0) ≡ negsuc 2147483647
unfolding word signed
least = refl
