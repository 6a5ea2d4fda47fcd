-- The halving of document 01 in doubles ("Preview and drawing"): four points are cut at the middle by midpoints until the depth is used up, and the pieces' first points
-- are the preview's. Numbers come x then y. Definitions only.
use Rattle.std.specs.Prelude.{List, [], ◌∷◌, ◌++◌, ℕ, zero, suc, ◌+◌, ℤ, Float}
use Rattle.curve.specs.declared.Basis.TheVariants.{Bezier}
use Rattle.curve.specs.Span.{coordinate, first_record}
use Rattle.doubles.specs.Exact.{dyadic}
use Rattle.doubles.specs.Midpoint.{mid_pair}
use Rattle.doubles.specs.declared.Pair.{Pair}
use Rattle.preview.specs.declared.Piece.{Piece}

-- A point's two numbers.
abbrev pub two : Pair → List Float
two p = p.x ∷ p.y ∷ []

-- A piece's halves, cut at its middle by midpoints: its controls are halved to m, n and o, these to u and v, and these to w.
abbrev pub left_half : Piece → Piece
left_half p =
    let m = mid_pair p.a p.b in
    let n = mid_pair p.b p.c in
    let u = mid_pair m n in
    record { a = p.a; b = m; c = u; d = mid_pair u (mid_pair n (mid_pair p.c p.d)) }

abbrev pub right_half : Piece → Piece
right_half p =
    let n = mid_pair p.b p.c in
    let o = mid_pair p.c p.d in
    let v = mid_pair n o in
    record { a = mid_pair (mid_pair (mid_pair p.a p.b) n) v; b = v; c = o; d = p.d }

-- The first points of the 2^left pieces of a piece, left to right.
unfoldable pub pieces : ℕ → Piece → List Float
pieces zero p = two p.a
pieces (suc left) p = pieces left (left_half p) ++ pieces left (right_half p)

-- Record r of the controls, as a point.
unfoldable pub control : List ℤ → ℕ → Pair
control controls r = record { x = dyadic (coordinate controls 0 r) 0; y = dyadic (coordinate controls 1 r) 0 }

-- The points of Bezier span s at depth k but its end.
unfoldable pub span_pieces : List ℤ → ℕ → ℕ → List Float
span_pieces controls k s =
    let r = first_record Bezier s in
    pieces k (record { a = control controls r; b = control controls (r + 1); c = control controls (r + 2); d = control controls (r + 3) })

-- The points of n spans from span s on, and then the end of the last, where a next one would start.
unfoldable pub halved : List ℤ → ℕ → ℕ → ℕ → List Float
halved controls k s zero = two (control controls (first_record Bezier s))
halved controls k s (suc n) = span_pieces controls k s ++ halved controls k (suc s) n
