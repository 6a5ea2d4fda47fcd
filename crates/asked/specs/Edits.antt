-- What an edit asks for and which spans it works afresh (document 01, "Editing an outline"; for loops document 02, request 8). Spans are those of the new shape: of an open outline clipped to
-- those that exist, of a loop counted round.
use Rattle.std.specs.Prelude.{Bool, true, false, cond, ◌&&◌, ◌||◌, List, ℕ, ◌+◌, ◌*◌, ◌-◌, ◌/◌, ◌%◌, min, leb, ltb, eqb, ℤ, pos, get_or}
use Rattle.curve.specs.declared.Basis.{Basis}
use Rattle.curve.specs.Limits.{beyond, limit}
use Rattle.curve.specs.Span.{stride, round_end, is_loop}
use Rattle.shape.specs.declared.Plan.{Plan}
use Rattle.shape.specs.Shape.{least_records, most_records, first_using, last_using, points_of}
use Rattle.spans.specs.Numbers.{number, remainder_of, per_span, nought, total}
use Rattle.spans.specs.Filled.{filled}
use Rattle.asked.specs.declared.Run.{Run}
use Rattle.asked.specs.declared.Edit.{Edit}
use Rattle.asked.specs.declared.Edit.TheVariants.{Move, Insert, Remove}

-- ---- counts and places

-- The control count after an edit of n controls.
abbrev pub count_after : Edit → ℕ → ℕ
count_after (Move x y) n = n
count_after (Insert x y) n = n + 1
count_after Remove n = n - 1

-- The spans after an edit of m spans.
abbrev pub spans_after : Edit → ℕ → ℕ
spans_after (Move x y) m = m
spans_after (Insert x y) m = m + 1
spans_after Remove m = m - 1

-- Insert and remove exist where each span begins a record after the one before: for bases 2, 3 and 5, the splines.
abbrev pub is_spline : Basis → Bool
is_spline b = eqb (stride b) 1

abbrev pub offered : Edit → Basis → Bool
offered (Move x y) b = true
offered (Insert x y) b = is_spline b
offered Remove b = is_spline b

-- Move replaces record j and remove takes it out, j < n; insert puts a new one before it, j at most n.
abbrev pub in_range : Edit → ℕ → ℕ → Bool
in_range (Move x y) j n = ltb j n
in_range (Insert x y) j n = leb j n
in_range Remove j n = ltb j n

-- Insert at n = 64 and remove at n = 4 go past what a count may be.
abbrev pub at_the_end : Edit → ℕ → Bool
at_the_end (Move x y) n = false
at_the_end (Insert x y) n = leb most_records n
at_the_end Remove n = leb n least_records

-- The new record, where there is one, is outside the limits.
abbrev pub new_outside : Edit → Bool
new_outside (Move x y) = beyond limit x || beyond limit y
new_outside (Insert x y) = beyond limit x || beyond limit y
new_outside Remove = false

-- ---- the controls asked for

-- Number q of the new controls: record q / 2 is the new one at j, and every other is an old one, in its place or one place on or back.
abbrev pub choose : ℕ → ℤ → ℤ → ℤ
choose axis x y = cond (eqb axis 0) x y

abbrev pub control_at : Edit → ℕ → List ℤ → ℕ → ℤ
control_at (Move x y) j old q = cond (eqb (q / 2) j) (choose (q % 2) x y) (get_or old q (pos 0))
control_at (Insert x y) j old q = cond (ltb (q / 2) j) (get_or old q (pos 0)) (cond (eqb (q / 2) j) (choose (q % 2) x y) (get_or old (q - 2) (pos 0)))
control_at Remove j old q = cond (ltb (q / 2) j) (get_or old q (pos 0)) (get_or old (q + 2) (pos 0))

-- The lent list with the new controls in front, n of them, and every number past the last as it was.
unfoldable pub asked : Edit → ℕ → List ℤ → ℕ → List ℤ
asked e j old n = filled (control_at e j old) 0 (2 * n) old

-- ---- the run: the spans worked afresh, from the first that the call answers on, as many as it answers. What an edit makes fresh, keeps or carries is read from it.

-- In an open outline. Move: every span that uses record j. Insert: spans j-3 to j. Remove: spans j-3 to j-1. The first of them, and the one past the last, clipped to the spans of the
-- new shape, whose plan is p.
abbrev pub first_fresh : Edit → Plan → ℕ → ℕ
first_fresh (Move x y) p j = first_using p.basis j
first_fresh (Insert x y) p j = j - 3
first_fresh Remove p j = j - 3

abbrev pub past_fresh : Edit → Plan → ℕ → ℕ
past_fresh (Move x y) p j = min (last_using p.basis j + 1) p.spans
past_fresh (Insert x y) p j = min (j + 1) p.spans
past_fresh Remove p j = min j p.spans

-- From one span up to, and not with, another; where there are none, both numbers are 0.
abbrev pub clipped : ℕ → ℕ → Run
clipped a z = record { first = cond (ltb a z) a 0; count = z - a }

-- In a loop of m spans they are counted round. Move and insert: spans j-3 to j. Remove: spans j-3 to j-1.
abbrev pub count_round : Edit → ℕ
count_round (Move x y) = 4
count_round (Insert x y) = 4
count_round Remove = 3

abbrev pub run_round : Edit → ℕ → ℕ → Run
run_round e m j = record { first = round_end m (j + m - 3); count = count_round e }

unfoldable pub run_of : Edit → Plan → ℕ → Run
run_of e p j = cond (is_loop p.basis) (run_round e p.spans j) (clipped (first_fresh e p j) (past_fresh e p j))

-- Span s of m is in a run where it is below the count, counted round from the run's first. In an open outline no run goes round.
unfoldable pub in_run : Run → ℕ → ℕ → Bool
in_run run m s = ltb (round_end m (s + m - run.first)) run.count

-- ---- the points

-- Where a carried number comes from: span s holds what old span s-1 (insert) or s+1 (remove) held, w numbers back or on; a move carries nothing.
abbrev pub carried_from : Edit → ℕ → ℕ → ℕ
carried_from (Move x y) w q = q
carried_from (Insert x y) w q = q - w
carried_from Remove w q = q + w

-- The spans that have a number among their points, where t spans' numbers come before it. The one that it is in: span t; the last point, where t is m, is the end of the last span, and in a loop
-- the start of the first again.
abbrev pub span_in : Plan → ℕ → ℕ
span_in p t = cond (is_loop p.basis) (round_end p.spans t) (min t (p.spans - 1))

-- And of a number of span t's start, the one that ends there: the one before it; before the first there is none, but in a loop the last.
abbrev pub span_before : Plan → ℕ → ℕ
span_before p t = cond (is_loop p.basis) (round_end p.spans (t + p.spans - 1)) (t - 1)

-- Number q is fresh where one of them is in the run. A span's start is two numbers, x and y.
unfoldable pub is_fresh : Run → Plan → ℕ → Bool
is_fresh run p q =
    let w = per_span p.depth in
    in_run run p.spans (span_in p (q / w)) || (ltb (q % w) 2 && in_run run p.spans (span_before p (q / w)))

-- How many of the fresh numbers are exact, of the controls as they then stand (document 02, request 9): each counted once, and in a loop those of its first and of its last point both.
unfoldable pub exact_fresh : Run → Plan → List ℤ → ℕ
exact_fresh run p controls = total (λ q. cond (is_fresh run p q) (nought (remainder_of p controls q)) 0) 0 (2 * points_of p.depth p.spans)

-- Number q of the new points, for any contents of the lent ones: fresh; or of a span before the place, which stays; or of a later one, which is carried. The last point
-- is its last span's.
unfoldable pub point_at : Edit → Plan → ℕ → List ℤ → List ℤ → ℕ → ℤ
point_at e p j controls lent q =
    let w = per_span p.depth in
    cond (is_fresh (run_of e p j) p q)
    (number p controls q)
    (cond (ltb (min (q / w) (p.spans - 1)) j) (get_or lent q (pos 0)) (get_or lent (carried_from e w q) (pos 0)))
