-- What the preview answers and leaves (document 01, "Preview and drawing"): rows 1, 2, 24, 3, 4, 7, 8, 9 in that order, and for basis 1 the exact double of each whole
-- weighted sum of the plain controls over 2^(3k). Definitions only.
use Rattle.std.specs.Prelude.{not, List, [], ◌∷◌, ◌++◌, ℕ, ◌*◌, ◌-◌, ◌/◌, ◌%◌, ◌^◌, min, eqb, ℤ, pos, Float, length, Err, Ok, Result}
use Rattle.std.proofs.lemmas.List.Edits.{sets}
use Rattle.whole.specs.Outcome.{Outcome, outcome, refuses}
use Rattle.curve.specs.declared.Basis.TheVariants.{Bezier}
use Rattle.curve.specs.Tab.{tab}
use Rattle.curve.specs.Span.{coordinate, records, weighted}
use Rattle.shape.specs.declared.Shape.{Shape}
use Rattle.shape.specs.declared.Plan.{Plan}
use Rattle.shape.specs.Shape.{points_of}
use Rattle.shape.specs.Refusals.{Row, row, judge, shape_rows, list_rows, plan_of}
use Rattle.shape.specs.Exactly.{Told, Refuses, Accepts}
use Rattle.doubles.specs.Exact.{dyadic}
use Rattle.shape.specs.declared.Refusal.{Refusal}

-- ---- the numbers

-- The weighted sum of number q of m Bezier spans at depth k: its point is q / 2, on axis q % 2; point s·2^k + i is span s at t = i / 2^k, and the last the last span at t = 1.
unfoldable pub sum : ℕ → ℕ → List ℤ → ℕ → ℤ
sum k m controls q =
    let g = q / 2 in
    let s = min (g / 2 ^ k) (m - 1) in
    weighted (records Bezier s (coordinate controls (q % 2))) (pos (g - s * 2 ^ k)) (pos (2 ^ k))

-- Number q of the preview: that sum over 2^(3k), as a double.
unfoldable pub value : ℕ → ℕ → List ℤ → ℕ → Float
value k m controls q = dyadic (sum k m controls q) (3 * k)

-- ---- the rows

-- Row 4: the preview is offered for basis 1 alone.
abbrev pub bezier_row : Shape → Row
bezier_row s = row (not (eqb s.basis 1)) 4 0

abbrev pub later_rows : Shape → Plan → List ℤ → ℕ → List Row
later_rows s p controls len = bezier_row s ∷ list_rows s.count controls (points_of p.depth p.spans) len

abbrev pub preview_rows : Shape → List ℤ → ℕ → List Row
preview_rows s controls len = shape_rows s ++ later_rows s (plan_of s) controls len

-- ---- the reading

-- All points are written from the start of the lent list on, x then y, and all past them is kept.
abbrev pub accepts : Plan → List ℤ → List Float → Outcome (Result ℕ Refusal) (List Float)
accepts p controls points =
    let n = points_of p.depth p.spans in
    outcome (Ok n) (sets points 0 (tab (value p.depth p.spans controls) 0 (2 * n)))

unfoldable pub previewing : Shape → List ℤ → List Float → Outcome (Result ℕ Refusal) (List Float)
previewing s controls points = judge (preview_rows s controls (length points)) (refuses Err points) (accepts (plan_of s) controls points)

-- What the answer tells: how many points were drawn, or the refusal.
abbrev pub told : Result ℕ Refusal → Told
told (Ok n) = Accepts (pos n ∷ [])
told (Err r) = Refuses r
