-- The refusal table of document 01, as rows in the paper's order: a row is a test, its number and its place. A call is refused under the first row that holds, and
-- accepted where none does. The rows that several calls share are here.
use Rattle.std.specs.Prelude.{Bool, true, false, not, cond, ◌&&◌, ◌||◌, List, [], ◌∷◌, ◌++◌, ◌⊎◌, ◌≡◌, ℕ, zero, suc, ◌*◌, leb, ltb, eqb, ℤ, length, Err, Ok, Result}
use Rattle.curve.specs.Published.{most_parameter}
use Rattle.curve.specs.Limits.{limit, beyond}
use Rattle.curve.specs.Span.{coordinate}
use Rattle.curve.specs.Ways.{deepest}
use Rattle.shape.specs.declared.Shape.{Shape}
use Rattle.shape.specs.declared.Plan.{Plan}
use Rattle.shape.specs.declared.Refusal.{Refusal}
use Rattle.shape.specs.Shape.{last_basis, cardinal, basis_in, spans_of, allowed}

pub record Row : Type 0 where
  pub holds : Bool
  pub refusal : Refusal

abbrev pub row : Bool → ℕ → ℕ → Row
row test n place = record { holds = test; refusal = record { number = n; place = place } }

-- The first row that holds is the refusal.
unfoldable pub judge {ℓ} : {A : Type ℓ} → List Row → (Refusal → A) → A → A
judge [] refused accepted = accepted
judge (r ∷ rows) refused accepted = cond r.holds (refused r.refusal) (judge rows refused accepted)

-- "Given exactly when": r is the refusal of the first row that holds, and no row holds.
abbrev pub First : List Row → Refusal → Type 0
First [] r = ⊥
First (x ∷ rows) r = ((x.holds ≡ true) × (x.refusal ≡ r)) ⊎ ((x.holds ≡ false) × First rows r)

abbrev pub NoRow : List Row → Type 0
NoRow [] = Unit {0}
NoRow (x ∷ rows) = (x.holds ≡ false) × NoRow rows

-- The first of n numbers from i on that passes a test, or i + n where none does.
unfoldable pub seek : (ℕ → Bool) → ℕ → ℕ → ℕ
seek test i zero = i
seek test i (suc n) = cond (test i) i (seek test (suc i) n)

-- ---- rows 1, 2, 24, 3: the shape

abbrev pub basis_row : Shape → Row
basis_row s = row (not (leb 1 s.basis && leb s.basis last_basis)) 1 0

abbrev pub depth_row : Shape → Row
depth_row s = row (ltb deepest s.depth) 2 0

-- Document 02, request 7: the parameter of a cardinal curve above 64.
abbrev pub parameter_row : Shape → Row
parameter_row s = row (eqb s.basis cardinal && ltb most_parameter s.parameter) 24 0

abbrev pub count_row : Shape → Row
count_row s = row (not (allowed (basis_in s) s.count)) 3 0

abbrev pub number_rows : Shape → List Row
number_rows s = basis_row s ∷ depth_row s ∷ parameter_row s ∷ []

abbrev pub shape_rows : Shape → List Row
shape_rows s = number_rows s ++ count_row s ∷ []

-- A shape that no row refuses: its basis, depth and spans.
unfoldable pub plan_of : Shape → Plan
plan_of s = record { basis = basis_in s; depth = s.depth; spans = spans_of (basis_in s) s.count }

unfoldable pub judge_numbers : Shape → Result (Unit {0}) Refusal
judge_numbers s = judge (number_rows s) Err (Ok tt)

unfoldable pub judge_shape : Shape → Result Plan Refusal
judge_shape s = judge (shape_rows s) Err (Ok (plan_of s))

-- ---- rows 7, 8: the controls

-- The controls list holds n records.
abbrev pub controls_row : ℕ → List ℤ → Row
controls_row n controls = row (ltb (length controls) (2 * n)) 7 0

-- A record with a coordinate outside the limits.
unfoldable pub outside : List ℤ → ℕ → Bool
outside controls r = beyond limit (coordinate controls 0 r) || beyond limit (coordinate controls 1 r)

-- The first of n records that is outside, or n.
abbrev pub first_outside : List ℤ → ℕ → ℕ
first_outside controls n = seek (outside controls) 0 n

abbrev pub limits_row : ℕ → List ℤ → Row
limits_row n controls = row (ltb (first_outside controls n) n) 8 (first_outside controls n)

-- Room for `most` records, of which the first n are inside the limits.
abbrev pub control_rows : ℕ → ℕ → List ℤ → List Row
control_rows most n controls = controls_row most controls ∷ limits_row n controls ∷ []

unfoldable pub judge_controls : ℕ → List ℤ → Result (Unit {0}) Refusal
judge_controls n controls = judge (control_rows n n controls) Err (Ok tt)

-- ---- row 9: the points

-- A list of `len` numbers holds `points` points.
abbrev pub points_row : ℕ → ℕ → Row
points_row points len = row (ltb len (2 * points)) 9 0

abbrev pub point_rows : ℕ → ℕ → List Row
point_rows points len = points_row points len ∷ []

-- ---- rows 7, 8, 9: the lent lists of a call that has nothing to look at between them

abbrev pub list_rows : ℕ → List ℤ → ℕ → ℕ → List Row
list_rows n controls points len = control_rows n n controls ++ point_rows points len

unfoldable pub judge_lists : ℕ → List ℤ → ℕ → ℕ → Result (Unit {0}) Refusal
judge_lists n controls points len = judge (list_rows n controls points len) Err (Ok tt)
