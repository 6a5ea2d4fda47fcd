-- Which part a number names, and the text of a span by what drawing its four records came to.
use Rattle.std.specs.Prelude.{Err, Ok, Result}
use mathlib.Core.Bool.{Bool, cond}
use mathlib.Core.List.{List, []}
use mathlib.Core.Logic.{⊎_elim}
use mathlib.Core.Path.{◌≡◌, refl, sym, ap, ◌∙◌}
use Prim.Native.Nat.{ℕ, zero, suc, ◌+◌, ◌-◌, ◌*◌, ◌^◌, ◌≤◌, ◌<◌}
use native.Mathlib.Nat.{mul-le-mul, pow-le-pow_right}
use native.Mathlib.Omega.{arith}
use borrow.Author.Tests.{le-leb, le-ltb, lt-ltb, eq-eqb, ne_eqb, eqb-true, eqb-false, ltb-false}
use lib.Dec.{eqb}
use lib.IntN.{ℤ}
use lib.ListN.{length}
use Rattle.whole.specs.Outcome.{Outcome, outcome, refuses}
use Rattle.curve.specs.Ways.{deepest}
use Rattle.shape.specs.declared.Shape.{Shape}
use Rattle.shape.specs.declared.Plan.{Plan}
use Rattle.shape.specs.declared.Refusal.{Refusal}
use Rattle.shape.specs.Inner.{Good}
use Rattle.shape.specs.Shape.{least_records, most_records}
use Rattle.shape.specs.Refusals.{First, NoRow, plan_of}
use Rattle.shape.proofs.Tests.{passes}
use Rattle.shape.proofs.Refusals.{judge-first, row-fails, verdict}
use Rattle.outline.specs.declared.Figures.{Figures}
use Rattle.outline.specs.Outline.{draws, draw_rows, accepts}
use Rattle.outline.proofs.Lists.{drawn-keeps}
use Rattle.std.specs.Prelude.{Some}
use Rattle.listing.specs.Listing.{point_lines, listed_by}
use Rattle.listing.specs.Written.{written}
use Rattle.listing.proofs.Listed.{in-full}
use Rattle.file_list.specs.Inner.{own_numbers}
use Rattle.file_list.specs.Parts.{one_span, span_points, span_room, own_points, span_lines, records_text, span_text, outline_part, only_part}

-- no text at all is written anywhere
pub nothing : (lent : List ℕ) → outcome (Some 0) lent ≡ written lent 0 []
unfolding written
nothing lent = rw (le-leb (0 + 0) (length lent) (omega arith))

pub no_text : (lent text : List ℕ) → text ≡ [] → outcome (Some 0) lent ≡ written lent 0 text
no_text lent text e = nothing lent ∙ ap (written lent 0) (sym e)

-- ---- which part

pub only-first : (text : List ℕ) (i : ℕ) → i ≡ 0 → only_part text i ≡ text
only-first text i e = ap (only_part text) e

pub only-later : (text : List ℕ) (i : ℕ) → (i ≡ 0 → ⊥) → only_part text i ≡ []
only-later text zero h = absurd (h refl)
only-later text (suc i) h = refl

module _ (s : Shape) (p : Plan) (held : List ℤ) where
  pub span-part : (i : ℕ) → (i ≡ 0 → ⊥) → i - 1 < p.spans → outline_part s p held i ≡ span_text s p held (i - 1)
  span-part zero h there = absurd (h refl)
  span-part (suc i) h there =
      let one : suc i - 1 ≡ i = omega arith in
      ap (λ (t : Bool). cond t (span_text s p held i) []) (lt-ltb i p.spans (omega arith)) ∙ ap (span_text s p held) (sym one)

  pub past-parts : (i : ℕ) → (i ≡ 0 → ⊥) → p.spans ≤ i - 1 → outline_part s p held i ≡ []
  past-parts zero h past = absurd (h refl)
  past-parts (suc i) h past = ap (λ (t : Bool). cond t (span_text s p held i) []) (le-ltb i p.spans (omega arith))

-- ---- a span's own points

-- no span has more steps than the deepest
pub steps-few : (p : Plan) → p.depth ≤ deepest → 2 ^ p.depth ≤ 2 ^ deepest
steps-few p h = pow-le-pow_right {n = 2} (omega arith) h

-- the number of its first point is small
pub first_small : (s : Shape) (p : Plan) → Good s p → (i : ℕ) → i < p.spans → i * 2 ^ p.depth < 2 ^ 32
first_small s p ok i there =
    let few : i ≤ most_records = omega (arith, ok.spans-most, ok.records-most) in
    let all : i * 2 ^ p.depth ≤ most_records * 2 ^ deepest = mul-le-mul few (steps-few p ok.depth-most) in
    omega (arith, all)

module _ (p : Plan) (i : ℕ) where
  pub own-last : i + 1 ≡ p.spans → own_points p i ≡ 2 ^ p.depth + 1
  own-last e = ap (λ (t : Bool). cond t (2 ^ p.depth + 1) (2 ^ p.depth)) (eq-eqb (i + 1) p.spans e)

  pub own-other : (i + 1 ≡ p.spans → ⊥) → own_points p i ≡ 2 ^ p.depth
  own-other h = ap (λ (t : Bool). cond t (2 ^ p.depth + 1) (2 ^ p.depth)) (ne_eqb (i + 1) p.spans h)

  -- it has no more than its start and the ends of its steps, and there is room for them
  pub own-most : own_points p i ≤ 2 ^ p.depth + 1
  own-most =
      ⊎_elim (λ t. omega (arith, own-last (eqb-true (i + 1) p.spans t))) (λ f. omega (arith, own-other (eqb-false (i + 1) p.spans f))) (passes (eqb (i + 1) p.spans))

  own-few : p.depth ≤ deepest → own_points p i ≤ span_points
  own-few h = omega (arith, own-most, steps-few p h)

-- ---- what drawing the four records came to

module _ (s : Shape) (p : Plan) (i : ℕ) where
  pub records-then : (records : List ℤ) (o : Outcome (Result Figures Refusal) (List ℤ)) → draws (one_span s) records span_room ≡ o → records_text s p records i ≡ span_lines p i o.held o.answer
  unfolding records_text
  records-then records o e = ap (λ (o : Outcome (Result Figures Refusal) (List ℤ)). span_lines p i o.held o.answer) e

  -- its own points are there, and their lines are listed
  pub drawn-lines : p.depth ≤ deepest → (records : List ℤ) (fs : Figures) (held : List ℤ) → draws (one_span s) records span_room ≡ outcome (Ok fs) held
      → (text : List ℕ) → listed_by (point_lines (i * 2 ^ p.depth)) text held (own_points p i) ≡ written text 0 (records_text s p records i)
  drawn-lines shallow records fs held e text =
      let room : 2 * own_points p i ≤ length held = omega (arith, own-few p i shallow, (drawn-keeps (one_span s) records span_room fs held e).long) in
      sym (in-full text held (own_points p i) (point_lines (i * 2 ^ p.depth)) room) ∙ ap (written text 0) (sym (records-then records (outcome (Ok fs) held) e))

  -- a list with fewer than four records
  pub too_few : (records : List ℤ) → length records < own_numbers → records_text s p records i ≡ []
  unfolding draws
  too_few records few =
      let rows = draw_rows (one_span s) records span_room in
      ⊎_elim (λ (v : (r : Refusal) × First rows r). records-then records (refuses Err span_room v.0) (judge-first rows (refuses Err span_room) (accepts (plan_of (one_span s)) records span_room) v.0 v.1))
      (λ (none : NoRow rows). absurd (omega (arith, ltb-false (length records) (2 * least_records) (row-fails 7 rows none))))
      (verdict rows)
