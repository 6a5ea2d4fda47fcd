-- Every point of records inside the limits lies within the reach of its basis, 5,000,000 or 6,000,000 either way, so every number of an outline that was drawn does.
use Rattle.std.specs.Prelude.{Ok}
use mathlib.Core.Path.{◌≡◌, sym, ap, ◌∙◌, subst}
use mathlib.Core.List.{List}
use mathlib.Core.Logic.{⊎_elim}
use Prim.Native.Nat.{ℕ, suc, ◌+◌, ◌*◌, ◌-◌, ◌/◌, ◌%◌, ◌^◌, min, ◌≤◌, ◌<◌}
use native.Mathlib.Nat.{min-le_right, suc-mul, mod-lt, div-add-mod'}
use native.Mathlib.Omega.{arith}
use lib.IntN.{ℤ, pos, nat_abs}
use lib.ListN.{get_or, length}
use lib.Pow.{pow_pos}
use Rattle.whole.specs.Outcome.{outcome}
use Rattle.curve.specs.Limits.{reach}
use Rattle.curve.specs.Span.{coordinate, records, point}
use Rattle.curve.proofs.Limits.{point-size}
use Rattle.shape.specs.declared.Shape.{Shape}
use Rattle.shape.specs.declared.Plan.{Plan}
use Rattle.shape.specs.Inner.{Good, Lent}
use Rattle.shape.specs.Refusals.{shape_rows, plan_of}
use Rattle.shape.specs.Shape.{points_of}
use Rattle.shape.proofs.Refusals.{none-earlier, none-later, good-plan, good-records, none-facts, lent-inside}
use Rattle.shape.proofs.Tests.{either}
use Rattle.spans.specs.Numbers.{sum_of, number}
use Rattle.outline.specs.declared.Figures.{Figures}
use Rattle.outline.specs.Outline.{points, plan_rows, draws}
use Rattle.outline.proofs.Exactly.{done_none, done-figures}
use Rattle.outline.proofs.Held.{held_number}

-- point g of m spans of d steps is at most d steps past its span's start: the last one at the last span's end
step-within : (g m d : ℕ) → 0 < d → 1 ≤ m → g ≤ m * d → g - min (g / d) (m - 1) * d ≤ d
step-within g m d some-steps some h =
    ⊎_elim
    (λ (below : g / d < m).
    let span : min (g / d) (m - 1) ≡ g / d = omega arith in
    subst (λ (t : ℕ). g - t * d ≤ d) (sym span) (omega (arith, div-add-mod' g d, mod-lt g some-steps)))
    (λ (past : m ≤ g / d).
    let span : min (g / d) (m - 1) ≡ m - 1 = omega arith in
    let one : suc (m - 1) ≡ m = omega arith in
    let wide : m * d ≡ (m - 1) * d + d = ap (λ (n : ℕ). n * d) (sym one) ∙ suc-mul (m - 1) d in
    subst (λ (t : ℕ). g - t * d ≤ d) (sym span) (omega (arith, wide)))
    (either (g / d) m)

module _ (s : Shape) (p : Plan) (good : Good s p) (controls : List ℤ) (k len : ℕ) (lent : Lent s.count controls k len) where
  -- each number of the outline
  pub number-within : (q : ℕ) → q < 2 * points p → nat_abs (number p controls q) ≤ reach p.basis
  unfolding sum_of number point points_of
  number-within q h =
      let d = 2 ^ p.depth in
      let g = q / 2 in
      let t = min (g / d) (p.spans - 1) in
      let exists : t < p.spans = omega (arith, min-le_right (g / d) (p.spans - 1), good.spans-least) in
      point-size p.basis p.depth (g - t * d) (records p.basis t (coordinate controls (q % 2)))
      (step-within g p.spans d (pow_pos p.depth) good.spans-least (omega arith))
      good.offered
      (lent-inside s.count controls k len lent p.basis t (q % 2) (omega arith) (λ i few. good-records s p good t i exists few))

-- After a drawing call that is done, each number of its points, as it stands in the lent list.
pub drawn-within : (s : Shape) (controls lent : List ℤ) (fs : Figures) (held : List ℤ) → draws s controls lent ≡ outcome (Ok fs) held → (q : ℕ) → q < 2 * fs.points → nat_abs (get_or held q (pos 0)) ≤ reach (plan_of s).basis
drawn-within s controls lent fs held answered q h =
    let p = plan_of s in
    let none = done_none s controls lent fs held answered in
    let few : points p ≡ fs.points = ap (λ (f : Figures). f.points) (done-figures s controls lent fs held answered) in
    let within : q < 2 * points p = omega (arith, few) in
    let good = good-plan s (none-earlier (shape_rows s) (plan_rows s.count p controls lent) none) in
    let had = none-facts s.count controls (points p) (length lent) (none-later (shape_rows s) (plan_rows s.count p controls lent) none) in
    subst (λ z. nat_abs z ≤ reach p.basis) (sym (held_number s controls lent fs held answered q within)) (number-within s p good controls (points p) (length lent) had q within)
