-- A drawing of mirrored controls is the mirrored drawing, refusals too; and since what was lent is not looked at, the same points come out in any other list as long. A view of mirrored
-- points is the mirrored view.
use Rattle.std.specs.Prelude.{Err, Ok, Result}
use mathlib.Core.Path.{◌≡◌, refl, sym, ap, ◌∙◌, subst}
use mathlib.Core.Bool.{Bool, true, false, cond}
use mathlib.Core.Logic.{⊎_elim}
use mathlib.Core.List.{List, ◌++◌}
use Prim.Native.Nat.{ℕ, ◌*◌, ◌^◌, ◌<◌}
use native.Mathlib.Nat.{mul_left_comm}
use lib.IntN.{ℤ, pos, neg_ℤ}
use lib.ListN.{get_or, length, take, drop}
use Rattle.whole.specs.Outcome.{Outcome, outcome, refuses}
use Rattle.shape.specs.declared.Shape.{Shape}
use Rattle.shape.specs.declared.Plan.{Plan}
use Rattle.shape.specs.declared.Refusal.{Refusal}
use Rattle.shape.specs.Refusals.{First, NoRow, judge, shape_rows, point_rows, plan_of}
use Rattle.shape.proofs.Refusals.{judge-first, judge-none, verdict}
use Rattle.spans.specs.Numbers.{number}
use Rattle.outline.specs.declared.Figures.{Figures}
use Rattle.outline.specs.Outline.{points, draw_rows, drawn, figures_of, accepts, draws}
use Rattle.outline.specs.View.{empty_part, out_of_sight, part_of, viewed}
use Rattle.outline.proofs.Views.{span_part}
use Rattle.outline.proofs.Exactly.{done_none, none-drawn, done-figures}
use Rattle.outline.proofs.Held.{held_number}
use Rattle.sequences.specs.Calls.{Way, MeetsDrawing}
use Rattle.sequences.proofs.Calls.{meets-draws}
use Rattle.mirror.specs.Mirror.{Axis, across, mirror, mirror_drawn}
use Rattle.mirror.proofs.Lists.{length-mirrored, mirrored-rule, mirrored-take, mirrored-drop, control_rows-mirror, judge-mirror}
use Rattle.mirror.proofs.Points.{number-mirror, exact-mirror}

-- ---- the checks: they see how far a control is from zero, and how long the lists are

pub draw_rows-other : (axis : Axis) (s : Shape) (controls lent other : List ℤ) → length other ≡ length lent → draw_rows s (mirror axis controls) other ≡ draw_rows s controls lent
draw_rows-other axis s controls lent other long =
    λ i. shape_rows s ++ (control_rows-mirror axis controls s.count s.count i ++ point_rows (points (plan_of s)) (long i))

pub draw_rows-mirror : (axis : Axis) (s : Shape) (controls lent : List ℤ) → draw_rows s (mirror axis controls) (mirror axis lent) ≡ draw_rows s controls lent
draw_rows-mirror axis s controls lent = draw_rows-other axis s controls lent (mirror axis lent) (length-mirrored neg_ℤ axis lent)

module _ (axis : Axis) where
  -- ---- the mirrored drawing

  figures-mirror : (p : Plan) (controls : List ℤ) → figures_of p (mirror axis controls) ≡ figures_of p controls
  figures-mirror p controls = ap (λ (n : ℕ). record { points = points p; exact = n }) (exact-mirror axis p controls 0 (2 * points p))

  pub mirror-draws : (s : Shape) (controls lent : List ℤ) → draws s (mirror axis controls) (mirror axis lent) ≡ mirror_drawn axis (draws s controls lent)
  unfolding draws
  mirror-draws s controls lent =
      let p = plan_of s in
      let there = accepts p (mirror axis controls) (mirror axis lent) in
      ap (λ rows. judge rows (refuses Err (mirror axis lent)) there) (draw_rows-mirror axis s controls lent)
      ∙ judge-mirror (mirror_drawn axis) (draw_rows s controls lent) (refuses Err lent) (accepts p controls lent) there
      (λ _.
      let rule = mirrored-rule neg_ℤ axis lent (number p controls) (number p (mirror axis controls)) 0 (2 * points p) (number-mirror axis p controls) in
      λ i. outcome (Ok (figures-mirror p controls i)) (rule i))

  -- ---- in any other list as long

  pub mirror-points :
      (s : Shape) (controls lent : List ℤ) (fs : Figures) (held : List ℤ)
      → draws s controls lent ≡ outcome (Ok fs) held
      → (other : List ℤ)
      → length other ≡ length lent
      → (held' : List ℤ)
      × (draws s (mirror axis controls) other ≡ outcome (Ok fs) held')
      × ((q : ℕ) → q < 2 * fs.points → get_or held' q (pos 0) ≡ across neg_ℤ axis q (get_or held q (pos 0)))
  mirror-points s controls lent fs held answered other long =
      let p = plan_of s in
      let none : NoRow (draw_rows s controls lent) = done_none s controls lent fs held answered in
      let there = none-drawn s (mirror axis controls) other (subst NoRow (sym (draw_rows-other axis s controls lent other long)) none) in
      let figures = done-figures s controls lent fs held answered in (
        drawn p (mirror axis controls) other,
        there ∙ ap (λ f. outcome (Ok f) (drawn p (mirror axis controls) other)) (figures-mirror p controls ∙ figures),
        λ q h.
            let h' : q < 2 * points p = subst (λ (f : Figures). q < 2 * f.points) (sym figures) h in
            held_number s (mirror axis controls) other (figures_of p (mirror axis controls)) (drawn p (mirror axis controls) other) there q h'
            ∙ number-mirror axis p controls q
            ∙ ap (across neg_ℤ axis q) (sym (held_number s controls lent fs held answered q h')),
      )

  -- ---- by the contracts of the code, whichever way each drawing goes

  pub code-mirror-draws :
      (w v : Way) (s : Shape) (controls lent : List ℤ) (o u : Outcome (Result Figures Refusal) (List ℤ))
      → MeetsDrawing w (s, controls, lent) o
      → MeetsDrawing v (s, mirror axis controls, mirror axis lent) u
      → u ≡ mirror_drawn axis o
  code-mirror-draws w v s controls lent o u drawn mirrored =
      sym (meets-draws v s (mirror axis controls) (mirror axis lent) u mirrored) ∙ mirror-draws s controls lent ∙ ap (mirror_drawn axis) (meets-draws w s controls lent o drawn)

-- ---- the view of a span: where it lies hangs on the list's length alone, and whole points stand before it

same-part : (axis : Axis) (s : Shape) (t : ℕ) (l : List ℤ) → part_of s t (mirror axis l) ≡ part_of s t l
unfolding part_of
same-part axis s t l = rw (length-mirrored neg_ℤ axis l)

points-before : (s : Shape) (t : ℕ) (l : List ℤ) → (n : ℕ) × ((part_of s t l).start ≡ 2 * n)
unfolding part_of
points-before s t l =
    let rows = shape_rows s in
    ⊎_elim (λ (v : (r : Refusal) × First rows r). (0, ap (λ p. p.start) (judge-first rows (λ r. empty_part) _ v.0 v.1)))
    (λ none. let (n, is) = there (out_of_sight (plan_of s) t l) in (n, ap (λ p. p.start) (judge-none rows (λ r. empty_part) _ none) ∙ is))
    (verdict rows)
  where
    there : (b : Bool) → (n : ℕ) × ((cond b empty_part (span_part (plan_of s) t)).start ≡ 2 * n)
    there true = (0, refl)
    there false = (t * 2 ^ (plan_of s).depth, mul_left_comm t 2 (2 ^ (plan_of s).depth))

pub mirror-view : (axis : Axis) (s : Shape) (t : ℕ) (l : List ℤ) → viewed (part_of s t (mirror axis l)) (mirror axis l) ≡ mirror axis (viewed (part_of s t l) l)
unfolding viewed
mirror-view axis s t l =
    let v = part_of s t l in
    let (n, is) = points-before s t l in
    ap (λ p. take p.size (drop p.start (mirror axis l))) (same-part axis s t l)
    ∙ ap (λ (m : ℕ). take v.size (drop m (mirror axis l))) is
    ∙ ap (take v.size) (sym (mirrored-drop neg_ℤ axis n l))
    ∙ sym (mirrored-take neg_ℤ axis v.size (drop (2 * n) l))
    ∙ ap (λ (m : ℕ). mirror axis (take v.size (drop m l))) (sym is)
