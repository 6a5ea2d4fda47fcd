-- What an accepted call answers: the inner nodes of the trees, within the caller's most; as many points as flat pieces and one more; and the list with them.
use Rattle.std.specs.Prelude.{Err, Ok, Result}
use mathlib.Core.Path.{◌≡◌, refl, sym, ap, ◌∙◌, subst}
use mathlib.Core.Bool.{false}
use mathlib.Core.List.{List}
use Prim.Native.Nat.{ℕ, ◌+◌, ◌*◌, ◌≤◌, ◌<◌}
use native.Mathlib.Nat.{zero-add}
use native.Mathlib.Omega.{arith}
use borrow.Author.Tests.{ltb-false}
use lib.IntN.{ℤ}
use lib.ListN.{length}
use Rattle.whole.specs.Outcome.{outcome}
use Rattle.shape.specs.declared.Shape.{Shape}
use Rattle.shape.specs.declared.Plan.{Plan}
use Rattle.shape.specs.Inner.{Good}
use Rattle.shape.specs.Lists.{Keeps}
use Rattle.shape.specs.Refusals.{Row, NoRow, shape_rows, plan_of}
use Rattle.shape.proofs.Lists.{sets-keeps}
use Rattle.shape.proofs.Refusals.{none-earlier, none-later, row-fails, good-plan}
use Rattle.shape.proofs.Tests.{true-is-not-false}
use Rattle.pieces.specs.Tree.{most_tolerance, Sound}
use Rattle.pieces.specs.Values.{numbers}
use Rattle.pieces.proofs.Walks.{Counted, walk-all-counted}
use Rattle.pieces.proofs.Writes.{length-numbers}
use Rattle.tolerance.specs.declared.Steps.{Steps}
use Rattle.tolerance.specs.Reading.{tree_of, walk_of, values_of, cuts_of, points_for, steps_of, is_too_deep, is_too_many, plan_rows, choose_rows, chosen, chooses}
use Rattle.tolerance.specs.Inner.{AllSound}
use Rattle.pieces.specs.declared.Uncut.{Uncut}
use Rattle.pieces.specs.declared.Uncut.TheVariants.{TooDeep, TooMany}
use Rattle.tolerance.proofs.Left.{values_length}
use Rattle.tolerance.proofs.Exactly.{done_none, done-steps, done_held}

-- a walk that was not refused has counted
counted : (w : Result ℕ Uncut) → is_too_deep w ≡ false → is_too_many w ≡ false → (n : ℕ) × (w ≡ Ok n)
counted (Ok n) d m = (n, refl)
counted (Err TooDeep) d m = absurd (true-is-not-false refl d)
counted (Err TooMany) d m = absurd (true-is-not-false refl m)

module _ (s : Shape) (tolerance most : ℕ) (controls lent : List ℤ) (none : NoRow (choose_rows s tolerance most controls lent)) where
  abbrev p : Plan
  p = plan_of s

  abbrev rows : List Row
  rows = plan_rows s.count p tolerance most controls lent

  pub good : Good s p
  good = good-plan s (none-earlier (shape_rows s) rows none)

  left : NoRow rows
  left = none-later (shape_rows s) rows none

  pub near : tolerance ≤ most_tolerance
  near = ltb-false most_tolerance tolerance (row-fails 20 rows left)

  pub room : 2 * points_for p (cuts_of p tolerance controls) ≤ length lent
  room = ltb-false (length lent) (2 * points_for p (cuts_of p tolerance controls)) (row-fails 9 rows left)

  walked : (n : ℕ) × (walk_of p tolerance most controls ≡ Ok n)
  walked = counted (walk_of p tolerance most controls) (row-fails 21 rows left) (row-fails 22 rows left)

  all-counted : Counted most 0 ((t : ℕ) → 0 ≤ t → t < 0 + p.spans → Sound (tree_of p tolerance controls t)) (cuts_of p tolerance controls) walked.0
  all-counted = walk-all-counted (tree_of p tolerance controls) most 0 walked.0 0 p.spans walked.1

  -- every piece of every span is flat or cut
  pub all-sound : AllSound p tolerance controls
  all-sound = λ t h. all-counted.all_sound t (omega arith) (omega arith)

  -- by no more cuts than the caller's most
  pub within-most : cuts_of p tolerance controls ≤ most
  within-most = omega (arith, all-counted.count, all-counted.within (omega arith))

module _ (s : Shape) (tolerance most : ℕ) (controls lent : List ℤ) (f : Steps) (held : List ℤ) (done : chooses s tolerance most controls lent ≡ outcome (Ok f) held) where
  none : NoRow (choose_rows s tolerance most controls lent)
  none = done_none s tolerance most controls lent f held done

  steps : steps_of (plan_of s) tolerance controls ≡ f
  steps = done-steps s tolerance most controls lent f held done

  -- the answered cuts are the inner nodes of the trees
  pub answered-cuts : f.cuts ≡ cuts_of (plan_of s) tolerance controls
  answered-cuts = sym (ap (λ (g : Steps). g.cuts) steps)

  pub answered-most : f.cuts ≤ most
  answered-most = subst (λ (n : ℕ). n ≤ most) (sym answered-cuts) (within-most s tolerance most controls lent none)

  pub answered-points : f.points ≡ (plan_of s).spans + f.cuts + 1
  answered-points = sym (ap (λ (g : Steps). g.points) steps) ∙ ap (points_for (plan_of s)) (sym answered-cuts)

  pub answered-sound : (t : ℕ) → t < (plan_of s).spans → Sound (tree_of (plan_of s) tolerance controls t)
  answered-sound = all-sound s tolerance most controls lent none

  -- so many numbers are chosen, and everything past them is kept
  pub answered-length : length (numbers (values_of (plan_of s) tolerance controls)) ≡ 2 * f.points
  answered-length = length-numbers (values_of (plan_of s) tolerance controls) ∙ values_length (plan_of s) tolerance controls ∙ ap (λ (g : Steps). 2 * g.points) steps

  pub answered-keeps : Keeps 0 (2 * f.points) lent held
  answered-keeps =
      let values = numbers (values_of (plan_of s) tolerance controls) in
      subst (Keeps 0 (2 * f.points) lent) (done_held s tolerance most controls lent f held done)
      (subst (λ (n : ℕ). Keeps 0 n lent (chosen (plan_of s) tolerance controls lent)) (zero-add (length values) ∙ answered-length) (sets-keeps values lent 0))

  pub answered-room : 2 * f.points ≤ length lent
  answered-room = subst (λ (g : Steps). 2 * g.points ≤ length lent) steps (room s tolerance most controls lent none)
