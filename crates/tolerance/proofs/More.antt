-- More tolerance, within the most that there may be, is accepted wherever less is, and never takes more cuts.
use Rattle.std.specs.Prelude.{Ok, Result}
use mathlib.Core.Path.{◌≡◌, refl, sym, subst}
use mathlib.Core.List.{List, ◌∷◌}
use Prim.Native.Nat.{ℕ, zero, suc, ◌+◌, ◌*◌, ◌≤◌}
use native.Mathlib.Omega.{arith}
use borrow.Author.Tests.{le-ltb}
use lib.IntN.{ℤ}
use lib.ListN.{length}
use Rattle.whole.specs.Outcome.{outcome}
use Rattle.curve.specs.Tab.{tab}
use Rattle.shape.specs.declared.Shape.{Shape}
use Rattle.shape.specs.declared.Plan.{Plan}
use Rattle.shape.specs.Refusals.{NoRow, shape_rows, control_rows, point_rows, plan_of}
use Rattle.shape.proofs.Refusals.{none-earlier, none-later, none_both}
use Rattle.pieces.specs.Tree.{finest, most_tolerance, piece, cuts, all_cuts, Sound}
use Rattle.pieces.proofs.Tolerant.{stays-sound, fewer-cuts}
use Rattle.pieces.proofs.Walks.{counted-walk-all}
use Rattle.tolerance.specs.declared.Steps.{Steps}
use Rattle.tolerance.specs.Reading.{controls_of, tree_of, walk_of, cuts_of, points_for, tolerance_row, walk_rows, last_rows, plan_rows, choose_rows, steps_of, chosen, chooses}
use Rattle.pieces.specs.declared.Uncut.{Uncut}
use Rattle.tolerance.proofs.Exactly.{none-chosen, done_none}
use Rattle.tolerance.proofs.Answered.{answered-cuts, answered-points, answered-most, answered-room, answered-sound}

module _ (p : Plan) (tolerance more : ℕ) (controls : List ℤ) (h : tolerance ≤ more) where
  fewer-from : (s n : ℕ) → all_cuts (tab (tree_of p more controls) s n) ≤ all_cuts (tab (tree_of p tolerance controls) s n)
  unfolding all_cuts tab tree_of
  fewer-from s zero = omega arith
  fewer-from s (suc n) =
      let here : cuts (tree_of p more controls s) ≤ cuts (tree_of p tolerance controls s) = fewer-cuts p.basis tolerance more h finest (piece 0 (controls_of p controls s 0) (controls_of p controls s 1)) in
      omega (arith, here, fewer-from (suc s) n)

  pub fewer-of : cuts_of p more controls ≤ cuts_of p tolerance controls
  fewer-of = fewer-from 0 p.spans

  sound-of : (t : ℕ) → Sound (tree_of p tolerance controls t) → Sound (tree_of p more controls t)
  unfolding tree_of
  sound-of t s = stays-sound p.basis tolerance more h finest (piece 0 (controls_of p controls t 0) (controls_of p controls t 1)) s

-- a walk that counted is not refused
counts : (w : Result ℕ Uncut) (n : ℕ) → w ≡ Ok n → NoRow (walk_rows w)
counts w n e = subst (λ v. NoRow (walk_rows v)) (sym e) (refl, (refl, tt))

module _ (s : Shape) (tolerance most : ℕ) (controls lent : List ℤ) (f : Steps) (held : List ℤ) (done : chooses s tolerance most controls lent ≡ outcome (Ok f) held) (more : ℕ) (h : tolerance ≤ more) (near : more ≤ most_tolerance) where
  abbrev p : Plan
  p = plan_of s

  fewer : cuts_of p more controls ≤ f.cuts
  fewer = subst (λ (n : ℕ). cuts_of p more controls ≤ n) (sym (answered-cuts s tolerance most controls lent f held done)) (fewer-of p tolerance more controls h)

  walked : walk_of p more most controls ≡ Ok (0 + cuts_of p more controls)
  walked =
      counted-walk-all (tree_of p more controls) most 0 0 p.spans (λ t low high. sound-of p tolerance more controls h t (answered-sound s tolerance most controls lent f held done t (omega arith)))
      (omega (arith, fewer, answered-most s tolerance most controls lent f held done))

  not-refused : NoRow (choose_rows s more most controls lent)
  not-refused =
      let none = done_none s tolerance most controls lent f held done in
      let rows = plan_rows s.count p tolerance most controls lent in
      let shape = none-earlier (shape_rows s) rows none in
      let lists = none-earlier (control_rows s.count s.count controls) (tolerance_row tolerance ∷ last_rows p tolerance most controls (length lent)) (none-later (shape_rows s) rows none) in
      let room : 2 * points_for p (cuts_of p more controls) ≤ length lent = omega (arith, fewer, answered-room s tolerance most controls lent f held done, answered-points s tolerance most controls lent f held done) in
      let last = none_both (walk_rows (walk_of p more most controls)) (point_rows (points_for p (cuts_of p more controls)) (length lent)) (counts (walk_of p more most controls) _ walked) (le-ltb (length lent) (2 * points_for p (cuts_of p more controls)) room, tt) in
      none_both (shape_rows s) (plan_rows s.count p more most controls lent) shape
      (none_both (control_rows s.count s.count controls) (tolerance_row more ∷ last_rows p more most controls (length lent)) lists (le-ltb most_tolerance more near, last))

  -- so it is done, by no more cuts
  pub more-tolerant : (g : Steps) × (now : List ℤ) × (chooses s more most controls lent ≡ outcome (Ok g) now) × (g.cuts ≤ f.cuts)
  more-tolerant = (steps_of p more controls, chosen p more controls lent, none-chosen s more most controls lent not-refused, fewer)
