-- What stands in the lent points after an accepted drawing: all numbers of the outline, from the list's start.
use Rattle.std.specs.Prelude.{Ok}
use mathlib.Core.Path.{◌≡◌, sym, ap, ◌∙◌, subst}
use mathlib.Core.List.{List}
use Prim.Native.Nat.{ℕ, ◌*◌, ◌≤◌, ◌<◌}
use native.Mathlib.Omega.{arith}
use borrow.Author.Tests.{ltb-false}
use lib.IntN.{ℤ, pos}
use lib.ListN.{get_or, length}
use Rattle.whole.specs.Outcome.{outcome}
use Rattle.shape.specs.declared.Shape.{Shape}
use Rattle.shape.specs.Refusals.{shape_rows, judge_shape, plan_of}
use Rattle.shape.proofs.Refusals.{none-earlier, none-sound, row-fails}
use Rattle.spans.proofs.Filled.{length-filled, in-filled}
use Rattle.outline.specs.declared.Figures.{Figures}
use Rattle.spans.specs.Numbers.{number}
use Rattle.outline.specs.Outline.{points, drawn, plan_rows, draw_rows, draws}
use Rattle.outline.proofs.Exactly.{done_none, none-drawn}

module _ (s : Shape) (controls lent : List ℤ) (fs : Figures) (held : List ℤ) (answered : draws s controls lent ≡ outcome (Ok fs) held) where
  pub held-sound : judge_shape s ≡ Ok (plan_of s)
  held-sound = none-sound s (none-earlier (shape_rows s) (plan_rows s.count (plan_of s) controls lent) (done_none s controls lent fs held answered))

  pub held-drawn : drawn (plan_of s) controls lent ≡ held
  held-drawn = λ i. ((sym (none-drawn s controls lent (done_none s controls lent fs held answered)) ∙ answered) i).held

  room : 2 * points (plan_of s) ≤ length lent
  room = ltb-false (length lent) (2 * points (plan_of s)) (row-fails 9 (draw_rows s controls lent) (done_none s controls lent fs held answered))

  pub held-room : 2 * points (plan_of s) ≤ length held
  held-room = subst (λ l. 2 * points (plan_of s) ≤ length l) held-drawn (omega (arith, room, length-filled (number (plan_of s) controls) 0 (2 * points (plan_of s)) lent))

  pub held_number : (q : ℕ) → q < 2 * points (plan_of s) → get_or held q (pos 0) ≡ number (plan_of s) controls q
  held_number q h =
      ap (λ l. get_or l q (pos 0)) (sym held-drawn)
      ∙ in-filled (number (plan_of s) controls) 0 (2 * points (plan_of s)) lent q (omega arith) (omega arith) (omega (arith, room))
