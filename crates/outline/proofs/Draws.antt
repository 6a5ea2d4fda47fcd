-- A drawing call's reading, taken row by row: the checks that passed drop their rows, and the first that did not is the refusal.
use Rattle.std.specs.Prelude.{Err, Ok}
use mathlib.Core.Path.{◌≡◌, sym, ap, ◌∙◌}
use mathlib.Core.List.{List}
use Prim.Native.Nat.{ℕ, ◌+◌, ◌*◌, ◌^◌}
use native.Mathlib.Nat.{mul_left_comm}
use native.Mathlib.Omega.{arith}
use lib.IntN.{ℤ}
use lib.ListN.{length}
use Rattle.whole.specs.Outcome.{refuses}
use Rattle.shape.specs.declared.Shape.{Shape}
use Rattle.shape.specs.declared.Plan.{Plan}
use Rattle.shape.specs.declared.Refusal.{Refusal}
use Rattle.shape.specs.Refusals.{judge_shape, judge_lists, plan_of}
use Rattle.shape.proofs.Refusals.{judge-first, judge-none, sound, unsound, sound-plan, bad-first, fine-none}
use Rattle.shape.specs.Shape.{points_of}
use Rattle.spans.specs.Numbers.{per_span}
use Rattle.outline.specs.Outline.{points, plan_rows, accepts, draws_plan, draws}

-- all points are the spans' numbers and the last end's
pub all-numbers : (k m : ℕ) → 2 * points_of k m ≡ m * per_span k + 2
unfolding points_of
all-numbers k m = omega (arith, mul_left_comm m 2 (2 ^ k))

-- ---- rows 1, 2, 24, 3

pub draws-unsound : (s : Shape) (r : Refusal) → judge_shape s ≡ Err r → (controls lent : List ℤ) → draws s controls lent ≡ refuses Err lent r
unfolding draws
draws-unsound s r e controls lent = unsound s r e (plan_rows s.count (plan_of s) controls lent) (refuses Err lent) (accepts (plan_of s) controls lent)

pub draws-sound : (s : Shape) (p : Plan) → judge_shape s ≡ Ok p → (controls lent : List ℤ) → draws s controls lent ≡ draws_plan s.count p controls lent
unfolding draws draws_plan
draws-sound s p e controls lent =
    sound s p e (plan_rows s.count (plan_of s) controls lent) (refuses Err lent) (accepts (plan_of s) controls lent)
    ∙ ap (λ q. draws_plan s.count q controls lent) (sym (sound-plan s p e))

-- ---- rows 7, 8, 9

module _ (n : ℕ) (p : Plan) (controls lent : List ℤ) where
  pub plan-bad : (r : Refusal) → judge_lists n controls (points p) (length lent) ≡ Err r → draws_plan n p controls lent ≡ refuses Err lent r
  unfolding draws_plan
  plan-bad r e = judge-first (plan_rows n p controls lent) (refuses Err lent) (accepts p controls lent) r (bad-first n controls (points p) (length lent) r e)

  pub plan-drawn : judge_lists n controls (points p) (length lent) ≡ Ok tt → draws_plan n p controls lent ≡ accepts p controls lent
  unfolding draws_plan
  plan-drawn e = judge-none (plan_rows n p controls lent) (refuses Err lent) (accepts p controls lent) (fine-none n controls (points p) (length lent) e)
