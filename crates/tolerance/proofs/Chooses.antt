-- The call's reading, taken row by row: the checks that passed drop their rows, and the first that did not is the refusal.
use Rattle.std.specs.Prelude.{Err, Ok, Result}
use mathlib.Core.Path.{◌≡◌, sym, ap, ◌∙◌}
use mathlib.Core.Bool.{cond}
use mathlib.Core.List.{List, ◌∷◌, ◌++◌}
use Prim.Native.Nat.{ℕ, ◌*◌, ◌≤◌, ◌<◌}
use borrow.Author.Tests.{lt-ltb, le-ltb}
use lib.IntN.{ℤ}
use lib.ListN.{length}
use Rattle.whole.specs.Outcome.{Outcome, refuses}
use Rattle.shape.specs.declared.Shape.{Shape}
use Rattle.shape.specs.declared.Plan.{Plan}
use Rattle.shape.specs.declared.Refusal.{Refusal}
use Rattle.shape.specs.Refusals.{judge, judge_shape, judge_controls, point_rows, plan_of}
use Rattle.shape.proofs.Refusals.{sound, unsound, sound-plan, controls-bad, controls-fine}
use Rattle.pieces.specs.Tree.{most_tolerance}
use Rattle.pieces.specs.Walk.{refusal_of}
use Rattle.tolerance.specs.Reading.{tolerance_row, walk_rows, last_rows, plan_rows, walk_of, cuts_of, points_for, accepts, chooses_last, chooses_plan, chooses}
use Rattle.pieces.specs.declared.Uncut.{Uncut}
use Rattle.pieces.specs.declared.Uncut.TheVariants.{TooDeep, TooMany}
use Rattle.tolerance.specs.declared.Steps.{Steps}

-- a refusal whose place is 0
abbrev pub refusal : ℕ → Refusal
refusal number = record { number = number; place = 0 }

-- ---- rows 1, 2, 24, 3

module _ (s : Shape) (tolerance most : ℕ) (controls lent : List ℤ) where
  pub chooses-unsound : (r : Refusal) → judge_shape s ≡ Err r → chooses s tolerance most controls lent ≡ refuses Err lent r
  unfolding chooses
  chooses-unsound r e = unsound s r e (plan_rows s.count (plan_of s) tolerance most controls lent) (refuses Err lent) (accepts (plan_of s) tolerance controls lent)

  pub chooses-sound : (p : Plan) → judge_shape s ≡ Ok p → chooses s tolerance most controls lent ≡ chooses_plan s.count p tolerance most controls lent
  unfolding chooses chooses_plan
  chooses-sound p e =
      sound s p e (plan_rows s.count (plan_of s) tolerance most controls lent) (refuses Err lent) (accepts (plan_of s) tolerance controls lent)
      ∙ ap (λ q. chooses_plan s.count q tolerance most controls lent) (sym (sound-plan s p e))

-- ---- rows 7, 8, 20, 21, 22

module _ (n : ℕ) (p : Plan) (tolerance most : ℕ) (controls lent : List ℤ) where
  pub plan-bad : (r : Refusal) → judge_controls n controls ≡ Err r → chooses_plan n p tolerance most controls lent ≡ refuses Err lent r
  unfolding chooses_plan
  plan-bad r e = controls-bad n controls r e (tolerance_row tolerance ∷ last_rows p tolerance most controls (length lent)) (refuses Err lent) (accepts p tolerance controls lent)

  module _ (fine : judge_controls n controls ≡ Ok tt) where
    -- the tolerance's row is the first that is left
    rest : Outcome (Result Steps Refusal) (List ℤ)
    rest = judge (last_rows p tolerance most controls (length lent)) (refuses Err lent) (accepts p tolerance controls lent)

    plan-fine : chooses_plan n p tolerance most controls lent ≡ cond (tolerance_row tolerance).holds (refuses Err lent (refusal 20)) rest
    unfolding chooses_plan rest judge
    plan-fine = controls-fine n controls fine (tolerance_row tolerance ∷ last_rows p tolerance most controls (length lent)) (refuses Err lent) (accepts p tolerance controls lent)

    pub plan-far : most_tolerance < tolerance → chooses_plan n p tolerance most controls lent ≡ refuses Err lent (refusal 20)
    plan-far h = plan-fine ∙ ap (λ b. cond b (refuses Err lent (refusal 20)) rest) (lt-ltb most_tolerance tolerance h)

    plan-near : tolerance ≤ most_tolerance → chooses_plan n p tolerance most controls lent ≡ rest
    plan-near h = plan-fine ∙ ap (λ b. cond b (refuses Err lent (refusal 20)) rest) (le-ltb most_tolerance tolerance h)

    -- what the walk came to
    after : Result ℕ Uncut → Outcome (Result Steps Refusal) (List ℤ)
    after w = judge (walk_rows w ++ point_rows (points_for p (cuts_of p tolerance controls)) (length lent)) (refuses Err lent) (accepts p tolerance controls lent)

    walked : (w : Result ℕ Uncut) → tolerance ≤ most_tolerance → walk_of p tolerance most controls ≡ w → chooses_plan n p tolerance most controls lent ≡ after w
    unfolding rest after
    walked w h e = plan-near h ∙ ap after e

    pub plan-ended : (why : Uncut) → tolerance ≤ most_tolerance → walk_of p tolerance most controls ≡ Err why → chooses_plan n p tolerance most controls lent ≡ refuses Err lent (refusal_of why)
    unfolding after judge
    plan-ended TooDeep h e = walked (Err TooDeep) h e
    plan-ended TooMany h e = walked (Err TooMany) h e

    pub plan-last : (k : ℕ) → tolerance ≤ most_tolerance → walk_of p tolerance most controls ≡ Ok k → chooses_plan n p tolerance most controls lent ≡ chooses_last p tolerance controls lent
    unfolding after judge chooses_last
    plan-last k h e = walked (Ok k) h e

-- ---- row 9

module _ (p : Plan) (tolerance : ℕ) (controls lent : List ℤ) where
  pub last-short : length lent < 2 * points_for p (cuts_of p tolerance controls) → chooses_last p tolerance controls lent ≡ refuses Err lent (refusal 9)
  unfolding chooses_last judge
  last-short h = ap (λ b. cond b (refuses Err lent (refusal 9)) (accepts p tolerance controls lent)) (lt-ltb (length lent) (2 * points_for p (cuts_of p tolerance controls)) h)

  pub last-room : 2 * points_for p (cuts_of p tolerance controls) ≤ length lent → chooses_last p tolerance controls lent ≡ accepts p tolerance controls lent
  unfolding chooses_last judge
  last-room h = ap (λ b. cond b (refuses Err lent (refusal 9)) (accepts p tolerance controls lent)) (le-ltb (length lent) (2 * points_for p (cuts_of p tolerance controls)) h)
