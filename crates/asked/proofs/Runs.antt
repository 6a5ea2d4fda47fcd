-- The run of an edit. In an open outline, where its first span is before its end it is from the one to the other, else both of its numbers are 0; it lies among the spans of the new shape,
-- around the place. In a loop it is counted round.
use mathlib.Core.Path.{◌≡◌, refl, sym, ap, subst}
use mathlib.Core.Bool.{Bool, true, false, cond}
use mathlib.Core.Logic.{⊎_elim, ◌↔◌}
use Prim.Native.Nat.{ℕ, ◌+◌, ◌-◌, min, ◌≤◌, ◌<◌}
use native.Mathlib.Nat.{min-le_right}
use native.Mathlib.Omega.{arith}
use borrow.Author.Tests.{lt-ltb, le-ltb}
use lib.Dec.{ltb}
use lib.IntN.{ℤ}
use Rattle.curve.specs.Span.{round_end, is_loop}
use Rattle.curve.proofs.Round.{by-round, round-within}
use Rattle.shape.specs.declared.Plan.{Plan}
use Rattle.shape.specs.Inner.{RunsRound}
use Rattle.shape.specs.Shape.{last_using, least_records}
use Rattle.shape.proofs.Spans.{runs-least}
use Rattle.shape.proofs.Tests.{passes, either}
use Rattle.asked.specs.declared.Run.{Run}
use Rattle.asked.specs.declared.Edit.{Edit}
use Rattle.asked.specs.declared.Edit.TheVariants.{Move, Insert, Remove}
use Rattle.asked.specs.Edits.{first_fresh, past_fresh, clipped, count_round, run_round, run_of, in_run, carried_from}

pub cond_same : {A : Type 0} (t : Bool) (z : A) → cond t z z ≡ z
cond_same true z = refl
cond_same false z = refl

-- ---- which run it is

pub run-open : (e : Edit) (p : Plan) (j : ℕ) → is_loop p.basis ≡ false → run_of e p j ≡ clipped (first_fresh e p j) (past_fresh e p j)
unfolding run_of
run-open e p j ends = ap (λ t. cond t (run_round e p.spans j) (clipped (first_fresh e p j) (past_fresh e p j))) ends

pub run-loop : (e : Edit) (p : Plan) (j : ℕ) → is_loop p.basis ≡ true → run_of e p j ≡ run_round e p.spans j
unfolding run_of
run-loop e p j loop = ap (λ t. cond t (run_round e p.spans j) (clipped (first_fresh e p j) (past_fresh e p j))) loop

-- ---- its two numbers in an open outline

module _ (a z : ℕ) where
  pub clipped-first : a < z → (clipped a z).first ≡ a
  clipped-first h = ap (λ t. cond t a 0) (lt-ltb a z h)

  pub clipped-none : z ≤ a → (clipped a z).first ≡ 0
  clipped-none h = ap (λ t. cond t a 0) (le-ltb a z h)

  -- it ends where its spans do
  pub clipped-most : (m : ℕ) → z ≤ m → (clipped a z).first + (clipped a z).count ≤ m
  clipped-most m h = ⊎_elim (λ some. omega (arith, clipped-first some)) (λ none. omega (arith, clipped-none none)) (either a z)

  -- and its spans are those from the one bound up to the other
  pub clipped-spans : (t : ℕ) → (((clipped a z).first ≤ t) × (t < (clipped a z).first + (clipped a z).count)) ↔ ((a ≤ t) × (t < z))
  clipped-spans t =
      ⊎_elim (λ h. ((λ (low, high). (omega (arith, clipped-first h), omega (arith, clipped-first h))), (λ (low, high). (omega (arith, clipped-first h), omega (arith, clipped-first h)))))
      (λ h. ((λ (low, high). absurd (omega arith)), (λ (low, high). absurd (omega arith))))
      (either a z)

-- ---- a span in a run, counted round from its first

module _ (run : Run) (m s : ℕ) where
  pub runs : (s + m - run.first < m → s + m - run.first < run.count) → (m ≤ s + m - run.first → s + m - run.first - m < run.count) → in_run run m s ≡ true
  unfolding in_run
  runs below past = lt-ltb (round_end m (s + m - run.first)) run.count (by-round (λ v. v < run.count) m (s + m - run.first) below past)

  pub stops : (s + m - run.first < m → run.count ≤ s + m - run.first) → (m ≤ s + m - run.first → run.count ≤ s + m - run.first - m) → in_run run m s ≡ false
  unfolding in_run
  stops below past = le-ltb (round_end m (s + m - run.first)) run.count (by-round (λ v. run.count ≤ v) m (s + m - run.first) below past)

-- ---- where it lies

-- it ends with the spans of the new shape
pub past-most : (e : Edit) (p : Plan) (j : ℕ) → past_fresh e p j ≤ p.spans
past-most (Move x y) p j = min-le_right (last_using p.basis j + 1) p.spans
past-most (Insert x y) p j = min-le_right (j + 1) p.spans
past-most Remove p j = min-le_right j p.spans

-- a span past it is not before the place, or the edit is a move, which carries nothing
pub later-carried : {A : Type 0} (e : Edit) (p : Plan) (j t w q : ℕ) (f : ℕ → A) → t < p.spans → past_fresh e p j ≤ t
    → cond (ltb t j) (f q) (f (carried_from e w q)) ≡ f (carried_from e w q)
later-carried (Move x y) p j t w q f h past = cond_same (ltb t j) (f q)
later-carried (Insert x y) p j t w q f h past = ap (λ v. cond v (f q) (f (q - w))) (le-ltb t j (omega arith))
later-carried Remove p j t w q f h past = ap (λ v. cond v (f q) (f (q + w))) (le-ltb t j (omega arith))

-- ---- the run of an edit, whatever the basis

-- it is among the spans: in a loop it goes round at most once, else it ends with them
pub round-first : (e : Edit) (p : Plan) (j : ℕ) → is_loop p.basis ≡ true → least_records ≤ p.spans → j ≤ p.spans → (run_of e p j).first < p.spans
round-first e p j loop least range =
    subst (λ (r : Run). r.first < p.spans) (sym (run-loop e p j loop)) (round-within p.spans (j + p.spans - 3) (omega arith))

pub round-few : (e : Edit) (p : Plan) (j : ℕ) → is_loop p.basis ≡ true → least_records ≤ p.spans → (run_of e p j).count ≤ p.spans
round-few e p j loop least = subst (λ (r : Run). r.count ≤ p.spans) (sym (run-loop e p j loop)) (few e)
  where
    few : (e : Edit) → count_round e ≤ p.spans
    few (Move x y) = least
    few (Insert x y) = least
    few Remove = omega arith

pub open-most : (e : Edit) (p : Plan) (j : ℕ) → is_loop p.basis ≡ false → (run_of e p j).first + (run_of e p j).count ≤ p.spans
open-most e p j ends =
    subst (λ (r : Run). r.first + r.count ≤ p.spans) (sym (run-open e p j ends)) (clipped-most (first_fresh e p j) (past_fresh e p j) p.spans (past-most e p j))

-- the span that begins with the new record is in it
pub inserted-own : (x y : ℤ) (p : Plan) (j : ℕ) → RunsRound p.basis p.spans → j < p.spans → in_run (run_of (Insert x y) p j) p.spans j ≡ true
inserted-own x y p j round h =
    ⊎_elim
    (λ loop.
    let least = runs-least p.basis p.spans round loop in
    subst (λ (r : Run). in_run r p.spans j ≡ true) (sym (run-loop (Insert x y) p j loop))
    (by-round (λ f. in_run (record { first = f; count = 4 }) p.spans j ≡ true) p.spans (j + p.spans - 3)
    (λ g. runs (record { first = j + p.spans - 3; count = 4 }) p.spans j (omega arith) (omega arith))
    (λ g. runs (record { first = j + p.spans - 3 - p.spans; count = 4 }) p.spans j (omega arith) (omega arith))))
    (λ ends.
    let has = (clipped-spans (j - 3) (min (j + 1) p.spans) j).1 (omega arith, omega arith) in
    let run = clipped (j - 3) (min (j + 1) p.spans) in
    subst (λ (r : Run). in_run r p.spans j ≡ true) (sym (run-open (Insert x y) p j ends)) (runs run p.spans j (omega (arith, has.0, has.1, clipped-most (j - 3) (min (j + 1) p.spans) p.spans (omega arith))) (omega (arith, has.0, has.1))))
    (passes (is_loop p.basis))
