-- The table of a step falls into parts, each worked by one function: a part that refuses decides the whole, and a part that does not leaves it to the rest.
use Rattle.std.specs.Prelude.{Err, Ok}
use mathlib.Core.Path.{◌≡◌, refl, ◌∙◌}
use mathlib.Core.Bool.{Bool, true, false, not, ◌&&◌, ◌||◌}
use mathlib.Core.List.{List, ◌++◌}
use mathlib.Core.Logic.{◌⊎◌, inl, inr, ⊎_elim}
use Prim.Native.Nat.{ℕ, zero, suc, ◌+◌, ◌*◌, ◌%◌, max, ◌≤◌, ◌<◌}
use native.Mathlib.Nat.{max-le}
use native.Mathlib.Omega.{arith}
use borrow.Author.Tests.{le-ltb, leb-true, eqb-true, eqb-false}
use lib.Dec.{leb, eqb}
use lib.IntN.{ℤ}
use lib.ListN.{length}
use Rattle.whole.specs.Outcome.{refuses}
use Rattle.shape.specs.Shape.{most_records}
use Rattle.shape.specs.Refusals.{Row, judge, NoRow}
use Rattle.shape.specs.declared.Refusal.{Refusal}
use Rattle.shape.proofs.Tests.{passes, or-false, and-true, true-is-not-false}
use Rattle.shape.proofs.Refusals.{judge-none, judge-append, row-fails, rows_none}
use Rattle.drawing.specs.declared.Control.{Control}
use Rattle.drawing.specs.declared.State.{State}
use Rattle.drawing.specs.declared.Step.{Step}
use Rattle.drawing.specs.Drawing.{numbers, added, start_after, closed_after}
use Rattle.drawing.specs.Reading.{reached, out_of_turn, state_rows, number_rows, space_rows}
use Rattle.drawing.specs.Inner.{extended, judge_state, extends, goes_on}

-- ---- any part

leaves : {B : Type 0} (part rest : List Row) (f : Refusal → B) (b : B) → NoRow part → judge (part ++ rest) f b ≡ judge rest f b
leaves part rest f b h = judge-append part rest f b ∙ judge-none part f (judge rest f b) h

-- ---- rows 3, 8, 12

module _ (s : State) (opening : Bool) where
  pub none-fine : NoRow (state_rows s opening) → judge_state s opening ≡ Ok tt
  unfolding judge_state
  none-fine h = judge-none (state_rows s opening) Err (Ok tt) h

  pub fine-none : judge_state s opening ≡ Ok tt → NoRow (state_rows s opening)
  unfolding judge_state
  fine-none e = rows_none (state_rows s opening) tt e

-- a count that is reached
pub reached-facts : (n : ℕ) → reached n ≡ true → (n ≡ 0) ⊎ ((n ≤ most_records) × (n % 3 ≡ 1))
unfolding reached
reached-facts n e =
    ⊎_elim (λ t. inl (eqb-true n 0 t))
    (λ f. let both = and-true (leb n most_records) (eqb (n % 3) 1) (rw f at e) in inr (leb-true n most_records both.0, eqb-true (n % 3) 1 both.1))
    (passes (eqb n 0))

-- what a fit state has
pub fine-open : (s : State) (opening : Bool) → judge_state s opening ≡ Ok tt → s.closed ≡ false
unfolding out_of_turn
fine-open s opening e =
    let h = row-fails 12 (state_rows s opening) (fine-none s opening e) in
    (or-false (not (eqb s.count 0) && opening) s.closed (or-false (eqb s.count 0 && not opening) ((not (eqb s.count 0) && opening) || s.closed) h).1).1

pub fine-empty : (s : State) → judge_state s true ≡ Ok tt → s.count ≡ 0
unfolding out_of_turn
fine-empty s e =
    let h = row-fails 12 (state_rows s true) (fine-none s true e) in
    let late = (or-false (not (eqb s.count 0) && true) s.closed (or-false (eqb s.count 0 && not true) ((not (eqb s.count 0) && true) || s.closed) h).1).0 in
    ⊎_elim (λ t. eqb-true s.count 0 t) (λ f. absurd (true-is-not-false refl (rw f at late))) (passes (eqb s.count 0))

pub fine-begun : (s : State) → judge_state s false ≡ Ok tt → 0 < s.count
unfolding out_of_turn
fine-begun s e =
    let h = row-fails 12 (state_rows s false) (fine-none s false e) in
    let early = (or-false (eqb s.count 0 && not false) ((not (eqb s.count 0) && false) || s.closed) h).0 in
    ⊎_elim (λ t. absurd (true-is-not-false refl (rw t at early))) (λ f. above s.count (eqb-false s.count 0 f)) (passes (eqb s.count 0))
  where
    above : (n : ℕ) → (n ≡ 0 → ⊥) → 0 < n
    above zero h = absurd (h refl)
    above (suc n) h = omega arith

-- ---- rows 6 and 7

module _ (s : State) (cs : List Control) (start : Control) (closed : Bool) (l : List ℤ) where
  pub roomy : s.count + length cs ≤ most_records → 2 * (s.count + length cs) ≤ length l → extends s cs start closed l ≡ extended s cs start closed l
  unfolding extends
  roomy h long =
      judge-none (space_rows s.count (s.count + length cs) l) (refuses Err l) (extended s cs start closed l) (
        le-ltb most_records (s.count + length cs) h,
        (le-ltb (length l) (2 * max s.count (s.count + length cs)) (omega (arith, max-le {a = s.count} {b = s.count + length cs} {k = s.count + length cs} (omega arith) (omega arith))), tt),
      )

-- ---- the whole

module _ (s : State) (step : Step) (l : List ℤ) where
  -- the numbers are coordinates
  pub numbers-good : NoRow (number_rows 0 (numbers step)) → goes_on s step l ≡ extends s (added s step) (start_after s step) (closed_after s step) l
  unfolding goes_on extends
  numbers-good h =
      leaves (number_rows 0 (numbers step)) (space_rows s.count (s.count + length (added s step)) l) (refuses Err l)
      (extended s (added s step) (start_after s step) (closed_after s step) l) h
