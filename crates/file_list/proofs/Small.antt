-- The numbers of an outline have at most seven digits, since every point of records inside the limits lies within 6,000,000 either way; chosen points are among those of the even outline
-- at the finest depth.
use Rattle.std.specs.Prelude.{Ok}
use mathlib.Core.Path.{◌≡◌, sym, subst}
use mathlib.Core.List.{List, [], ◌∷◌}
use Prim.Native.Nat.{ℕ, zero, suc, ◌+◌, ◌*◌, ◌^◌, ◌≤◌, ◌<◌}
use native.Mathlib.Omega.{arith}
use lib.IntN.{ℤ, nat_abs}
use lib.ListN.{take}
use Rattle.whole.specs.Outcome.{outcome}
use Rattle.curve.specs.Span.{divisor}
use Rattle.curve.specs.Tab.{tab}
use Rattle.curve.proofs.Bits.{reach-most}
use Rattle.shape.specs.declared.Shape.{Shape}
use Rattle.shape.specs.declared.Plan.{Plan}
use Rattle.shape.specs.Inner.{Good, Lent}
use Rattle.shape.specs.Refusals.{NoRow, shape_rows, plan_of}
use Rattle.shape.specs.Shape.{points_of}
use Rattle.shape.proofs.Refusals.{none-at, good-plan}
use Rattle.spans.specs.Numbers.{number}
use Rattle.spans.specs.Inner.{wholes}
use Rattle.outline.specs.Outline as outline
use Rattle.outline.proofs.Within.{number-within}
use Rattle.pieces.specs.Tree.{finest}
use Rattle.pieces.specs.Steps.{Rises}
use Rattle.pieces.proofs.Even.{sums_at}
use Rattle.tolerance.specs.declared.Steps.{Steps}
use Rattle.tolerance.specs.Reading.{chooses}
use Rattle.tolerance.specs.Steps.{steps_along, finest_shape, finest_plan}
use Rattle.tolerance.proofs.Along.{on_x, on_y, steps-rising, held-along}
use Rattle.file_list.proofs.Lengths.{Small}

-- ---- even steps

pub small-tab : (f : ℕ → ℤ) (i n : ℕ) → ((q : ℕ) → i ≤ q → q < i + n → nat_abs (f q) < 10 ^ 7) → Small (tab f i n)
unfolding tab
small-tab f i zero near = tt
small-tab f i (suc n) near = (near i (omega arith) (omega arith), small-tab f (suc i) n (λ q a b. near q (omega arith) (omega arith)))

-- ---- chosen steps

-- numbers that rise from one to another do not end before they begin
rises-on : (from to : ℕ) (steps : List ℕ) → Rises from steps to → from ≤ to
rises-on from to [] rise = rise
rises-on from to (g ∷ steps) rise = omega (arith, rises-on (suc g) to steps rise.1)

module _ (s : Shape) (controls : List ℤ) (sound : NoRow (shape_rows s)) (k len : ℕ) (lent : Lent s.count controls k len) where
  abbrev p : Plan
  p = plan_of s

  -- the shape is sound at the finest depth too
  good : Good (finest_shape s) (finest_plan p)
  unfolding plan_of
  good = good-plan (finest_shape s) (none-at s finest (omega arith) sound)

  near : (q : ℕ) → q < 2 * outline.points (finest_plan p) → nat_abs (number (finest_plan p) controls q) < 10 ^ 7
  near q h = omega (arith, reach-most p.basis, number-within (finest_shape s) (finest_plan p) good controls k len lent q h)

  small-steps : (from to : ℕ) (steps : List ℕ) → Rises from steps to → to ≤ outline.points (finest_plan p) → Small (wholes (divisor p.basis finest) (sums_at (on_x p controls) (on_y p controls) steps))
  unfolding sums_at number
  small-steps from to [] rise h = tt
  small-steps from to (g ∷ steps) rise h =
      let below = rises-on (suc g) to steps rise.1 in
      (near (2 * g) (omega arith), (near (2 * g + 1) (omega arith), small-steps (suc g) to steps rise.1 h))

  -- after an accepted call
  pub small-chosen : (tolerance most : ℕ) (points : List ℤ) (fs : Steps) (held : List ℤ) → chooses s tolerance most controls points ≡ outcome (Ok fs) held → Small (take (2 * fs.points) held)
  unfolding points_of
  small-chosen tolerance most points fs held done =
      subst Small (sym (held-along s tolerance most controls points fs held done))
      (small-steps 0 (p.spans * 2 ^ finest + 1) (steps_along p tolerance controls) (steps-rising p tolerance controls) (omega arith))
