-- For contracts inside the project alone: no public contract uses what is here.
-- One span by each of the three ways, and the controls that it can be drawn from.
use Rattle.std.specs.Prelude.{◌≡◌, true, cond, ◌⊎◌, List, [], ◌∷◌, map, ℕ, ◌*◌, ◌-◌, ◌/◌, ◌%◌, ◌^◌, ◌+◌, ◌≤◌, ◌<◌, eqb, ℤ, pos, nat_abs, length}
use Rattle.std.specs.Coded.{Unit-prop, le_prop}
use native.Mathlib.Nat.{ℕ_set}
use Rattle.std.proofs.lemmas.List.Edits.{sets}
use Rattle.whole.specs.Nearest.{nearest, remainder}
use Rattle.whole.specs.Outcome.{Outcome, outcome}
use Rattle.curve.specs.declared.Basis.{Basis}
use Rattle.curve.specs.declared.Basis.TheVariants.{Bezier, BSpline, Cardinal, Hermite, Loop}
use Rattle.curve.specs.declared.Four.{Four}
use Rattle.curve.specs.Span.{coordinate, is_loop, records, weighted}
use Rattle.curve.specs.Ways.{deepest}
use Rattle.curve.specs.Published.{most_parameter}
use Rattle.curve.specs.Limits.{Inside, limit, parameter_of}
use Rattle.curve.specs.Inner.{Holds, widest, far_reach}
use Rattle.shape.specs.declared.Plan.{Plan}
use Rattle.shape.specs.Inner.{RunsRound}
use Rattle.shape.specs.Shape.{most_records}
use Rattle.spans.specs.Numbers.{noughts, per_span}

-- ---- exact sums over a divisor d, rounded one after another

-- The numbers, and what is left over of each.
abbrev pub wholes : ℕ → List ℤ → List ℤ
wholes d sums = map (λ z. nearest z d) sums

abbrev pub remainders : ℕ → List ℤ → List ℤ
remainders d sums = map (λ z. remainder z d) sums

-- Rounding them into a lent list, from number q on, where n numbers were exact before: how many are exact then, and the list with the numbers.
abbrev pub rounds : ℕ → List ℤ → ℕ → ℕ → List ℤ → Outcome ℕ (List ℤ)
rounds d sums q n l = outcome (n + noughts (remainders d sums)) (sets l q (wholes d sums))

-- ---- the exact sums of one span, from its two axes' controls: sum j is at step j / 2 on axis j % 2, at `left` more halvings

abbrev pub on_axis : Four → Four → ℕ → Four
on_axis x y j = cond (eqb (j % 2) 0) x y

unfoldable pub paired : ℕ → Four → Four → ℕ → ℤ
paired left x y j = weighted (on_axis x y j) (pos (j / 2)) (pos (2 ^ left))

-- the two of its end, at t = 1
abbrev pub ending : ℕ → Four → Four → List ℤ
ending k x y = weighted x (pos (2 ^ k)) (pos (2 ^ k)) ∷ weighted y (pos (2 ^ k)) (pos (2 ^ k)) ∷ []

-- ---- what it can be drawn from

-- Controls of one axis that a span can be drawn from: whole controls of records inside the limits, so that each sum, of 2^k steps, is within its divisor d times the farthest reach.
pub record Ready (k d : ℕ) (q : Four) : Type 0 where
  pub inside : Inside widest q
  pub near : (i : ℕ) → i ≤ 2 ^ k → nat_abs (weighted q (pos i) (pos (2 ^ k))) ≤ d * far_reach

-- It holds in one way at most.
pub Ready-prop : (k d : ℕ) (q : Four) → IsProp (Ready k d q)
Ready-prop k d q r s i =
    record {
      inside = record {
        a = le_prop r.inside.a s.inside.a i;
        b = le_prop r.inside.b s.inside.b i;
        c = le_prop r.inside.c s.inside.c i;
        d = le_prop r.inside.d s.inside.d i;
      };
      near = λ j h. le_prop (r.near j h) (s.near j h) i;
    }

-- The same for halving, with `left` more cuts to make: eight times as large with each cut made.
pub record Cuttable (left d : ℕ) (q : Four) : Type 0 where
  pub inside : Inside (widest * 8 ^ (deepest - left)) q
  pub near : (i : ℕ) → i < 2 ^ left → nat_abs (weighted q (pos i) (pos (2 ^ left))) ≤ d * far_reach

-- A list of controls that a plan's spans can be drawn from: the parameter is one that is offered, and each span's four records are in the list and inside the limits.
pub record Drawable (p : Plan) (controls : List ℤ) : Type 0 where
  pub few : p.spans ≤ most_records
  pub offered : parameter_of p.basis ≤ most_parameter
  pub round : RunsRound p.basis p.spans
  pub held : (s : ℕ) → s < p.spans → Holds p.basis s (length controls)
  pub inside : (s axis : ℕ) → s < p.spans → axis < 2 → Inside limit (records p.basis s (coordinate controls axis))

-- It holds in one way at most.
runs_round-prop : (b : Basis) (m : ℕ) → IsProp (RunsRound b m)
runs_round-prop Bezier m = Unit-prop
runs_round-prop BSpline m = Unit-prop
runs_round-prop (Cardinal c) m = Unit-prop
runs_round-prop Hermite m = Unit-prop
runs_round-prop (Loop n) m = hlevel (le_prop, ℕ_set)

pub Drawable-prop : (p : Plan) (controls : List ℤ) → IsProp (Drawable p controls)
Drawable-prop p controls = hlevel (le_prop, ℕ_set, runs_round-prop)

-- A place of the point where the first and the last span of a loop meet: the list's start, and again past its last span.
abbrev pub Joint : Plan → ℕ → Type 0
Joint p at = (is_loop p.basis ≡ true) × ((at ≡ 0) ⊎ (at ≡ p.spans * per_span p.depth))
