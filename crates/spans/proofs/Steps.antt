-- By differences: from step to step the state goes on as `state` does, and holds the sum of its step.
use mathlib.Core.Path.{◌≡◌, refl, sym, ap, ◌∙◌, subst}
use Prim.Native.Nat.{ℕ, ◌+◌, ◌*◌, ◌%◌, ◌^◌, ◌≤◌, ◌<◌}
use native.Mathlib.Nat.{lt_of_le_of_lt}
use native.Mathlib.Omega.{arith}
use lib.Dec.{lit<}
use lib.IntN.{pos, nat_abs}
use lib.Pow.{pow_mono}
use mir.Syntax.{w64}
use mir.Val.{to_z}
use mir.ValLaws.{to_z_pos}
use Rattle.whole.proofs.Fit.{kept, kept-is, sfits}
use Rattle.curve.specs.declared.Four.{Four}
use Rattle.curve.specs.declared.Differences.{Differences}
use Rattle.curve.specs.Inner.{Small}
use Rattle.curve.specs.Span.{weighted}
use Rattle.curve.specs.Ways.{deepest, differences, advance}
use Rattle.curve.proofs.Powers.{shift_one}
use Rattle.curve.proofs.Ways.{state, begins, advances, state-small}
use Rattle.spans.specs.Inner.{Ready}

-- the shifted 1 as a signed number
steps-is : (k : ℕ) → k ≤ deepest → to_z w64 (1 * 2 ^ k % 2 ^ 64) ≡ pos (2 ^ k)
steps-is k h = ap (to_z w64) (shift_one k (omega arith)) ∙ to_z_pos w64 (2 ^ k) (lt_of_le_of_lt (pow_mono {i = k} {j = deepest} h) (lit< tt))

pub few-steps : (k : ℕ) → k ≤ deepest → nat_abs (to_z w64 (1 * 2 ^ k % 2 ^ 64)) ≤ 2 ^ deepest
few-steps k h = subst (λ z. nat_abs z ≤ 2 ^ deepest) (sym (steps-is k h)) (pow_mono {i = k} {j = deepest} h)

-- the state at a step of a span of 2^k
abbrev pub step_state : Four → ℕ → ℕ → Differences
step_state q k i = state q (pos i) (pos (2 ^ k))

pub first-state : (q : Four) (k : ℕ) → k ≤ deepest → {s : Differences} → s ≡ differences q (to_z w64 (1 * 2 ^ k % 2 ^ 64)) → s ≡ step_state q k 0
first-state q k h e = e ∙ ap (differences q) (steps-is k h) ∙ begins q (pos (2 ^ k))

pub next-state : (q : Four) (k i : ℕ) {s t : Differences} → s ≡ step_state q k i → t ≡ advance s → t ≡ step_state q k (i + 1)
next-state q k i e f = f ∙ ap advance e ∙ advances q (pos i) (pos (2 ^ k))

pub small-state : (q : Four) (k d i : ℕ) → k ≤ deepest → Ready k d q → i < 2 ^ k → {s : Differences} → s ≡ step_state q k i → Small s
small-state q k d i h ready below e =
    let deep = pow_mono {i = k} {j = deepest} h in
    subst Small (sym e) (state-small q i (2 ^ k) ready.inside (omega arith) deep)

-- the sum that it holds, as the machine keeps it
value-is : (q : Four) (k i : ℕ) → (step_state q k i).value ≡ weighted q (pos i) (pos (2 ^ k))
unfolding state
value-is q k i = refl

pub state-sum : (q : Four) (k d i : ℕ) → k ≤ deepest → Ready k d q → i < 2 ^ k → {s : Differences} → s ≡ step_state q k i → kept w64 s.value ≡ weighted q (pos i) (pos (2 ^ k))
state-sum q k d i h ready below {s} e = kept-is w64 s.value (sfits w64 s.value (2 ^ 61) (small-state q k d i h ready below e).value tt) ∙ ap (λ (t : Differences). t.value) e ∙ value-is q k i
