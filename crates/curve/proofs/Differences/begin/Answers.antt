-- Every sum fits by the bounds of controls and steps, and the four are those of the definition: identities in the controls and the steps, here the variable i.
use mathlib.Core.Path.{◌≡◌, ◌∙◌}
use Prim.Native.Nat.{◌^◌, ◌≤◌}
use lib.Dec.{T}
use lib.IntN.{ℤ, nat_abs}
use mir.Syntax.{w64}
use Rattle.whole.proofs.Ring.{Ex, ◌⊕◌, ◌⊖◌, ◌⊗◌, ev, Same, solve}
use Rattle.whole.proofs.Fit.{Need, raw, safe}
use Rattle.curve.specs.declared.Four.{Four}
use Rattle.curve.specs.Four.{dot}
use Rattle.curve.specs.Published.{bezier_matrix}
use Rattle.curve.specs.Limits.{Inside}
use Rattle.curve.specs.Inner.{widest}
use Rattle.curve.specs.Ways.{deepest, differences}
use Rattle.curve.proofs.Reflect.{num, p, i, litᵉ, dotᵉ}
use Rattle.curve.proofs.Machine.{numbers, bounds, asked, worked}
use Rattle.curve.proofs.Differences.begin.Goals as goal

abbrev cubed : Ex
cubed = p.d ⊖ p.a ⊕ num 3 ⊗ (p.b ⊖ p.c)

abbrev squared : Ex
squared = num 3 ⊗ (p.a ⊖ num 2 ⊗ p.b ⊕ p.c)

abbrev single : Ex
single = num 3 ⊗ (p.b ⊖ p.a)

abbrev first : Ex
first = (single ⊗ i ⊕ squared) ⊗ i ⊕ cubed

abbrev second : Ex
second = num 6 ⊗ cubed ⊕ num 2 ⊗ squared ⊗ i

fits : (q : Four) (steps : ℤ) → Inside widest q → nat_abs steps ≤ 2 ^ deepest → (e : Ex) → T (safe w64 (bounds widest (2 ^ deepest)) e) → Need w64 (numbers q steps) e
fits q steps inside few = asked widest (2 ^ deepest) q inside steps few

-- an expression that the code works, equal to the definition's
is : (q : Four) (steps : ℤ) → Inside widest q → nat_abs steps ≤ 2 ^ deepest
    → (e f : Ex) → T (safe w64 (bounds widest (2 ^ deepest)) e) → Same e f → raw w64 (numbers q steps) e ≡ ev (numbers q steps) f
is q steps inside few e f t same = worked widest (2 ^ deepest) q inside steps few e t ∙ solve (numbers q steps) e f same

pub overflow_add-cubed : goal.overflow_add-cubed
overflow_add-cubed c = fits c.args.q c.args.steps c.requires.inside c.requires.steps_bound (cubed) tt

pub overflow_mul-result : goal.overflow_mul-result
overflow_mul-result c = fits c.args.q c.args.steps c.requires.inside c.requires.steps_bound (p.a ⊗ i) tt

pub overflow_mul-result-2 : goal.overflow_mul-result-2
overflow_mul-result-2 c = fits c.args.q c.args.steps c.requires.inside c.requires.steps_bound (p.a ⊗ i ⊗ i) tt

pub overflow_mul-result-3 : goal.overflow_mul-result-3
overflow_mul-result-3 c = fits c.args.q c.args.steps c.requires.inside c.requires.steps_bound (p.a ⊗ i ⊗ i ⊗ i) tt

pub overflow_mul-result-4 : goal.overflow_mul-result-4
overflow_mul-result-4 c = fits c.args.q c.args.steps c.requires.inside c.requires.steps_bound (single ⊗ i) tt

pub overflow_add-result : goal.overflow_add-result
overflow_add-result c = fits c.args.q c.args.steps c.requires.inside c.requires.steps_bound (single ⊗ i ⊕ squared) tt

pub overflow_mul-result-5 : goal.overflow_mul-result-5
overflow_mul-result-5 c = fits c.args.q c.args.steps c.requires.inside c.requires.steps_bound ((single ⊗ i ⊕ squared) ⊗ i) tt

pub overflow_add-result-2 : goal.overflow_add-result-2
overflow_add-result-2 c = fits c.args.q c.args.steps c.requires.inside c.requires.steps_bound (first) tt

pub overflow_mul-result-6 : goal.overflow_mul-result-6
overflow_mul-result-6 c = fits c.args.q c.args.steps c.requires.inside c.requires.steps_bound (num 6 ⊗ cubed) tt

pub overflow_mul-result-7 : goal.overflow_mul-result-7
overflow_mul-result-7 c = fits c.args.q c.args.steps c.requires.inside c.requires.steps_bound (num 2 ⊗ squared) tt

pub overflow_mul-result-8 : goal.overflow_mul-result-8
overflow_mul-result-8 c = fits c.args.q c.args.steps c.requires.inside c.requires.steps_bound (num 2 ⊗ squared ⊗ i) tt

pub overflow_add-result-3 : goal.overflow_add-result-3
overflow_add-result-3 c = fits c.args.q c.args.steps c.requires.inside c.requires.steps_bound (second) tt

pub overflow_mul-result-9 : goal.overflow_mul-result-9
overflow_mul-result-9 c = fits c.args.q c.args.steps c.requires.inside c.requires.steps_bound (num 6 ⊗ cubed) tt

pub returns : goal.returns
unfolding differences dot
returns c =
    let a = dotᵉ (litᵉ bezier_matrix.cubed) p in
    let b = dotᵉ (litᵉ bezier_matrix.squared) p in
    let l = dotᵉ (litᵉ bezier_matrix.single) p in
    let is = is c.args.q c.args.steps c.requires.inside c.requires.steps_bound in
    λ k.
    record {
      value = is (p.a ⊗ i ⊗ i ⊗ i) (p.a ⊗ i ⊗ i ⊗ i) tt tt k;
      first = is first (a ⊕ b ⊗ i ⊕ l ⊗ i ⊗ i) tt tt k;
      second = is second (num 6 ⊗ a ⊕ num 2 ⊗ b ⊗ i) tt tt k;
      third = is (num 6 ⊗ cubed) (num 6 ⊗ a) tt tt k;
    }
