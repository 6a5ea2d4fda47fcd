-- Each sum is inside 64 bits by the records' limit and the most of a parameter, and the four are the definition's.
use lib.IntN.{pos}
use Rattle.whole.proofs.Ring.{Ex, var, ◌⊕◌, ◌⊖◌, ◌⊗◌}
use Rattle.curve.specs.Published.{most_parameter}
use Rattle.curve.specs.Limits.{limit}
use Rattle.curve.specs.Span.{whole_controls}
use Rattle.curve.proofs.Reflect.{num, p}
use Rattle.curve.proofs.Machine.{asked, worked}
use Rattle.curve.proofs.records.cardinal_controls.Goals as goal

abbrev taut : Ex
taut = var 4

pub overflow_add-result : goal.overflow_add-result
overflow_add-result c = asked limit most_parameter c.args.p c.requires.1 (pos c.args.parameter) c.requires.0 (num 192 ⊗ p.b ⊕ taut ⊗ (p.c ⊖ p.a)) tt

pub overflow_mul-result-5 : goal.overflow_mul-result-5
overflow_mul-result-5 c = asked limit most_parameter c.args.p c.requires.1 (pos c.args.parameter) c.requires.0 (taut ⊗ (p.d ⊖ p.b)) tt

pub overflow_sub-result-3 : goal.overflow_sub-result-3
overflow_sub-result-3 c = asked limit most_parameter c.args.p c.requires.1 (pos c.args.parameter) c.requires.0 (num 192 ⊗ p.c ⊖ taut ⊗ (p.d ⊖ p.b)) tt

pub returns : goal.returns
unfolding whole_controls
returns c =
    let is = worked limit most_parameter c.args.p c.requires.1 (pos c.args.parameter) c.requires.0 in
    λ k. record {
      a = is (num 192 ⊗ p.b) tt k;
      b = is (num 192 ⊗ p.b ⊕ taut ⊗ (p.c ⊖ p.a)) tt k;
      c = is (num 192 ⊗ p.c ⊖ taut ⊗ (p.d ⊖ p.b)) tt k;
      d = is (num 192 ⊗ p.c) tt k;
    }
