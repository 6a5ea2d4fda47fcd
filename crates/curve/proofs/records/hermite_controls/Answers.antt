-- Each sum is inside 64 bits by the records' limit, and the four are the definition's.
use native.Mathlib.Nat.{le_refl}
use lib.IntN.{pos}
use Rattle.whole.proofs.Ring.{◌⊕◌, ◌⊖◌, ◌⊗◌}
use Rattle.curve.specs.Limits.{limit}
use Rattle.curve.specs.Span.{whole_controls}
use Rattle.curve.proofs.Reflect.{num, p}
use Rattle.curve.proofs.Machine.{worked}
use Rattle.curve.proofs.records.hermite_controls.Goals as goal

pub returns : goal.returns
unfolding whole_controls
returns c =
    let is = worked limit 0 c.args.p c.requires (pos 0) (le_refl 0) in
    λ k. record { a = is (num 6 ⊗ p.a) tt k; b = is (num 6 ⊗ p.a ⊕ num 2 ⊗ p.b) tt k; c = is (num 6 ⊗ p.c ⊖ num 2 ⊗ p.d) tt k; d = is (num 6 ⊗ p.c) tt k }
