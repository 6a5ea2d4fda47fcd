-- Eight times a bound of 2^59 is inside 64 bits, and the four are the definition's.
use Prim.Native.Nat.{◌^◌}
use native.Mathlib.Nat.{le_refl}
use lib.IntN.{pos}
use Rattle.whole.proofs.Ring.{Ex, ◌⊕◌, ◌⊗◌}
use Rattle.curve.specs.Ways.{right_half}
use Rattle.curve.proofs.Reflect.{num, p}
use Rattle.curve.proofs.Machine.{asked, worked}
use Rattle.curve.proofs.Four.right_half.Goals as goal

abbrev m : Ex
m = p.a ⊕ p.b

abbrev n : Ex
n = p.b ⊕ p.c

abbrev o : Ex
o = p.c ⊕ p.d

pub overflow_add-result-3 : goal.overflow_add-result-3
overflow_add-result-3 c = asked (2 ^ 59) 0 c.args.self c.requires (pos 0) (le_refl 0) (m ⊕ n ⊕ (n ⊕ o)) tt

pub returns : goal.returns
unfolding right_half
returns c =
    let is = worked (2 ^ 59) 0 c.args.self c.requires (pos 0) (le_refl 0) in
    λ k. record { a = is (m ⊕ n ⊕ (n ⊕ o)) tt k; b = is (num 2 ⊗ (n ⊕ o)) tt k; c = is (num 4 ⊗ o) tt k; d = is (num 8 ⊗ p.d) tt k }
