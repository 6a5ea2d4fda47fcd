-- Each second difference is of the controls as the machine keeps them, which are the controls.
use mathlib.Core.Path.{◌≡◌, ◌∙◌}
use Prim.Native.Nat.{◌^◌, ◌≤◌, max}
use lib.IntN.{ℤ, pos, nat_abs, ◌+ℤ◌, ◌-ℤ◌, ◌*ℤ◌}
use mir.Syntax.{w64}
use Rattle.whole.proofs.Fit.{kept, kept-is, sfits}
use Rattle.curve.specs.Bend.{bend}
use Rattle.pieces.proofs.flat.bend_of.Goals as goal

-- a control as the machine keeps it
same : (z : ℤ) → nat_abs z ≤ 2 ^ 59 → kept w64 z ≡ z
same z h = kept-is w64 z (sfits w64 z (2 ^ 59) h tt)

pub returns : goal.returns
unfolding bend
returns c =
    let q = c.args.q in
    let a = same q.a c.requires.a in
    let b = same q.b c.requires.b in
    let d = same q.c c.requires.c in
    let e = same q.d c.requires.d in
    c.max.ensures
    ∙ (λ i. max (c.second_difference-first.ensures i) (c.second_difference-last.ensures i))
    ∙ (λ i. max (nat_abs (a i -ℤ pos 2 *ℤ b i +ℤ d i)) (nat_abs (b i -ℤ pos 2 *ℤ d i +ℤ e i)))
