-- Four times 2^59 is inside 64 bits, so that the machine's sum is the definition's (`Fit`).
use mathlib.Core.Path.{ap, ◌∙◌}
use mathlib.Core.List.{List, [], ◌∷◌}
use Prim.Native.Nat.{ℕ, ◌^◌}
use lib.IntN.{ℤ, pos, nat_abs}
use mir.Syntax.{w64}
use Rattle.whole.proofs.Ring.{var, lit, ◌⊕◌, ◌⊖◌, ◌⊗◌}
use Rattle.whole.proofs.Fit.{exact}
use Rattle.pieces.proofs.flat.second_difference.Goals as goal

pub returns : goal.returns
returns c =
    let a = c.args in
    let most : List ℕ = 2 ^ 59 ∷ 2 ^ 59 ∷ 2 ^ 59 ∷ [] in
    c.unsigned_abs.ensures.value
    ∙ ap nat_abs (exact w64 (a.a ∷ a.b ∷ a.c ∷ []) most (c.requires.0, (c.requires.1, (c.requires.2, tt))) (var 0 ⊖ lit (pos 2) ⊗ var 1 ⊕ var 2) tt)
