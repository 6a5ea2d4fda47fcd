-- A step writes the records that it adds from record number count on: the numbers before them and past them stay.
use Rattle.std.specs.Prelude.{Ok}
use mathlib.Core.Path.{◌≡◌, refl, sym, ◌∙◌, subst}
use mathlib.Core.List.{List, [], ◌∷◌}
use Prim.Native.Nat.{ℕ, ◌+◌, ◌*◌}
use native.Mathlib.Omega.{arith}
use lib.IntN.{ℤ}
use lib.ListN.{length}
use lib.Seq.{sets}
use Rattle.whole.specs.Outcome.{outcome}
use Rattle.shape.specs.Lists.{Keeps}
use Rattle.shape.proofs.Lists.{sets-keeps}
use Rattle.drawing.specs.declared.Control.{Control}
use Rattle.drawing.specs.declared.State.{State}
use Rattle.drawing.specs.declared.Step.{Step}
use Rattle.drawing.specs.Drawing.{added, next, flat}
use Rattle.drawing.specs.Reading.{accepts, stepped}
use Rattle.drawing.proofs.Exactly.{next-none, none-next}

length-flat : (cs : List Control) → length (flat cs) ≡ 2 * length cs
length-flat [] = refl
length-flat (c ∷ cs) = omega (arith, length-flat cs)

pub step_keeps : (s : State) (step : Step) (l : List ℤ) (t : State) (held : List ℤ) → stepped s step l ≡ outcome (Ok t) held → Keeps (2 * s.count) (2 * t.count) l held
step_keeps s step l t held e =
    let cs = added s step in
    let is : accepts s step l ≡ outcome (Ok t) held = sym (none-next s step l (next-none s step l t held e)) ∙ e in
    let answer : Ok (next s step) ≡ Ok t = λ i. (is i).answer in
    let state : next s step ≡ t = cc in
    let end : 2 * s.count + length (flat cs) ≡ 2 * (s.count + length cs) = omega (arith, length-flat cs) in
    subst (λ (u : State). Keeps (2 * s.count) (2 * u.count) l held) state
    (subst (Keeps (2 * s.count) (2 * (s.count + length cs)) l) (λ i. (is i).held)
    (subst (λ (m : ℕ). Keeps (2 * s.count) m l (sets l (2 * s.count) (flat cs))) end (sets-keeps (flat cs) l (2 * s.count))))
