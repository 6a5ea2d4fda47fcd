-- Edits one after another, on a mirrored state and with their new records mirrored, leave the mirrored state.
use mathlib.Core.Path.{◌≡◌, refl, sym, ap, ◌∙◌}
use mathlib.Core.List.{List, [], ◌∷◌, map}
use Rattle.sequences.specs.Played.{State, Call, state_then, called, played}
use Rattle.sequences.specs.Calls.{Ends}
use Rattle.sequences.proofs.Calls.{ends-played}
use Rattle.mirror.specs.Mirror.{Axis, mirror_state, mirror_call}
use Rattle.mirror.proofs.Edits.{mirror-edits}

module _ (axis : Axis) where
  pub mirror-called : (t : State) (c : Call) → called (mirror_state axis t) (mirror_call axis c) ≡ mirror_state axis (called t c)
  unfolding called
  mirror-called t c = ap (state_then t.shape) (mirror-edits axis c.edit t.shape c.place t.controls t.held)

  pub mirror-played : (t : State) (calls : List Call) → played (mirror_state axis t) (map (mirror_call axis) calls) ≡ mirror_state axis (played t calls)
  unfolding played
  mirror-played t [] = refl
  mirror-played t (c ∷ calls) = ap (λ u. played u (map (mirror_call axis) calls)) (mirror-called t c) ∙ mirror-played (called t c) calls

  -- by the contracts of the code
  pub code-mirror-ends :
      (t : State) (calls : List Call) (last other : State)
      → Ends t calls last
      → Ends (mirror_state axis t) (map (mirror_call axis) calls) other
      → other ≡ mirror_state axis last
  code-mirror-ends t calls last other ends mirrored =
      ends-played (mirror_state axis t) (map (mirror_call axis) calls) other mirrored ∙ mirror-played t calls ∙ ap (mirror_state axis) (sym (ends-played t calls last ends))
