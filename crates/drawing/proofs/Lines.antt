-- The edge that an accepted Line adds is straight: the four records of its span are A, A, B, B, since A was the last record and A, B, B are written after it.
use Rattle.std.specs.Prelude.{Ok}
use mathlib.Core.Path.{◌≡◌, sym, ◌∙◌, subst}
use mathlib.Core.List.{List}
use Prim.Native.Nat.{ℕ, ◌+◌, ◌*◌, ◌-◌}
use native.Mathlib.Omega.{arith}
use lib.Ieee.{Float}
use lib.IntN.{ℤ}
use lib.Seq.{sets}
use Rattle.whole.specs.Outcome.{outcome}
use Rattle.drawing.specs.declared.State.{State}
use Rattle.drawing.specs.declared.Step.{Step}
use Rattle.drawing.specs.declared.Step.TheVariants.{Line}
use Rattle.drawing.specs.Drawing.{at, line, added, flat}
use Rattle.drawing.specs.Reading.{stepped}
use Rattle.drawing.specs.Sequences.{Held, Sound, record_at}
use Rattle.drawing.proofs.Exactly.{next-none, none-next}
use Rattle.drawing.proofs.Tables.{fine-begun}
use Rattle.drawing.proofs.Records.{sets_below, sets-at}
use Rattle.drawing.proofs.Sequences.{fine, spacious}

-- the list that a step leaves with a next state
pub next-list : (s : State) (step : Step) (l : List ℤ) (t : State) (m : List ℤ) → stepped s step l ≡ outcome (Ok t) m → sets l (2 * s.count) (flat (added s step)) ≡ m
next-list s step l t m e = λ i. ((sym (none-next s step l (next-none s step l t m e)) ∙ e) i).held

module _ (h : Held) (k : Sound h) (x y : Float) (t : State) (m : List ℤ) (e : stepped h.state (Line x y) h.controls ≡ outcome (Ok t) m) where
  pub straight :
      (record_at m (h.state.count - 1) ≡ h.state.current)
      × (record_at m h.state.count ≡ h.state.current)
      × (record_at m (h.state.count + 1) ≡ at x y)
      × (record_at m (h.state.count + 2) ≡ at x y)
  unfolding added
  straight =
      let s = h.state in
      let n = s.count in
      let l = h.controls in
      let cs = line s.current (at x y) in
      let free = next-none s (Line x y) l t m e in
      let begun = fine-begun s (fine h k (Line x y) free) in
      let room = (spacious h k (Line x y) free).1 in
      let is = next-list s (Line x y) l t m e in
      let first : n + 0 ≡ n = omega arith in (
        subst (λ w. record_at w (n - 1) ≡ s.current) is (sets_below cs l n (n - 1) (omega arith) ∙ k.current begun),
        subst (λ w. record_at w n ≡ s.current) is (subst (λ (r : ℕ). record_at (sets l (2 * n) (flat cs)) r ≡ s.current) first (sets-at cs l n room 0 s.current (omega arith))),
        subst (λ w. record_at w (n + 1) ≡ at x y) is (sets-at cs l n room 1 s.current (omega arith)),
        subst (λ w. record_at w (n + 2) ≡ at x y) is (sets-at cs l n room 2 s.current (omega arith)),
      )
