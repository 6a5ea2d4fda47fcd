-- Steps one after another, each passed what the last accepted one left, and what holds of a drawing that came about so. Definitions only.
use Rattle.std.specs.Prelude.{true, List, [], ◌∷◌, ◌≡◌, ℕ, ◌*◌, ◌-◌, ◌≤◌, ◌<◌, ℤ, nat_abs, length}
use Rattle.curve.specs.Limits.{limit}
use Rattle.curve.specs.Span.{coordinate}
use Rattle.shape.specs.declared.Shape.{Shape}
use Rattle.drawing.specs.declared.Control.{Control}
use Rattle.drawing.specs.declared.State.{State}
use Rattle.drawing.specs.declared.Step.{Step}
use Rattle.drawing.specs.Drawing.{empty}
use Rattle.drawing.specs.Reading.{reached, stepped, state_after}

-- What a caller holds between steps.
pub record Held : Type 0 where
  pub state : State
  pub controls : List ℤ

-- Before the first step, with any list of controls.
abbrev pub begin : List ℤ → Held
begin l = record { state = empty; controls = l }

-- After a step, accepted or refused: the state as the answer has it, and the list as the call left it.
abbrev pub after : Held → Step → Held
after h step =
    let out = stepped h.state step h.controls in
    record { state = state_after h.state out.answer; controls = out.held }

-- After a sequence of steps.
unfoldable pub drawn : Held → List Step → Held
drawn h [] = h
drawn h (step ∷ steps) = drawn (after h step) steps

-- Record r of a list of controls.
unfoldable pub record_at : List ℤ → ℕ → Control
record_at l r = record { x = coordinate l 0 r; y = coordinate l 1 r }

-- A control inside the limits.
pub record Inside (c : Control) : Type 0 where
  pub x : nat_abs c.x ≤ limit
  pub y : nat_abs c.y ≤ limit

-- What holds of a drawing: the count is 0, 1, 4, .., 64, and the list holds as many records, all inside the limits; start is the first of them and current the
-- last; and a closed one ends where it started.
pub record Sound (h : Held) : Type 0 where
  pub counted : reached h.state.count ≡ true
  pub room : 2 * h.state.count ≤ length h.controls
  pub start : 0 < h.state.count → record_at h.controls 0 ≡ h.state.start
  pub current : 0 < h.state.count → record_at h.controls (h.state.count - 1) ≡ h.state.current
  pub inside : (r : ℕ) → r < h.state.count → Inside (record_at h.controls r)
  pub ring : h.state.closed ≡ true → (0 < h.state.count) × (h.state.current ≡ h.state.start)

-- The shape of a drawing of n records at depth k, with any parameter c: basis 1.
abbrev pub bezier : ℕ → ℕ → ℕ → Shape
bezier k n c = record { basis = 1; depth = k; count = n; parameter = c }
