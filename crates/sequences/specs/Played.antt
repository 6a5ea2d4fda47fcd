-- Edits one after another: what a caller holds between two calls, and what is left of it after a list of calls, by the reading of one call.
use Rattle.std.specs.Prelude.{List, [], ◌∷◌, ◌≡◌, ℕ, ◌*◌, ◌≤◌, ◌<◌, ℤ, pos, get_or, length, Err, Ok, Result}
use Rattle.whole.specs.Outcome.{Outcome, outcome}
use Rattle.shape.specs.declared.Shape.{Shape}
use Rattle.shape.specs.Refusals.{plan_of}
use Rattle.spans.specs.Numbers.{number}
use Rattle.outline.specs.Outline.{points, figures_of, draws}
use Rattle.asked.specs.declared.Edit.{Edit}
use Rattle.edit.specs.Reading.{edits}
use Rattle.edit.specs.declared.Change.{Change}
use Rattle.shape.specs.declared.Refusal.{Refusal}

-- The shape as the last answer gave it, and the two lent lists.
pub record State : Type 0 where
  pub shape : Shape
  pub controls : List ℤ
  pub held : List ℤ

abbrev pub state : Shape → List ℤ → List ℤ → State
state s controls held = record { shape = s; controls = controls; held = held }

pub record Call : Type 0 where
  pub edit : Edit
  pub place : ℕ

-- An edit that is done gives a new shape, a refused one leaves the old.
abbrev pub shape_then : Shape → Result Change Refusal → Shape
shape_then s (Ok c) = c.shape
shape_then s (Err r) = s

abbrev pub state_then : Shape → Outcome (Result Change Refusal) (List ℤ × List ℤ) → State
state_then s o = state (shape_then s o.answer) o.held.0 o.held.1

-- What a call comes to on a state, and the state that it leaves.
abbrev pub answered : State → Call → Outcome (Result Change Refusal) (List ℤ × List ℤ)
answered t c = edits c.edit t.shape c.place t.controls t.held

unfoldable pub called : State → Call → State
called t c = state_then t.shape (answered t c)

unfoldable pub played : State → List Call → State
played t [] = t
played t (c ∷ calls) = played (called t c) calls

-- The list of points begins with all numbers of the outline of the controls.
pub record Outlined (t : State) : Type 0 where
  pub room : 2 * points (plan_of t.shape) ≤ length t.held
  pub holds : (q : ℕ) → q < 2 * points (plan_of t.shape) → get_or t.held q (pos 0) ≡ number (plan_of t.shape) t.controls q

-- Drawing the controls again is done, and changes nothing.
abbrev pub Redraws : State → Type 0
Redraws t = draws t.shape t.controls t.held ≡ outcome (Ok (figures_of (plan_of t.shape) t.controls)) t.held
