-- What a program in C or Rust gets of a public call: its answer as a struct of numbers, and the lent lists as it leaves them. Of an accepted call the number is 0, which is no refusal's, the place is 0, and
-- the figures are the call's; of a refusal the number and the place are its own, and each figure is 0. Definitions only.
use Rattle.std.specs.Prelude.{ℕ, Err, Ok, Result}
use Rattle.whole.specs.Outcome.{Outcome, outcome}
use Rattle.shape.specs.declared.Shape.{Shape}
use Rattle.linked.specs.declared.Drawing.{Drawing}
use Rattle.linked.specs.declared.Choosing.{Choosing}
use Rattle.linked.specs.declared.Editing.{Editing}
use Rattle.linked.specs.declared.Previewing.{Previewing}
use Rattle.edit.specs.declared.Change.{Change}
use Rattle.outline.specs.declared.Figures.{Figures}
use Rattle.shape.specs.declared.Refusal.{Refusal}
use Rattle.tolerance.specs.declared.Steps.{Steps}

-- A shape goes as its four numbers.
abbrev pub shape_of : ℕ → ℕ → ℕ → ℕ → Shape
shape_of basis depth count parameter = record { basis = basis; depth = depth; count = count; parameter = parameter }

-- The same outcome with another form of its answer.
abbrev pub answered : {A B L : Type 0} → (A → B) → Outcome A L → Outcome B L
answered form o = outcome (form o.answer) o.held

-- Of a drawing: its points, and how many of their coordinates are exact.
abbrev pub drawing_of : Result Figures Refusal → Drawing
drawing_of (Ok f) = record { number = 0; place = 0; points = f.points; exact = f.exact }
drawing_of (Err r) = record { number = r.number; place = r.place; points = 0; exact = 0 }

-- Of a drawing by tolerance: the cuts that chose its points, too.
abbrev pub choosing_of : Result Steps Refusal → Choosing
choosing_of (Ok s) = record { number = 0; place = 0; points = s.points; cuts = s.cuts; exact = s.exact }
choosing_of (Err r) = record { number = r.number; place = r.place; points = 0; cuts = 0; exact = 0 }

-- Of an edit: of the new shape the count alone, since its other three numbers are those that were passed; then the spans worked afresh, and how many coordinates of theirs are exact.
abbrev pub editing_of : Result Change Refusal → Editing
editing_of (Ok c) = record { number = 0; place = 0; count = c.shape.count; first = c.first; fresh = c.fresh; exact = c.exact }
editing_of (Err r) = record { number = r.number; place = r.place; count = 0; first = 0; fresh = 0; exact = 0 }

-- Of a preview: its points.
abbrev pub previewing_of : Result ℕ Refusal → Previewing
previewing_of (Ok n) = record { number = 0; place = 0; points = n }
previewing_of (Err r) = record { number = r.number; place = r.place; points = 0 }
