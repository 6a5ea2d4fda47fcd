-- Lent lists: an accepted call keeps all lent numbers but those it is said to write, and no call changes a list's length. On a refusal all stay (`Refusals`).
use Rattle.std.specs.Prelude.{Ok}
use mathlib.Core.Path.{◌≡◌}
use mathlib.Core.List.{List}
use Prim.Native.Nat.{ℕ, ◌*◌}
use lib.IntN.{ℤ}
use lib.Ieee.{Float}
use Rattle.whole.specs.Outcome.{outcome}
use Rattle.shape.specs.declared.Shape.{Shape}
use Rattle.shape.specs.Lists.{Keeps}
use Rattle.outline.specs.declared.Figures.{Figures}
use Rattle.outline.specs.Outline.{draws}
use Rattle.outline.proofs.Lists as outline
use Rattle.tolerance.specs.declared.Steps.{Steps}
use Rattle.tolerance.specs.Reading.{chooses}
use Rattle.tolerance.proofs.Answered as tolerance
use Rattle.preview.specs.Preview as preview
use Rattle.preview.proofs.Lists as preview-lists
use Rattle.record_file.specs.Rows as file
use Rattle.record_file.proofs.Lists as file-lists
use Rattle.drawing.specs.declared.State.{State}
use Rattle.drawing.specs.declared.Step.{Step}
use Rattle.drawing.specs.Reading as steps
use Rattle.drawing.proofs.Lists as step-lists

-- an accepted drawing keeps every number past the last point
pub drawing-keeps : (s : Shape) (controls lent : List ℤ) (fs : Figures) (held : List ℤ) → draws s controls lent ≡ outcome (Ok fs) held → Keeps 0 (2 * fs.points) lent held
drawing-keeps = outline.drawn-keeps

-- so does one by tolerance
pub choosing-keeps : (s : Shape) (t most : ℕ) (controls lent : List ℤ) (f : Steps) (held : List ℤ) → chooses s t most controls lent ≡ outcome (Ok f) held → Keeps 0 (2 * f.points) lent held
choosing-keeps = tolerance.answered-keeps

-- so does a preview
pub preview-keeps : (s : Shape) (controls : List ℤ) (lent : List Float) (n : ℕ) (held : List Float) → preview.previewing s controls lent ≡ outcome (Ok n) held → Keeps 0 (2 * n) lent held
preview-keeps = preview-lists.drawn-keeps

-- a file that is read keeps every number past the last control
pub file-keeps : (bytes : List ℕ) (controls : List ℤ) (s : Shape) (held : List ℤ) → file.reading bytes controls ≡ outcome (Ok s) held → Keeps 0 (2 * s.count) controls held
file-keeps = file-lists.read_keeps

-- a step keeps every number before the records that it adds, and every number past them
pub step_keeps : (s : State) (step : Step) (controls : List ℤ) (t : State) (held : List ℤ) → steps.stepped s step controls ≡ outcome (Ok t) held → Keeps (2 * s.count) (2 * t.count) controls held
step_keeps = step-lists.step_keeps
