-- Drawing steps (document 01, "Preview and drawing"), one after another.
use mathlib.Core.Path.{◌≡◌}
use mathlib.Core.List.{List}
use lib.IntN.{ℤ}
use Rattle.drawing.specs.declared.State.{State}
use Rattle.drawing.specs.declared.Step.{Step}
use Rattle.drawing.specs.Reading.{stepped}
use Rattle.drawing.specs.Sequences.{Sound, begin, drawn}
use Rattle.drawing.proofs.Begun as begun
use Rattle.drawing.proofs.Sequences as drawing

-- any sequence of drawing steps, refused ones among them, leaves a sound drawing
pub sound-drawing : (l : List ℤ) (steps : List Step) → Sound (drawn (begin l) steps)
sound-drawing = drawing.sound

-- at count 0 start and current aren't looked at: whatever they are, a step comes to the same
pub start-not-looked-at : (s t : State) → s.count ≡ 0 → t.count ≡ 0 → s.closed ≡ t.closed → (step : Step) (l : List ℤ) → stepped s step l ≡ stepped t step l
start-not-looked-at = begun.nothing-drawn
