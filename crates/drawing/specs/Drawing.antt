-- What a drawing step means, as document 01 has it ("Preview and drawing"): its numbers in order, the records that it adds and the state that it leaves.
-- Definitions only; nothing here asks whether the step is refused.
use Rattle.std.specs.Prelude.{Bool, true, false, cond, ◌&&◌, List, [], ◌∷◌, ◌+◌, Float, ℤ, pos, length}
use Rattle.curve.specs.Numbers.{equal}
use Rattle.doubles.specs.Number.{measure, paper}
use Rattle.drawing.specs.declared.Control.{Control}
use Rattle.drawing.specs.declared.State.{State}
use Rattle.drawing.specs.declared.Step.{Step}
use Rattle.drawing.specs.declared.Step.TheVariants.{Move, Line, Cubic, Close}

-- The state before the first step. At count 0 start and current aren't looked at.
abbrev pub empty : State
empty = record { count = 0; start = record { x = pos 0; y = pos 0 }; current = record { x = pos 0; y = pos 0 }; closed = false }

-- A step's numbers, millimetres, in order: the place of a refusal is an index into them.
abbrev pub numbers : Step → List Float
numbers (Move x y) = x ∷ y ∷ []
numbers (Line x y) = x ∷ y ∷ []
numbers (Cubic a b c d e f) = a ∷ b ∷ c ∷ d ∷ e ∷ f ∷ []
numbers Close = []

-- The control of two of them, in micrometres.
abbrev pub at : Float → Float → Control
at x y = record { x = (paper (measure x)).1; y = (paper (measure y)).1 }

-- Move alone opens a drawing.
abbrev pub opens : Step → Bool
opens (Move x y) = true
opens (Line x y) = false
opens (Cubic a b c d e f) = false
opens Close = false

-- Two controls are the same.
abbrev pub same : Control → Control → Bool
same a b = equal a.x b.x && equal a.y b.y

-- A Line from A to B adds A, B, B: with A before them the span is A, A, B, B.
abbrev pub line : Control → Control → List Control
line a b = a ∷ b ∷ b ∷ []

-- The records that a step adds.
unfoldable pub added : State → Step → List Control
added s (Move x y) = at x y ∷ []
added s (Line x y) = line s.current (at x y)
added s (Cubic a b c d e f) = at a b ∷ at c d ∷ at e f ∷ []
added s Close = cond (same s.current s.start) [] (line s.current s.start)

-- The last of them, or the old current.
abbrev pub last_of : Control → List Control → Control
last_of c [] = c
last_of c (a ∷ cs) = last_of a cs

-- Start changes at Move only.
abbrev pub start_after : State → Step → Control
start_after s (Move x y) = at x y
start_after s (Line x y) = s.start
start_after s (Cubic a b c d e f) = s.start
start_after s Close = s.start

-- Close sets closed; no other step changes it.
abbrev pub closed_after : State → Step → Bool
closed_after s (Move x y) = s.closed
closed_after s (Line x y) = s.closed
closed_after s (Cubic a b c d e f) = s.closed
closed_after s Close = true

-- The next state: the count goes up by as many as are added, and the last of them is the next current.
abbrev pub grown : State → List Control → Control → Bool → State
grown s cs start closed = record { count = s.count + length cs; start = start; current = last_of s.current cs; closed = closed }

abbrev pub next : State → Step → State
next s step = grown s (added s step) (start_after s step) (closed_after s step)

-- Records as numbers of a list, x then y.
abbrev pub flat : List Control → List ℤ
flat [] = []
flat (a ∷ cs) = a.x ∷ a.y ∷ flat cs
