-- A drawing small enough to be followed by computation alone: Move, Line and Close, and a step that is refused after them.
use mathlib.Core.Path.{◌≡◌, refl}
use mathlib.Core.Bool.{true, false}
use mathlib.Core.List.{List, [], ◌∷◌}
use lib.IntN.{pos, negsuc}
use lib.Ieee.{Float, fin}
use lib.ListN.{replicate}
use Rattle.whole.specs.Nearest.{half_up, nearest}
use Rattle.doubles.specs.Number.{within, measure}
use Rattle.shape.specs.Refusals.{judge}
use Rattle.drawing.specs.declared.Step.{Step}
use Rattle.drawing.specs.declared.Step.TheVariants.{Move, Line, Close}
use Rattle.drawing.specs.Drawing.{added}
use Rattle.drawing.specs.Reading.{reached, miscounted, astray, out_of_turn, stepped}
use Rattle.drawing.specs.Sequences.{Held, begin, drawn}

-- 0 mm and 0.0625 mm, which is 63 micrometres
abbrev nought : Float
nought = fin false 0 (pos 0)

abbrev sixteenth : Float
sixteenth = fin false 1 (negsuc 3)

-- from A, (63, 0), to B, (0, 63), and back to A, into a list of 16 numbers that holds -5 throughout; the Line after Close adds nothing
abbrev steps : List Step
steps = Move sixteenth nought ∷ Line nought sixteenth ∷ Close ∷ Line nought nought ∷ []

abbrev there_and_back : Held
there_and_back =
    record {
      state = record { count = 7; start = record { x = pos 63; y = pos 0 }; current = record { x = pos 63; y = pos 0 }; closed = true };
      controls = pos 63 ∷ pos 0 ∷ pos 63 ∷ pos 0 ∷ pos 0 ∷ pos 63 ∷ pos 0 ∷ pos 63 ∷ pos 0 ∷ pos 63 ∷ pos 63 ∷ pos 0 ∷ pos 63 ∷ pos 0 ∷ negsuc 4 ∷ negsuc 4 ∷ [];
    }

pub drawn-there-and-back : drawn (begin (replicate 16 (negsuc 4))) steps ≡ there_and_back
unfolding drawn stepped judge reached miscounted astray out_of_turn added measure within nearest half_up
drawn-there-and-back = refl
