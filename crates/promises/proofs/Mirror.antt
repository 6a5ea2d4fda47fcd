-- Left and right doors mirror (document 02, request 1): drawing, evenly and by tolerance, viewing, editing, drawing steps and previews of mirrored numbers come to the mirror of what they came to, refusals too.
-- Mirrored are the numbers on one axis, x or y, which are negated; `mirror` has lists of them, x then y.
use Rattle.std.specs.Prelude.{Ok, Result}
use mathlib.Core.Path.{◌≡◌, ap}
use mathlib.Core.List.{List, map}
use Prim.Native.Nat.{ℕ, ◌*◌, ◌<◌}
use lib.Ieee.{Float, nan, neg}
use lib.IntN.{ℤ, pos, neg_ℤ}
use lib.ListN.{get_or, length}
use Rattle.whole.specs.Outcome.{Outcome, outcome}
use Rattle.shape.specs.declared.Shape.{Shape}
use Rattle.shape.specs.declared.Plan.{Plan}
use Rattle.spans.specs.Numbers.{remainder_of}
use Rattle.outline.specs.declared.Figures.{Figures}
use Rattle.outline.specs.Outline.{draws}
use Rattle.outline.specs.View.{part_of, viewed}
use Rattle.tolerance.specs.Reading.{chooses}
use Rattle.asked.specs.declared.Edit.{Edit}
use Rattle.edit.specs.Reading.{edits}
use Rattle.sequences.specs.Played.{State, Call, played}
use Rattle.sequences.specs.Calls.{Way, MeetsDrawing, Ends}
use Rattle.doubles.specs.Number.{measure}
use Rattle.drawing.specs.declared.State as drawing
use Rattle.drawing.specs.declared.Step.{Step}
use Rattle.drawing.specs.Reading.{stepped}
use Rattle.drawing.specs.Sequences.{begin, drawn}
use Rattle.preview.specs.Preview.{previewing}
use Rattle.mirror.specs.Mirror.{Axis, across, mirrored, mirror, mirror_drawn, mirror_chosen, mirror_edit, mirror_edited, mirror_state, mirror_call}
use Rattle.mirror.specs.Steps.{minus_measure, mirror_step, mirror_drawing, mirror_stepped, mirror_held, opposite, mirror_previewed}
use Rattle.shape.specs.declared.Refusal.{Refusal}
use Rattle.mirror.proofs.Points as numbers
use Rattle.mirror.proofs.Drawings as drawings
use Rattle.mirror.proofs.Cuts as cut
use Rattle.mirror.proofs.Edits as edited
use Rattle.mirror.proofs.Sequences as sequences
use Rattle.mirror.proofs.Doubles as doubles
use Rattle.mirror.proofs.Steps as steps
use Rattle.mirror.proofs.Preview as previews

-- ---- drawing

-- whatever is passed: the answer is the same, and what the lent points then hold is mirrored
pub mirror-draws : (axis : Axis) (s : Shape) (controls lent : List ℤ) → draws s (mirror axis controls) (mirror axis lent) ≡ mirror_drawn axis (draws s controls lent)
mirror-draws = drawings.mirror-draws

-- so it is accepted on one side exactly when on the other, with as many points and as many coordinates exact, and refused under the same number and place
pub same_answer : (axis : Axis) (s : Shape) (controls lent : List ℤ) → (draws s (mirror axis controls) (mirror axis lent)).answer ≡ (draws s controls lent).answer
same_answer axis s controls lent = ap (λ o. o.answer) (mirror-draws axis s controls lent)

-- by tolerance the same: as many cuts and points, as many coordinates exact, or the same refusal, and the lent points are mirrored
pub mirror-chooses : (axis : Axis) (s : Shape) (tolerance most : ℕ) (controls lent : List ℤ) → chooses s tolerance most (mirror axis controls) (mirror axis lent) ≡ mirror_chosen axis (chooses s tolerance most controls lent)
mirror-chooses = cut.mirror-chooses

-- into any other list as long: all points on the axis are negated, and those on the other stay
pub mirror-points :
    (axis : Axis) (s : Shape) (controls lent : List ℤ) (fs : Figures) (held : List ℤ)
    → draws s controls lent ≡ outcome (Ok fs) held
    → (other : List ℤ)
    → length other ≡ length lent
    → (held' : List ℤ)
    × (draws s (mirror axis controls) other ≡ outcome (Ok fs) held')
    × ((q : ℕ) → q < 2 * fs.points → get_or held' q (pos 0) ≡ across neg_ℤ axis q (get_or held q (pos 0)))
mirror-points = drawings.mirror-points

-- and so are the remainders: what is left over of a number on the axis is negated, and of one on the other it is the same (document 02, request 9)
pub mirror-remainders : (axis : Axis) (p : Plan) (controls : List ℤ) (q : ℕ) → remainder_of p (mirror axis controls) q ≡ across neg_ℤ axis q (remainder_of p controls q)
mirror-remainders = numbers.remainder-mirror

-- and this is said of the code: of two drawing calls, each by whichever way
pub code-mirror-draws :
    (axis : Axis) (w v : Way) (s : Shape) (controls lent : List ℤ) (o u : Outcome (Result Figures Refusal) (List ℤ))
    → MeetsDrawing w (s, controls, lent) o
    → MeetsDrawing v (s, mirror axis controls, mirror axis lent) u
    → u ≡ mirror_drawn axis o
code-mirror-draws = drawings.code-mirror-draws

-- the view of a span of mirrored points is the mirrored view
pub mirror-view : (axis : Axis) (s : Shape) (t : ℕ) (l : List ℤ) → viewed (part_of s t (mirror axis l)) (mirror axis l) ≡ mirror axis (viewed (part_of s t l) l)
mirror-view = drawings.mirror-view

-- ---- editing

-- one edit, its new record mirrored: the same answer, and both lent lists are left mirrored
pub mirror-edits :
    (axis : Axis) (e : Edit) (s : Shape) (j : ℕ) (controls lent : List ℤ)
    → edits (mirror_edit axis e) s j (mirror axis controls) (mirror axis lent) ≡ mirror_edited axis (edits e s j controls lent)
mirror-edits = edited.mirror-edits

-- any sequence of them, refused ones among them
pub mirror-played : (axis : Axis) (t : State) (calls : List Call) → played (mirror_state axis t) (map (mirror_call axis) calls) ≡ mirror_state axis (played t calls)
mirror-played = sequences.mirror-played

-- and of the code's calls, one after another
pub code-mirror-ends :
    (axis : Axis) (t : State) (calls : List Call) (last other : State)
    → Ends t calls last
    → Ends (mirror_state axis t) (map (mirror_call axis) calls) other
    → other ≡ mirror_state axis last
code-mirror-ends = sequences.code-mirror-ends

-- ---- drawing numbers and steps

-- a drawing number and its negative mean a whole number and its negative, or are refused alike
pub minus-measure : (x : Float) → measure (neg x) ≡ minus_measure (measure x)
minus-measure = doubles.minus-measure

-- one step of mirrored numbers, in a mirrored state
pub mirror-stepped :
    (axis : Axis) (s : drawing.State) (step : Step) (l : List ℤ) → stepped (mirror_drawing axis s) (mirror_step axis step) (mirror axis l) ≡ mirror_stepped axis (stepped s step l)
mirror-stepped = steps.mirror-stepped

-- so a drawing of mirrored steps has mirrored controls
pub mirror-begun : (axis : Axis) (l : List ℤ) (list : List Step) → drawn (begin (mirror axis l)) (map (mirror_step axis) list) ≡ mirror_held axis (drawn (begin l) list)
mirror-begun = steps.mirror-begun

-- ---- the preview, zero staying +0

-- whatever is passed
pub mirror-previewing :
    (axis : Axis) (s : Shape) (controls : List ℤ) (lent : List Float) → previewing s (mirror axis controls) (mirrored opposite axis lent) ≡ mirror_previewed axis (previewing s controls lent)
mirror-previewing = previews.mirror-previewing

-- into any other list as long: all points on the axis are the opposite ones, and those on the other stay
pub mirror-preview-points :
    (axis : Axis) (s : Shape) (controls : List ℤ) (lent : List Float) (n : ℕ) (l : List Float)
    → previewing s controls lent ≡ outcome (Ok n) l
    → (other : List Float)
    → length other ≡ length lent
    → (l' : List Float)
    × (previewing s (mirror axis controls) other ≡ outcome (Ok n) l')
    × ((q : ℕ) → q < 2 * n → get_or l' q nan ≡ across opposite axis q (get_or l q nan))
mirror-preview-points = previews.mirror-preview-points
