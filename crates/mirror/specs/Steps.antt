-- What is mirrored of a drawing's steps and of the preview, whose numbers are doubles (document 02, request 1; document 01, "Preview and drawing": zero is positive zero). Definitions only.
use Rattle.std.specs.Prelude.{not, cond, List, eqb, Float, ℤ, neg_ℤ, Err, Ok, Result, ℕ}
use Rattle.std.specs.Float.{nan, inf, fin}
use Rattle.std.specs.Float.Ieee.{neg}
use Rattle.whole.specs.Outcome.{Outcome, outcome}
use Rattle.drawing.specs.declared.Control.{Control}
use Rattle.drawing.specs.declared.State.{State}
use Rattle.drawing.specs.declared.Step.{Step}
use Rattle.drawing.specs.declared.Step.TheVariants.{Move, Line, Cubic, Close}
use Rattle.drawing.specs.Sequences.{Held}
use Rattle.mirror.specs.Mirror.{Axis, mirror_x, mirror_y, mirrored, mirror}
use Rattle.doubles.specs.declared.Unmeasured.{Unmeasured}
use Rattle.doubles.specs.declared.Unmeasured.TheVariants.{NotFinite, Outside}
use Rattle.shape.specs.declared.Refusal.{Refusal}

-- ---- a drawing number: the double with its sign turned, and what it means

abbrev pub minus_measure : Result ℤ Unmeasured → Result ℤ Unmeasured
minus_measure (Err NotFinite) = Err NotFinite
minus_measure (Err Outside) = Err Outside
minus_measure (Ok n) = Ok (neg_ℤ n)

-- ---- drawing steps

abbrev pub mirror_step : Axis → Step → Step
mirror_step axis (Move x y) = Move (mirror_x neg axis x) (mirror_y neg axis y)
mirror_step axis (Line x y) = Line (mirror_x neg axis x) (mirror_y neg axis y)
mirror_step axis (Cubic a b c d e f) =
    Cubic (mirror_x neg axis a) (mirror_y neg axis b) (mirror_x neg axis c) (mirror_y neg axis d) (mirror_x neg axis e) (mirror_y neg axis f)
mirror_step axis Close = Close

abbrev pub mirror_control : Axis → Control → Control
mirror_control axis c = record { x = mirror_x neg_ℤ axis c.x; y = mirror_y neg_ℤ axis c.y }

-- The state between steps.
abbrev pub mirror_drawing : Axis → State → State
mirror_drawing axis s = record { count = s.count; start = mirror_control axis s.start; current = mirror_control axis s.current; closed = s.closed }

-- What a step answers, and what it leaves in the lent controls.
abbrev pub mirror_answer : Axis → Result State Refusal → Result State Refusal
mirror_answer axis (Ok s) = Ok (mirror_drawing axis s)
mirror_answer axis (Err r) = Err r

abbrev pub mirror_stepped : Axis → Outcome (Result State Refusal) (List ℤ) → Outcome (Result State Refusal) (List ℤ)
mirror_stepped axis o = outcome (mirror_answer axis o.answer) (mirror axis o.held)

-- What a caller holds between steps.
abbrev pub mirror_held : Axis → Held → Held
mirror_held axis h = record { state = mirror_drawing axis h.state; controls = mirror axis h.controls }

-- ---- the preview

-- A double negated, where zero stays as it is.
unfoldable pub opposite : Float → Float
opposite nan = nan
opposite (inf s) = inf (not s)
opposite (fin s m e) = cond (eqb m 0) (fin s m e) (fin (not s) m e)

abbrev pub mirror_previewed : Axis → Outcome (Result ℕ Refusal) (List Float) → Outcome (Result ℕ Refusal) (List Float)
mirror_previewed axis o = outcome o.answer (mirrored opposite axis o.held)
