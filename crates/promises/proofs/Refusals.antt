-- Demand 1, for each kind of call: a refusal's number and place are given exactly when its row is the first of the call's table that holds, and then every lent list, and of a
-- step the state, is as it came; 0 is given exactly when no row holds, and then come the call's values and what it writes; one of the two happens (`shape/specs/Exactly`).
-- Each call's contract says that what came out is its reading (`draws`, `edits`, ..), for every input; `told` is the paper's number and values of its answer.
use mathlib.Core.List.{List}
use Prim.Native.Nat.{ℕ}
use lib.IntN.{ℤ}
use lib.Ieee.{Float}
use lib.ListN.{length}
use Rattle.shape.specs.declared.Shape.{Shape}
use Rattle.shape.specs.Refusals.{plan_of}
use Rattle.shape.specs.Exactly.{values, Exactly}
use Rattle.outline.specs.Outline as outline
use Rattle.outline.proofs.Exactly as outline-exactly
use Rattle.tolerance.specs.Reading as tolerance
use Rattle.tolerance.proofs.Exactly as tolerance-exactly
use Rattle.asked.specs.declared.Edit.{Edit}
use Rattle.edit.specs.Reading as edit
use Rattle.edit.proofs.Exactly as edit-exactly
use Rattle.preview.specs.Preview as preview
use Rattle.preview.proofs.Exactly as preview-exactly
use Rattle.drawing.specs.declared.State.{State}
use Rattle.drawing.specs.declared.Step.{Step}
use Rattle.drawing.specs.Reading as steps
use Rattle.drawing.proofs.Exactly as steps-exactly
use Rattle.record_file.specs.Rows as file
use Rattle.record_file.proofs.Exactly as file-exactly

-- drawing, by whichever way: the number of points, how many coordinates are exact, and all points in the lent list
pub drawing : (s : Shape) (controls lent : List ℤ) →
    let out = outline.draws s controls lent in
    let done = outline.accepts (plan_of s) controls lent in
    Exactly (outline.draw_rows s controls lent) (outline.told out.answer) lent out.held (values (outline.told done.answer)) done.held
drawing = outline-exactly.exactly

-- drawing by tolerance: the number of points, the number of cuts, how many coordinates are exact, and the chosen points in the lent list
pub choosing : (s : Shape) (t most : ℕ) (controls lent : List ℤ) →
    let out = tolerance.chooses s t most controls lent in
    let done = tolerance.accepts (plan_of s) t controls lent in
    Exactly (tolerance.choose_rows s t most controls lent) (tolerance.told out.answer) lent out.held (values (tolerance.told done.answer)) done.held
choosing = tolerance-exactly.exactly

-- an edit: the new shape, the first span worked afresh, how many and how many of their coordinates are exact, and both lent lists
pub editing : (e : Edit) (s : Shape) (j : ℕ) (controls lent : List ℤ) →
    let out = edit.edits e s j controls lent in
    let done = edit.accepts e s (plan_of (edit.shape_after e s)) j controls lent in
    Exactly (edit-exactly.call_rows e s j controls lent) (edit.told out.answer) (controls, lent) out.held (values (edit.told done.answer)) done.held
editing = edit-exactly.exactly

-- the preview: the number of points, and all points in the lent list
pub previewing : (s : Shape) (controls : List ℤ) (lent : List Float) →
    let out = preview.previewing s controls lent in
    let done = preview.accepts (plan_of s) controls lent in
    Exactly (preview.preview_rows s controls (length lent)) (preview.told out.answer) lent out.held (values (preview.told done.answer)) done.held
previewing = preview-exactly.exactly

-- a drawing step: the next state, and the lent controls; the state too is as it was on a refusal
pub stepping : (s : State) (step : Step) (controls : List ℤ) →
    let out = steps.stepped s step controls in
    let done = steps.accepts s step controls in
    Exactly {L = State × List ℤ} (steps.rows s step controls) (steps.told out.answer) (s, controls) (steps.state_after s out.answer, out.held) (values (steps.told done.answer)) (steps.state_after s done.answer, done.held)
stepping = steps-exactly.exactly

-- reading a record file: its shape, and the lent controls
pub reading : (bytes : List ℕ) (controls : List ℤ) →
    let out = file.reading bytes controls in
    let done = file.accepts bytes (file.record_count bytes) controls in
    Exactly (file.file_rows bytes controls) (file.told out.answer) controls out.held (values (file.told done.answer)) done.held
reading = file-exactly.exactly
