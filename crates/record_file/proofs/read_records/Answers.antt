-- The shape's rows decide, or leave the rest of the table to the callee.
use Rattle.std.specs.Prelude.{Err, Ok}
use Rattle.std.proofs.lemmas.List.Edits.{sets}
use Rattle.record_file.specs.Format.{numbers}
use Rattle.std.specs.List.{concat}
use Rattle.std.proofs.Common.{rules, ◌≡◌, ◌∙◌, sym, ap, length}
use Rattle.whole.specs.Outcome.{outcome, refuses}
use Rattle.shape.specs.Refusals.{judge, judge_shape}
use Rattle.shape.proofs.Refusals.{sound, unsound}
use Rattle.record_file.specs.Rows.{shape_of, list_rows, accepts}
use Rattle.record_file.proofs.Bytes.{shape-joined}
use Rattle.record_file.proofs.read_records.Goals as goal

pub returns-in_err-check_shape : goal.returns-in_err-check_shape
returns-in_err-check_shape c =
    let rs = c.args.records.now in
    let l = c.args.controls.now in
    let r = c.in_err-check_shape.field-0.0 in
    let out : c.from_residual.result ≡ Err r = search rules in
    let checked = ap judge_shape (shape-joined rs c.told-records c.requires.0) ∙ sym c.check_shape.ensures ∙ c.in_err-check_shape.was in
    rw out (sym (unsound (shape_of (concat rs) (length rs)) r checked (list_rows (concat rs) (length rs) l) (refuses Err l) (accepts (concat rs) (length rs) l)))

pub returns : goal.returns
returns c =
    let rs = c.args.records.now in
    let l = c.args.controls.now in
    let n = length rs in
    let is = shape-joined rs c.told-records c.requires.0 in
    let checked = ap judge_shape is ∙ sym c.check_shape.ensures ∙ c.in_ok-check_shape.was in
    c.read_numbers.ensures
    ∙ ap (λ s. judge (list_rows (concat rs) n l) (refuses Err l) (outcome (Ok s) (sets l 0 (numbers (concat rs) n)))) (sym is)
    ∙ sym (sound (shape_of (concat rs) n) c.in_ok-check_shape.field-0 checked (list_rows (concat rs) n l) (refuses Err l) (accepts (concat rs) n l))
