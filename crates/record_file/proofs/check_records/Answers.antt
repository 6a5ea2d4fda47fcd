-- A record without a fault takes its two rows off, and one with a fault ends it.
use Rattle.std.specs.Prelude.{Err, Ok, Result}
use Rattle.std.specs.List.{concat}
use Rattle.std.proofs.Common.{rules, ◌≡◌, ◌∙◌, ap, sym, ℕ, List, [], length, get_or, ◌+◌, ◌-◌, ◌<◌, arith}
use Rattle.shape.specs.declared.Refusal.{Refusal}
use Rattle.shape.specs.Refusals.{judge}
use Rattle.shape.proofs.Refusals.{rows-bad, rows-fine}
use Rattle.record_file.specs.Rows.{record_rows}
use Rattle.record_file.specs.Inner.{rows_of}
use Rattle.record_file.proofs.Records.{next-rows, no_more}
use Rattle.record_file.proofs.check_records.Goals as goal

module _ (rs : List (List ℕ)) (w : (i : ℕ) → i < length rs → length (get_or rs i []) ≡ 12) (i : ℕ) (h : i < length rs) where
  abbrev judged : ℕ → Result (Unit {0}) Refusal
  judged j = judge (record_rows (concat rs) j (length rs - j)) Err (Ok tt)

  abbrev own : Result (Unit {0}) Refusal
  own = judge (rows_of (get_or rs i []) (get_or rs 0 []) i) Err (Ok tt)

  faulty : (r : Refusal) → own ≡ Err r → judged i ≡ Err r
  faulty r e =
      ap (λ rows. judge rows Err (Ok tt)) (next-rows rs w i h)
      ∙ rows-bad (rows_of (get_or rs i []) (get_or rs 0 []) i) tt r e (record_rows (concat rs) (i + 1) (length rs - (i + 1))) Err (Ok tt)

  faultless : own ≡ Ok tt → judged i ≡ judged (i + 1)
  faultless e =
      ap (λ rows. judge rows Err (Ok tt)) (next-rows rs w i h)
      ∙ rows-fine (rows_of (get_or rs i []) (get_or rs 0 []) i) tt e (record_rows (concat rs) (i + 1) (length rs - (i + 1))) Err (Ok tt)

pub returns-in_err-check_record : goal.returns-in_err-check_record
returns-in_err-check_record c =
    let l = c.loop-place in
    let r = c.in_err-check_record.field-0.0 in
    let out : c.from_residual.result ≡ Err r = search rules in
    out ∙ sym (faulty c.args.records.now c.told-records l.place c.loop-place-test.true r (sym c.check_record.ensures ∙ c.in_err-check_record.was)) ∙ l.invariant

pub loop-place-preserved : goal.loop-place-preserved
loop-place-preserved c =
    let l = c.loop-place in
    sym (faultless c.args.records.now c.told-records l.place c.loop-place-test.true (sym c.check_record.ensures ∙ c.in_ok-check_record.was)) ∙ l.invariant

pub returns : goal.returns
returns c =
    let rs = c.args.records.now in
    sym (no_more {A = Result (Unit {0}) Refusal} (concat rs) Err (Ok tt) c.loop-place.place (length rs) (omega arith)) ∙ c.loop-place.invariant
