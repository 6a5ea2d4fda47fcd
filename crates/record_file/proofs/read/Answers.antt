-- Each return is where a row is the first that holds, or where what is left of the table is the callee's.
use Rattle.std.specs.Prelude.{Err, Ok, Result}
use Rattle.std.specs.List.{concat}
use Rattle.std.specs.Simd.{first_chunks}
use Rattle.std.proofs.Common.{rules, ◌≡◌, ◌∙◌, refl, sym, ap, List, ℕ, length, true, false, ◌/◌, ◌%◌, ◌≤◌, ◌<◌, arith}
use Rattle.std.specs.Prelude.{◌||◌, eqb, ltb}
use mathlib.Core.Logic.{inl, inr}
use borrow.Author.Tests.{eqb-true, lt-ltb, le-ltb}
use Rattle.std.proofs.Math.Bool.{or-true}
use Rattle.whole.specs.Outcome.{refuses}
use Rattle.shape.specs.declared.Refusal.{Refusal}
use Rattle.shape.specs.Refusals.{judge, NoRow}
use Rattle.record_file.specs.Rows.{most_bytes, length_rows, record_rows, later_rows, accepts}
use Rattle.record_file.proofs.Bytes.{chunks-joined}
use Rattle.record_file.proofs.Readings.{length-fails, record-fails, records-pass}
use Rattle.record_file.proofs.read.Goals as goal
use Rattle.record_file.proofs.read.Goals.{then-is_empty-via-then-is_empty, then-is_empty-via-else-is_empty+then-file-gt-MOST_BYTES}

-- ---- rows 3 and 13, of a file of n bytes

long : (n : ℕ) → most_bytes < n → (eqb n 0 || ltb most_bytes n) ≡ true
long n h = rw (lt-ltb most_bytes n h) (or-true (eqb n 0))

fair : (n : ℕ) → eqb n 0 ≡ false → n ≤ most_bytes → (eqb n 0 || ltb most_bytes n) ≡ false
fair n e h = rw (e, le-ltb most_bytes n h)

passed : (n : ℕ) → eqb n 0 ≡ false → n ≤ most_bytes → eqb (n % 12) 0 ≡ true → NoRow (length_rows n)
passed n e h whole = (fair n e h, (rw whole, tt))

-- ---- the records of a file that is whole

module _ (file : List ℕ) (rs : List (List ℕ)) (front : rs ≡ first_chunks 12 (length file / 12) file) (whole : eqb (length file % 12) 0 ≡ true) where
  joined : concat rs ≡ file
  joined =
      let none : length file % 12 ≡ 0 = eqb-true (length file % 12) 0 whole in
      ap concat front ∙ chunks-joined (length file / 12) file (omega arith)

pub returns-then-is_empty : goal.returns-then-is_empty
returns-then-is_empty c =
    let n = length c.args.file.now in
    let holds : (eqb n 0 || ltb most_bytes n) ≡ true = elim c.then-is_empty.branch [
      | then-is_empty-via-then-is_empty w ↦ rw (sym c.is_empty.ensures ∙ w.if-is_empty.true)
      | then-is_empty-via-else-is_empty+then-file-gt-MOST_BYTES w ↦ long n w.if-file-gt-MOST_BYTES.true
    ] in
    rw c.into.ensures (sym (length-fails c.args.file.now c.args.controls.now (record { number = 3; place = 0 }) (inl (holds, refl))))

pub returns-then-not-is_empty : goal.returns-then-not-is_empty
returns-then-not-is_empty c =
    let n = length c.args.file.now in
    let some : eqb (n % 12) 0 ≡ false = ap (λ m. eqb m 0) (sym c.as_chunks.ensures.back_len) ∙ sym c.is_empty-2.ensures ∙ c.if-not-is_empty.true in
    rw c.into-then-not-is_empty.ensures
    (sym
    (length-fails c.args.file.now c.args.controls.now (record { number = 13; place = 0 })
    (inr (fair n (sym c.is_empty.ensures ∙ c.if-is_empty.false) c.if-file-gt-MOST_BYTES.false, inl (rw some, refl)))))

pub returns-in_err-check_records : goal.returns-in_err-check_records
returns-in_err-check_records c =
    let file = c.args.file.now in
    let n = length file in
    let r = c.in_err-check_records.field-0.0 in
    let out : c.from_residual.result ≡ Err r = search rules in
    let whole : eqb (n % 12) 0 ≡ true = ap (λ m. eqb m 0) (sym c.as_chunks.ensures.back_len) ∙ sym c.is_empty-2.ensures ∙ c.if-not-is_empty.false in
    let is = joined file c.as_chunks.result.0.now c.as_chunks.ensures.front whole in
    let checked = sym (c.check_records.ensures ∙ (λ k. judge {A = Result (Unit {0}) Refusal} (record_rows (is k) 0 (c.as_chunks.ensures.front_len k)) Err (Ok tt))) ∙ c.in_err-check_records.was in
    rw out (sym (record-fails file c.args.controls.now (passed n (sym c.is_empty.ensures ∙ c.if-is_empty.false) c.if-file-gt-MOST_BYTES.false whole) r checked))

pub returns : goal.returns
returns c =
    let file = c.args.file.now in
    let l = c.args.controls.now in
    let n = length file in
    let whole : eqb (n % 12) 0 ≡ true = ap (λ m. eqb m 0) (sym c.as_chunks.ensures.back_len) ∙ sym c.is_empty-2.ensures ∙ c.if-not-is_empty.false in
    let is = joined file c.as_chunks.result.0.now c.as_chunks.ensures.front whole in
    let checked = sym (c.check_records.ensures ∙ (λ k. judge {A = Result (Unit {0}) Refusal} (record_rows (is k) 0 (c.as_chunks.ensures.front_len k)) Err (Ok tt))) ∙ c.in_ok-check_records.was in
    c.read_records.ensures
    ∙ (λ k. judge (later_rows (is k) (c.as_chunks.ensures.front_len k) l) (refuses Err l) (accepts (is k) (c.as_chunks.ensures.front_len k) l))
    ∙ sym (records-pass file l (passed n (sym c.is_empty.ensures ∙ c.if-is_empty.false) c.if-file-gt-MOST_BYTES.false whole) checked)
