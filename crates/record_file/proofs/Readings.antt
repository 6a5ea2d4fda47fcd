-- The table of a file is read part by part: where the length and the records pass, what is left of it decides.
use Rattle.std.specs.Prelude.{Err, Ok, Result}
use mathlib.Core.Path.{◌≡◌, ◌∙◌}
use mathlib.Core.List.{List, ◌++◌}
use Prim.Native.Nat.{ℕ}
use lib.IntN.{ℤ}
use lib.ListN.{length}
use Rattle.whole.specs.Outcome.{Outcome, refuses}
use Rattle.shape.specs.declared.Refusal.{Refusal}
use Rattle.shape.specs.Refusals.{Row, judge, First, NoRow}
use Rattle.shape.proofs.Refusals.{judge-first, judge-none, judge-append, rows-first, rows_none}
use Rattle.record_file.specs.Rows.{length_rows, record_rows, later_rows, record_count, accepts, reading}
use Rattle.shape.specs.declared.Shape.{Shape}

module _ (file : List ℕ) (controls : List ℤ) where
  abbrev accepted : Outcome (Result Shape Refusal) (List ℤ)
  accepted = accepts file (record_count file) controls

  abbrev records : List Row
  records = record_rows file 0 (record_count file)

  abbrev later : List Row
  later = later_rows file (record_count file) controls

  pub length-fails : (r : Refusal) → First (length_rows (length file)) r → reading file controls ≡ refuses Err controls r
  unfolding reading
  length-fails r h = judge-append (length_rows (length file)) (records ++ later) (refuses Err controls) accepted ∙ judge-first (length_rows (length file)) (refuses Err controls) (judge (records ++ later) (refuses Err controls) accepted) r h

  length-passes : NoRow (length_rows (length file)) → reading file controls ≡ judge records (refuses Err controls) (judge later (refuses Err controls) accepted)
  unfolding reading
  length-passes h =
      judge-append (length_rows (length file)) (records ++ later) (refuses Err controls) accepted
      ∙ judge-none (length_rows (length file)) (refuses Err controls) (judge (records ++ later) (refuses Err controls) accepted) h
      ∙ judge-append records later (refuses Err controls) accepted

  pub record-fails : NoRow (length_rows (length file)) → (r : Refusal) → ◌≡◌ {A = Result (Unit {0}) Refusal} (judge records Err (Ok tt)) (Err r) → reading file controls ≡ refuses Err controls r
  record-fails h r e = length-passes h ∙ judge-first records (refuses Err controls) (judge later (refuses Err controls) accepted) r (rows-first records tt r e)

  pub records-pass : NoRow (length_rows (length file)) → ◌≡◌ {A = Result (Unit {0}) Refusal} (judge records Err (Ok tt)) (Ok tt) → reading file controls ≡ judge later (refuses Err controls) accepted
  records-pass h e = length-passes h ∙ judge-none records (refuses Err controls) (judge later (refuses Err controls) accepted) (rows_none records tt e)
