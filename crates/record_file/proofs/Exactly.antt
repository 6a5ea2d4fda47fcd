-- "Given exactly when" (document 01, "Refusal numbers"), of reading a file: the law of `shape/proofs/Exactly` over the file's table.
use Rattle.std.specs.Prelude.{Err, Ok, Result}
use mathlib.Core.Path.{◌≡◌, refl, ap}
use mathlib.Core.Bool.{true}
use mathlib.Core.List.{List}
use Prim.Native.Nat.{ℕ, zero, suc}
use lib.IntN.{ℤ}
use Rattle.whole.specs.Outcome.{Outcome, outcome, refuses}
use Rattle.shape.specs.declared.Shape.{Shape}
use Rattle.shape.specs.declared.Refusal.{Refusal}
use Rattle.shape.specs.Refusals.{First, NoRow}
use Rattle.shape.specs.Exactly.{Told, number, values, Exactly}
use Rattle.shape.proofs.Refusals.{judge-first, judge-none}
use Rattle.shape.proofs.Exactly as any-call
use Rattle.shape.proofs.Exactly.{numbered, numbered-append}
use Rattle.record_file.specs.Rows.{record_count, record_rows, later_rows, file_rows, told, accepts, reading}

abbrev tells : Outcome (Result Shape Refusal) (List ℤ) → Told
tells o = told o.answer

records-numbered : (file : List ℕ) (r n : ℕ) → numbered (record_rows file r n) ≡ true
unfolding record_rows
records-numbered file r zero = refl
records-numbered file r (suc n) = records-numbered file (suc r) n

module _ (file : List ℕ) (controls : List ℤ) where
  abbrev done : Outcome (Result Shape Refusal) (List ℤ)
  done = accepts file (record_count file) controls

  pub exactly : Exactly (file_rows file controls) (tells (reading file controls)) controls (reading file controls).held (values (tells done)) done.held
  unfolding reading
  exactly =
      any-call.exactly tells (file_rows file controls) (refuses Err controls) done (values (tells done)) (λ r. refl) refl (λ o. o.held) controls (λ r. refl)
      (numbered-append (record_rows file 0 (record_count file)) (later_rows file (record_count file) controls) (records-numbered file 0 (record_count file)) refl)

  pub first-refused : (r : Refusal) → First (file_rows file controls) r → reading file controls ≡ refuses Err controls r
  unfolding reading
  first-refused r first = judge-first (file_rows file controls) (refuses Err controls) done r first

  -- whatever shape is answered and whatever the list then holds
  pub read_none : (s : Shape) (held : List ℤ) → reading file controls ≡ outcome (Ok s) held → NoRow (file_rows file controls)
  read_none s held e = exactly.accepted.0 (ap (λ o. number (tells o)) e)

  pub none_read : NoRow (file_rows file controls) → reading file controls ≡ done
  unfolding reading
  none_read none = judge-none (file_rows file controls) (refuses Err controls) done none
