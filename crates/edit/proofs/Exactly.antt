-- "Given exactly when" (document 01, "Refusal numbers"), of the edits: the law of `shape/proofs/Exactly` over the call's table.
use Rattle.std.specs.Prelude.{Err, Ok, Result}
use mathlib.Core.Path.{◌≡◌, refl, ap}
use mathlib.Core.List.{List, ◌++◌}
use Prim.Native.Nat.{ℕ}
use lib.IntN.{ℤ}
use Rattle.whole.specs.Outcome.{Outcome, outcome, refuses}
use Rattle.shape.specs.declared.Shape.{Shape}
use Rattle.shape.specs.declared.Refusal.{Refusal}
use Rattle.shape.specs.Refusals.{Row, First, NoRow, shape_rows, plan_of}
use Rattle.shape.specs.Exactly.{Told, number, values, Exactly}
use Rattle.shape.proofs.Refusals.{judge-first, judge-none}
use Rattle.shape.proofs.Exactly as any-call
use Rattle.asked.specs.declared.Edit.{Edit}
use Rattle.edit.specs.declared.Change.{Change}
use Rattle.edit.specs.Reading.{told, shape_after, edit_rows, accepts, edits}

abbrev tells : Outcome (Result Change Refusal) (List ℤ × List ℤ) → Told
tells o = told o.answer

module _ (e : Edit) (s : Shape) (j : ℕ) (controls lent : List ℤ) where
  -- the table of the call
  abbrev pub call_rows : List Row
  call_rows = shape_rows s ++ edit_rows e s (plan_of s) (plan_of (shape_after e s)) j controls lent

  abbrev done : Outcome (Result Change Refusal) (List ℤ × List ℤ)
  done = accepts e s (plan_of (shape_after e s)) j controls lent

  pub exactly : Exactly call_rows (tells (edits e s j controls lent)) (controls, lent) (edits e s j controls lent).held (values (tells done)) done.held
  unfolding edits
  exactly = any-call.exactly tells call_rows (refuses Err (controls, lent)) done (values (tells done)) (λ r. refl) refl (λ o. o.held) (controls, lent) (λ r. refl) refl

  pub first-refused : (r : Refusal) → First call_rows r → edits e s j controls lent ≡ refuses Err (controls, lent) r
  unfolding edits
  first-refused r first = judge-first call_rows (refuses Err (controls, lent)) done r first

  -- whatever is answered and whatever the lists then hold
  pub done_none : (c : Change) (new held : List ℤ) → edits e s j controls lent ≡ outcome (Ok c) (new, held) → NoRow call_rows
  done_none c new held h = exactly.accepted.0 (ap (λ o. number (tells o)) h)

  pub none_done : NoRow call_rows → edits e s j controls lent ≡ done
  unfolding edits
  none_done none = judge-none call_rows (refuses Err (controls, lent)) done none
