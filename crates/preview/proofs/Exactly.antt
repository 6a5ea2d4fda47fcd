-- "Given exactly when" (document 01, "Refusal numbers"), of the preview: the law of `shape/proofs/Exactly` over the call's table.
use Rattle.std.specs.Prelude.{Err, Ok, Result}
use mathlib.Core.Path.{◌≡◌, refl, ap}
use mathlib.Core.List.{List}
use Prim.Native.Nat.{ℕ}
use lib.IntN.{ℤ}
use lib.Ieee.{Float}
use lib.ListN.{length}
use Rattle.whole.specs.Outcome.{Outcome, outcome, refuses}
use Rattle.shape.specs.declared.Shape.{Shape}
use Rattle.shape.specs.Refusals.{Row, NoRow, plan_of}
use Rattle.shape.specs.Exactly.{Told, number, values, Exactly}
use Rattle.shape.proofs.Refusals.{judge-none}
use Rattle.shape.proofs.Exactly as any-call
use Rattle.preview.specs.Preview.{told, preview_rows, accepts, previewing}
use Rattle.shape.specs.declared.Refusal.{Refusal}

abbrev tells : Outcome (Result ℕ Refusal) (List Float) → Told
tells o = told o.answer

module _ (s : Shape) (controls : List ℤ) (points : List Float) where
  abbrev rows : List Row
  rows = preview_rows s controls (length points)

  abbrev done : Outcome (Result ℕ Refusal) (List Float)
  done = accepts (plan_of s) controls points

  pub exactly : Exactly rows (tells (previewing s controls points)) points (previewing s controls points).held (values (tells done)) done.held
  unfolding previewing
  exactly = any-call.exactly tells rows (refuses Err points) done (values (tells done)) (λ r. refl) refl (λ o. o.held) points (λ r. refl) refl

  -- whatever number of points is answered and whatever the list then holds
  pub drawn-none : (n : ℕ) (held : List Float) → previewing s controls points ≡ outcome (Ok n) held → NoRow rows
  drawn-none n held e = exactly.accepted.0 (ap (λ o. number (tells o)) e)

  pub none-drawn : NoRow rows → previewing s controls points ≡ done
  unfolding previewing
  none-drawn none = judge-none rows (refuses Err points) done none
