-- A sound drawing of a span or more is a shape of basis 1 that the checks 1, 2, 24, 3, 7, 8 accept, whatever its parameter: its count is one more than a multiple of 3, and its records are all
-- in the list and inside the limits.
use mathlib.Core.Path.{◌≡◌, refl, ap, ◌∙◌}
use mathlib.Core.Bool.{true, false, not}
use mathlib.Core.List.{List, ◌++◌}
use mathlib.Core.Logic.{⊎_elim}
use Prim.Native.Nat.{ℕ, ◌+◌, ◌*◌, ◌-◌, ◌/◌, ◌%◌, ◌≤◌}
use native.Mathlib.Omega.{arith}
use borrow.Author.Tests.{le-ltb, eq-eqb}
use lib.IntN.{ℤ, nat_abs}
use lib.ListN.{length}
use Rattle.curve.specs.Limits.{limit}
use Rattle.curve.specs.Span.{coordinate}
use Rattle.curve.specs.Ways.{deepest}
use Rattle.shape.specs.Shape.{most_records, allowed, basis_of, spans_of, records_of}
use Rattle.shape.specs.Refusals.{NoRow, outside, first_outside, shape_rows, control_rows}
use Rattle.shape.proofs.Refusals.{none_both}
use Rattle.shape.proofs.Seek.{seek-none}
use Rattle.shape.proofs.Spans.{allowed-between}
use Rattle.drawing.specs.declared.Step.{Step}
use Rattle.drawing.specs.Sequences.{Held, begin, drawn, record_at, Inside, Sound, bezier}
use Rattle.drawing.proofs.Tables.{reached-facts}
use Rattle.drawing.proofs.Sequences.{sound}

-- the counts that are reached, from 4 on, are those allowed for basis 1
spans-there : (n c : ℕ) → 4 ≤ n → n ≤ most_records → n % 3 ≡ 1 → allowed (basis_of 1 c n) n ≡ true
unfolding basis_of spans_of records_of
spans-there n c h m e = let whole : 3 * ((n - 1) / 3) + 1 ≡ n = omega arith in allowed-between (basis_of 1 c n) n h m ∙ eq-eqb (3 * ((n - 1) / 3) + 1) n whole

not-outside : (l : List ℤ) (r : ℕ) → Inside (record_at l r) → outside l r ≡ false
unfolding outside record_at
not-outside l r i = simp (le-ltb limit (nat_abs (coordinate l 0 r)) i.x, le-ltb limit (nat_abs (coordinate l 1 r)) i.y)

-- once there is a span, basis 1 at any depth with these controls: none of 1, 2, 24, 3, 7, 8
pub shape-accepted :
    (h : Held) → Sound h → 4 ≤ h.state.count → (k c : ℕ) → k ≤ deepest
    → NoRow (shape_rows (bezier k h.state.count c) ++ control_rows h.state.count h.state.count h.controls)
shape-accepted h ok b k c d =
    let n = h.state.count in
    let found = ⊎_elim (λ (z : n ≡ 0). absurd (omega arith)) (λ w. w) (reached-facts n ok.counted) in
    let all : first_outside h.controls n ≡ 0 + n = seek-none (outside h.controls) 0 n (λ r lo hi. not-outside h.controls r (ok.inside r (omega arith))) in
    none_both (shape_rows (bezier k n c)) (control_rows n n h.controls)
    (refl, (le-ltb deepest k d, (refl, (ap not (spans-there n c b found.0 found.1), tt))))
    (le-ltb (length h.controls) (2 * n) ok.room, (le-ltb (first_outside h.controls n) n (omega arith), tt))

-- and so with any sequence of steps from the empty state
pub drawing-accepted :
    (l : List ℤ) (steps : List Step) (k c : ℕ) → k ≤ deepest → 4 ≤ (drawn (begin l) steps).state.count
    → let h = drawn (begin l) steps in
    NoRow (shape_rows (bezier k h.state.count c) ++ control_rows h.state.count h.state.count h.controls)
drawing-accepted l steps k c d b = shape-accepted (drawn (begin l) steps) (sound l steps) b k c d
