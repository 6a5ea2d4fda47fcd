-- The new controls, number by number: before the place an old number stays, at it stands the new record, and past it is an old number a record on or back.
use mathlib.Core.Path.{◌≡◌, ap, ◌∙◌}
use mathlib.Core.Bool.{cond}
use mathlib.Core.List.{List}
use Prim.Native.Nat.{ℕ, ◌+◌, ◌-◌, ◌/◌, ◌%◌, ◌≤◌, ◌<◌}
use native.Mathlib.Omega.{arith}
use borrow.Author.Tests.{lt-ltb, le-ltb, eq-eqb, ne_eqb}
use lib.Dec.{eqb}
use lib.IntN.{ℤ, pos}
use lib.ListN.{get_or}
use Rattle.asked.specs.declared.Edit.{Edit}
use Rattle.asked.specs.declared.Edit.TheVariants.{Move, Insert, Remove}
use Rattle.asked.specs.Edits.{choose, control_at, carried_from}

-- Record r is past the edit's place.
abbrev pub Beyond : Edit → ℕ → ℕ → Type 0
Beyond (Move x y) j r = j < r
Beyond (Insert x y) j r = j < r
Beyond Remove j r = j ≤ r

module _ (j : ℕ) (old : List ℤ) (q : ℕ) where
  abbrev same : ℤ
  same = get_or old q (pos 0)

  pub control-before : (e : Edit) → q / 2 < j → control_at e j old q ≡ same
  control-before (Move x y) h = ap (λ t. cond t (choose (q % 2) x y) same) (ne_eqb (q / 2) j (λ g. omega (arith, g)))
  control-before (Insert x y) h = ap (λ t. cond t same (cond (eqb (q / 2) j) (choose (q % 2) x y) (get_or old (q - 2) (pos 0)))) (lt-ltb (q / 2) j h)
  control-before Remove h = ap (λ t. cond t same (get_or old (q + 2) (pos 0))) (lt-ltb (q / 2) j h)

  pub control-moved : (x y : ℤ) → q / 2 ≡ j → control_at (Move x y) j old q ≡ choose (q % 2) x y
  control-moved x y h = ap (λ t. cond t (choose (q % 2) x y) same) (eq-eqb (q / 2) j h)

  pub control-inserted : (x y : ℤ) → q / 2 ≡ j → control_at (Insert x y) j old q ≡ choose (q % 2) x y
  control-inserted x y h =
      ap (λ t. cond t same (cond (eqb (q / 2) j) (choose (q % 2) x y) (get_or old (q - 2) (pos 0)))) (le-ltb (q / 2) j (omega arith))
      ∙ ap (λ t. cond t (choose (q % 2) x y) (get_or old (q - 2) (pos 0))) (eq-eqb (q / 2) j h)

  pub control-beyond : (e : Edit) → Beyond e j (q / 2) → control_at e j old q ≡ get_or old (carried_from e 2 q) (pos 0)
  control-beyond (Move x y) h = ap (λ t. cond t (choose (q % 2) x y) same) (ne_eqb (q / 2) j (λ g. omega (arith, g)))
  control-beyond (Insert x y) h =
      ap (λ t. cond t same (cond (eqb (q / 2) j) (choose (q % 2) x y) (get_or old (q - 2) (pos 0)))) (le-ltb (q / 2) j (omega arith))
      ∙ ap (λ t. cond t (choose (q % 2) x y) (get_or old (q - 2) (pos 0))) (ne_eqb (q / 2) j (λ g. omega (arith, g)))
  control-beyond Remove h = ap (λ t. cond t same (get_or old (q + 2) (pos 0))) (le-ltb (q / 2) j h)
