-- A file that is read is drawn: its shape is sound, its records are inside the limits, and the lists have room for the most records and points.
use mathlib.Core.Path.{◌≡◌, sym, ap, ◌∙◌}
use mathlib.Core.List.{List, ◌++◌}
use Prim.Native.Nat.{ℕ, ◌*◌, ◌^◌, ◌≤◌}
use native.Mathlib.Nat.{mul-le-mul, pow-le-pow_right}
use native.Mathlib.Omega.{arith}
use borrow.Author.Tests.{le-ltb}
use lib.Dec.{ltb}
use lib.IntN.{ℤ, pos}
use lib.ListN.{length, length-replicate, take}
use lib.Seq.{sets, length-sets}
use Rattle.curve.specs.Ways.{deepest}
use Rattle.curve.proofs.Tab.{length-tab}
use Rattle.shape.specs.declared.Shape.{Shape}
use Rattle.shape.specs.declared.Plan.{Plan}
use Rattle.shape.specs.Inner.{Good, Lent}
use Rattle.shape.specs.Shape.{points_of}
use Rattle.shape.specs.Refusals.{NoRow, shape_rows, list_rows, plan_of}
use Rattle.shape.proofs.Refusals.{none_both, none-earlier, none-later, row-fails, good-plan, none-facts}
use Rattle.outline.specs.Outline as outline
use Rattle.outline.specs.Outline.{accepts, draws}
use Rattle.outline.proofs.Exactly.{none-drawn}
use Rattle.tolerance.proofs.Along.{written-front}
use Rattle.record_file.specs.Format as format
use Rattle.record_file.specs.Format.{numbers}
use Rattle.record_file.specs.Rows as rows
use Rattle.record_file.specs.Rows.{record_count, length_rows, record_rows, later_rows, shape_of, file_rows}
use Rattle.record_file.proofs.Outside.{outside-written}
use Rattle.file_list.specs.Files.{most_spans, most_listed, controls, points}

module _ (file : List ℕ) (none : NoRow (file_rows file controls)) where
  abbrev pub n : ℕ
  n = record_count file

  abbrev pub s : Shape
  s = shape_of file n

  abbrev pub p : Plan
  p = plan_of s

  abbrev pub held : List ℤ
  held = sets controls 0 (numbers file n)

  later : NoRow (later_rows file n controls)
  later = none-later (record_rows file 0 n) (later_rows file n controls) (none-later (length_rows (length file)) (record_rows file 0 n ++ later_rows file n controls) none)

  pub shape : NoRow (shape_rows s)
  shape = none-earlier (shape_rows s) (rows.list_rows file n controls) later

  pub good : Good s p
  good = good-plan s shape

  room : 2 * n ≤ length controls
  room = omega (arith, good.records-most)

  -- with room for the most points at a depth that is no less than its own
  module _ (d : ℕ) (shallow : p.depth ≤ d) where
    pub few-points : outline.points p ≤ most_listed d
    unfolding points_of
    few-points =
        let steps : 2 ^ p.depth ≤ 2 ^ d = pow-le-pow_right {n = 2} (omega arith) shallow in
        let spans : p.spans ≤ most_spans = omega (arith, good.spans-most, good.records-most) in
        let all : p.spans * 2 ^ p.depth ≤ most_spans * 2 ^ d = mul-le-mul spans steps in
        omega (arith, all)

    -- rows 7, 8 and 9 for the controls that were read
    pub lists : NoRow (list_rows n held (outline.points p) (length (points d)))
    lists = (
      le-ltb (length held) (2 * n) (omega (arith, room, length-sets controls 0 (numbers file n))),
      (
        ap (λ (m : ℕ). ltb m n) (outside-written controls (numbers file n) n (length-tab (format.number file) 0 (2 * n)) room) ∙ row-fails 8 (later_rows file n controls) later,
        (le-ltb (length (points d)) (2 * outline.points p) (omega (arith, few-points, length-replicate (2 * most_listed d) (pos 0))), tt),
      ),
    )

    -- its numbers stand at the start of that list when they are written there
    pub front : (vs : List ℤ) → length vs ≡ 2 * outline.points p → take (2 * outline.points p) (sets (points d) 0 vs) ≡ vs
    front vs long =
        ap (λ (k : ℕ). take k (sets (points d) 0 vs)) (sym long) ∙ written-front (points d) vs (omega (arith, long, few-points, length-replicate (2 * most_listed d) (pos 0)))

  pub lent : Lent n held (outline.points p) (length (points deepest))
  lent = none-facts n held (outline.points p) (length (points deepest)) (lists deepest good.depth-most)

  pub read-drawn : draws s held (points deepest) ≡ accepts p held (points deepest)
  read-drawn = none-drawn s held (points deepest) (none_both (shape_rows s) (list_rows n held (outline.points p) (length (points deepest))) shape (lists deepest good.depth-most))
