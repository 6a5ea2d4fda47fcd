-- An edit that is done leaves the outline of the controls that it leaves, where the lent points were the outline of the old ones.
use mathlib.Core.Path.{◌≡◌, sym, ap, subst}
use mathlib.Core.Bool.{true}
use mathlib.Core.List.{List}
use Prim.Native.Nat.{ℕ, ◌+◌, ◌*◌, ◌≤◌, ◌<◌}
use native.Mathlib.Omega.{arith}
use lib.IntN.{ℤ, pos}
use lib.ListN.{get_or, length}
use lib.Seq.{sets}
use Rattle.curve.proofs.Tab.{tab-same}
use Rattle.shape.specs.declared.Shape.{Shape}
use Rattle.shape.specs.declared.Plan.{Plan}
use Rattle.shape.specs.Inner.{Good, Lent}
use Rattle.shape.specs.Shape.{records_of}
use Rattle.shape.specs.Refusals.{NoRow, plan_of}
use Rattle.spans.specs.Numbers.{number, per_span}
use Rattle.outline.specs.Outline.{points, drawn}
use Rattle.outline.proofs.Draws.{all-numbers}
use Rattle.asked.specs.declared.Edit.{Edit}
use Rattle.asked.specs.Edits.{count_after, in_range, asked, point_at}
use Rattle.edit.specs.Reading.{shape_after, plan_after, points_after}
use Rattle.edit.specs.Inner.{Editable, Workable}
use Rattle.edit.proofs.Rows.{good-after, new-room, new-lent, workable}
use Rattle.edit.proofs.Passed.{may-edit, same-plan, room-fine}
use Rattle.edit.proofs.Exactly.{call_rows}
use Rattle.sequences.proofs.Kept.{point-drawn}

-- ---- for the plan of a sound shape that may be edited so

module _ (e : Edit) (s : Shape) (p : Plan) (j : ℕ) (ok : Editable e s p j) (controls lent : List ℤ) where
  abbrev Drawn : ℕ → Type 0
  Drawn n =
      (i : ℕ) → i < (plan_after e p).spans * per_span p.depth + 2
      → point_at e (plan_after e p) j (asked e j controls (count_after e n)) lent i ≡ number (plan_after e p) (asked e j controls (count_after e n)) i

  pub plan-draws : 2 * count_after e s.count ≤ length controls → 2 * points (plan_after e p) ≤ length lent → ((i : ℕ) → i < 2 * points p → get_or lent i (pos 0) ≡ number p controls i)
      → points_after e s (plan_after e p) j controls lent ≡ drawn (plan_after e p) (asked e j controls (count_after e s.count)) lent
  plan-draws fits room held =
      let q = plan_after e p in
      let new = asked e j controls (count_after e s.count) in
      ap (sets lent 0) (tab-same (point_at e q j new lent) (number q new) 0 0 (2 * points q) (λ i h. at (0 + i) (omega (arith, all-numbers q.depth q.spans))))
    where
      by-records : Drawn (records_of p.basis p.spans)
      by-records i h =
          point-drawn e p j controls ok.offered ok.good.spans-least ok.good.round (good-after e s p j ok).round
          (subst (λ (n : ℕ). in_range e j n ≡ true) (sym ok.good.records) ok.in_range)
          (subst (λ (n : ℕ). 2 * count_after e n ≤ length controls) (sym ok.good.records) fits) (good-after e s p j ok).spans-least lent
          (omega (arith, all-numbers p.depth (plan_after e p).spans))
          (λ n g. held n (omega (arith, all-numbers p.depth p.spans)))
          i h

      at : Drawn s.count
      at = subst Drawn ok.good.records by-records

-- ---- for an edit that no row refuses

module _ (e : Edit) (s : Shape) (j : ℕ) (controls lent : List ℤ) (none : NoRow (call_rows e s j controls lent)) where
  abbrev p : Plan
  p = plan_of s

  abbrev q : Plan
  q = plan_of (shape_after e s)

  allowed : Editable e s p j
  allowed = may-edit e s j controls lent none

  same : q ≡ plan_after e p
  same = same-plan e s j controls lent none

  ready : Workable e s (plan_after e p) j controls (length lent)
  ready = workable e s p j allowed controls (length lent) (room-fine e s j controls lent none)

  pub lent-then : Lent (count_after e s.count) (asked e j controls (count_after e s.count)) 0 (length lent)
  lent-then = new-lent e s p j allowed controls (length lent) (room-fine e s j controls lent none)

  pub good-then : Good (shape_after e s) q
  good-then = subst (λ r. Good (shape_after e s) r) (sym same) ready.good

  pub room-then : 2 * points q ≤ length lent
  room-then =
      subst (λ r. 2 * points r ≤ length lent) (sym same) (omega (arith, all-numbers p.depth (plan_after e p).spans, ready.points-room))

  -- The points are those of the outline of the controls asked for, drawn whole.
  pub edit-draws : ((i : ℕ) → i < 2 * points p → get_or lent i (pos 0) ≡ number p controls i) → points_after e s q j controls lent ≡ drawn q (asked e j controls (count_after e s.count)) lent
  edit-draws held =
      subst (λ r. points_after e s r j controls lent ≡ drawn r (asked e j controls (count_after e s.count)) lent) (sym same)
      (plan-draws e s p j allowed controls lent (new-room e s p j allowed controls (length lent) (room-fine e s j controls lent none)) (subst (λ r. 2 * points r ≤ length lent) same room-then) held)
