-- In each arm the edit is that arm's; where no span is left nothing is carried.
use Rattle.std.proofs.Common.{◌≡◌, ℕ, ◌+◌, ◌-◌, ◌*◌, ◌≤◌, ◌<◌, List, ℤ, pos, get_or, length, sym, ap, subst, ◌∙◌, arith}
use native.Mathlib.Nat.{mul-le-mul_right, one-mul}
use Rattle.spans.specs.Filled.{filled}
use Rattle.spans.specs.Numbers.{per_span}
use Rattle.spans.proofs.Filled.{none_filled, same-filled}
use Rattle.asked.specs.declared.Edit.TheVariants.{Insert, Remove}
use Rattle.asked.specs.Edits.{carried_from, past_fresh}
use Rattle.asked.proofs.Copied.{Copied, copied-filled}
use Rattle.edit.specs.Inner.{Carriable, carried, run_length}
use Rattle.edit.proofs.Worked.{run_none, run_end}
use Rattle.edit.proofs.carrying.carry.Goals as goal

-- numbers copied by a span's width, on or back, are the points carried
module _ (old new : List ℤ) (past spans w : ℕ) (left : past < spans) (long : length new ≡ length old) where
  copied_on : (x y : ℤ) → 1 ≤ past → spans * w + 2 ≤ length old → Copied old new (past * w - w) (past * w) (spans * w + 2 - w - (past * w - w)) → new ≡ carried (Insert x y) past spans w old
  copied_on x y some room copied =
      let first : w ≤ past * w = omega (arith, one-mul w, mul-le-mul_right {m = 1} {n = past} w some) in
      let end = run_end past spans w left in
      let n : spans * w + 2 - w - (past * w - w) ≡ run_length past spans w = omega arith in
      copied-filled old new (past * w - w) (past * w) (spans * w + 2 - w - (past * w - w)) (λ q. q - w) (omega arith) long copied (λ q low. omega arith)
      ∙ ap (λ (m : ℕ). filled (λ q. get_or old (q - w) (pos 0)) (past * w) m old) n

  copied-back : spans * w + 2 + w ≤ length old → Copied old new (past * w + w) (past * w) (spans * w + 2 + w - (past * w + w)) → new ≡ carried Remove past spans w old
  copied-back room copied =
      let end = run_end past spans w left in
      let n : spans * w + 2 + w - (past * w + w) ≡ run_length past spans w = omega arith in
      copied-filled old new (past * w + w) (past * w) (spans * w + 2 + w - (past * w + w)) (λ q. q + w) (omega arith) long copied (λ q low. omega arith)
      ∙ ap (λ (m : ℕ). filled (λ q. get_or old (q + w) (pos 0)) (past * w) m old) n

pub returns-then-spans-past : goal.returns-then-spans-past
returns-then-spans-past c =
    let p = c.args.placed in
    let w = per_span p.plan.depth in
    let past = past_fresh p.edit p.plan p.place in
    let old = c.args.points.now in
    sym (none_filled (λ q. get_or old (carried_from p.edit w q) (pos 0)) (past * w) (run_length past p.plan.spans w) old (run_none past p.plan.spans w (omega arith)))

pub returns-in-Move : goal.returns-in-Move
returns-in-Move c =
    let p = c.args.placed in
    let w = per_span p.plan.depth in
    let past = past_fresh p.edit p.plan p.place in
    let old = c.args.points.now in
    sym (same-filled old (past * w) (run_length past p.plan.spans w)) ∙ ap (λ e. carried e past p.plan.spans w old) (sym c.in-Move.is)

pub returns-in-Insert : goal.returns-in-Insert
returns-in-Insert c =
    let p = c.args.placed in
    let old = c.args.points.now in
    let x = c.in-Insert.field-0 in
    let y = c.in-Insert.field-1 in
    let w = ap (λ (n : ℕ). 2 * n) c.steps-width.ensures in
    let can = subst (λ e. Carriable e (past_fresh p.edit p.plan p.place) p.plan.spans (per_span p.plan.depth) (length old)) c.in-Insert.is c.requires.carriable in
    let copied = c.copy_within.ensures in
    copied_on old c.copy_within.new.self c.past_fresh-past.result p.plan.spans (2 * c.steps-width.result) c.if-spans-past.false copied.len x y (omega (arith, can.0)) (omega (arith, can.1, ap (λ (n : ℕ). p.plan.spans * n) w)) copied.by_index
    ∙ (λ i. carried (Insert x y) (c.past_fresh-past.ensures i) p.plan.spans (w i) old)
    ∙ ap (λ e. carried e (past_fresh p.edit p.plan p.place) p.plan.spans (per_span p.plan.depth) old) (sym c.in-Insert.is)

pub returns-in-Remove : goal.returns-in-Remove
returns-in-Remove c =
    let p = c.args.placed in
    let old = c.args.points.now in
    let w = ap (λ (n : ℕ). 2 * n) c.steps-width.ensures in
    let can = subst (λ e. Carriable e (past_fresh p.edit p.plan p.place) p.plan.spans (per_span p.plan.depth) (length old)) c.in-Remove.is c.requires.carriable in
    let copied = c.copy_within-in-Remove.ensures in
    copied-back old c.copy_within-in-Remove.new.self c.past_fresh-past.result p.plan.spans (2 * c.steps-width.result) c.if-spans-past.false copied.len (omega (arith, can, ap (λ (n : ℕ). p.plan.spans * n) w, w)) copied.by_index
    ∙ (λ i. carried Remove (c.past_fresh-past.ensures i) p.plan.spans (w i) old)
    ∙ ap (λ e. carried e (past_fresh p.edit p.plan p.place) p.plan.spans (per_span p.plan.depth) old) (sym c.in-Remove.is)
