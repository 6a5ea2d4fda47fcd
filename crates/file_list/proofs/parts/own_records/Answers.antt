-- A number that the list does not have ends the copying; when all are copied, they stand one after another.
use Rattle.std.specs.Prelude.{Option, Some, None}
use mathlib.Core.Path.{◌≡◌, sym, ap, ◌∙◌, subst}
use Prim.Native.Nat.{ℕ, ◌+◌, ◌*◌, ◌-◌, ◌/◌, ◌%◌, ◌≤◌, ◌<◌}
use native.Mathlib.Omega.{arith}
use borrow.Author.Count.{below_more}
use borrow.Author.Rules.{rules}
use borrow.Author.Tests.{ltb-true, ltb-false}
use mir.Syntax.{w32}
use mir.Val.{to_z, of_z}
use lib.IntN.{ℤ, pos}
use lib.ListN.{length, get_or, set, length-set}
use lib.Seq.{sets}
use Rattle.curve.specs.Span.{record_at}
use Rattle.curve.specs.Tab.{tab}
use Rattle.curve.proofs.Tab.{length-tab}
use Rattle.curve.proofs.Fills.{fill-next, fill_done}
use Rattle.file_list.specs.Inner.{own_numbers, Copied}
use Rattle.file_list.proofs.OwnRecords.{record-below, first_below, place, own_number, own_is, own-short, written_over}
use Rattle.file_list.proofs.parts.own_records.Goals as goal
use Rattle.file_list.proofs.parts.own_records.Goals.{After-record_at}

pub loop-q-init : goal.loop-q-init
loop-q-init c =
    let a = c.args in
    let f = own_number a.basis a.controls.now a.span in
    (omega arith, omega arith, (λ k h. absurd (omega arith)), written_over _ (tab f 0 own_numbers) (omega (arith, length-tab f 0 own_numbers)))

pub overflow_add-first : goal.overflow_add-first
overflow_add-first c = omega (arith, c.first_record-first.ensures, first_below c.args.basis c.args.span, c.requires)

-- the place that the code reads, and it is small
module _ (c : After-record_at) where
  at-is : 2 * c.record_at.result + c.loop-q.q % 2 ≡ place c.args.basis c.args.controls.now c.args.span c.loop-q.q
  at-is =
      let q = c.loop-q.q in
      ap (λ (r : ℕ). 2 * r + q % 2) (c.record_at.ensures ∙ ap (λ (n : ℕ). record_at c.args.basis (n + q / 2)) c.first_record-first.ensures)

  at_small : c.record_at.result < 1000
  at_small =
      let a = c.args in
      omega (arith, c.record_at.ensures, record-below a.basis (c.first_record-first.result + c.loop-q.q / 2), c.first_record-first.ensures, first_below a.basis a.span, c.requires, c.loop-q-test.true)

pub overflow_mul-record_at : goal.overflow_mul-record_at
overflow_mul-record_at c = omega (arith, at_small c)

pub overflow_add-record_at : goal.overflow_add-record_at
overflow_add-record_at c = omega (arith, at_small c)

pub returns-in_err-own : goal.returns-in_err-own
returns-in_err-own c =
    let a = c.args in
    let r = c.before.before.before.before in
    let short = own-short a.basis a.controls.now a.span (c.loop-q.q / 2) (omega (arith, c.loop-q-test.true)) (omega (arith, at-is r, ltb-false _ _ (sym c.in_err-own.ensures.lookup.0))) in
    subst (Copied a.basis a.controls.now a.span) (sym c.from_residual.ensures) short

pub loop-q-preserved : goal.loop-q-preserved
loop-q-preserved c =
    let a = c.args in
    let r = c.before.before.before.before in
    let own = c.loop-q.own in
    let q = c.loop-q.q in
    let f = own_number a.basis a.controls.now a.span in
    let here : place a.basis a.controls.now a.span q < length a.controls.now = omega (arith, at-is r, ltb-true _ _ (sym c.in_ok-own.ensures.lookup.0)) in
    let wrote : to_z w32 (of_z w32 c.in_ok-own.field-0.now) ≡ get_or a.controls.now (2 * c.record_at.result + q % 2) (pos 0) = search rules in
    let number = wrote ∙ ap (λ (n : ℕ). get_or a.controls.now n (pos 0)) (at-is r) in (
      omega (arith, c.loop-q-test.true),
      simp length-set c.loop-q.invariant.1,
      below_more (λ (k : ℕ). place a.basis a.controls.now a.span k < length a.controls.now) q c.loop-q.invariant.2 here,
      ap (λ z. sets (set own q z) (q + 1) (tab f (q + 1) (own_numbers - (q + 1)))) number ∙ sym (fill-next f own q own_numbers (omega (arith, c.loop-q-test.true, c.loop-q.invariant.1))) ∙ c.loop-q.invariant.3,
    )

pub returns : goal.returns
returns c =
    let a = c.args in
    let f = own_number a.basis a.controls.now a.span in
    let all : (k : ℕ) → k < own_numbers → place a.basis a.controls.now a.span k < length a.controls.now = λ k h. c.loop-q.invariant.2 k (omega arith) in
    sym (fill_done f c.loop-q.own c.loop-q.q own_numbers (omega arith)) ∙ c.loop-q.invariant.3 ∙ sym (own_is a.basis a.controls.now a.span all)
