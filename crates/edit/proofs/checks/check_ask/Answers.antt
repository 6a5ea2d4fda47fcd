-- The tests made so far are the rows passed, and the one that holds is the row given.
use Rattle.std.specs.Prelude.{Err, Ok}
use mathlib.Core.Path.{◌≡◌, refl, sym, ap, ◌∙◌}
use mathlib.Core.Bool.{not}
use mathlib.Core.Logic.{inl, inr}
use Rattle.shape.specs.declared.Refusal.{Refusal}
use Rattle.shape.specs.Refusals.{First, NoRow}
use Rattle.shape.proofs.Refusals.{judge-first, judge-none}
use Rattle.edit.specs.Reading.{ask_rows, judge_ask}
use Rattle.edit.proofs.checks.check_ask.Goals as goal
use Rattle.edit.proofs.checks.check_ask.Goals.{Start}

module _ (c : Start) where
  refused : {q r : Refusal} → q ≡ r → First (ask_rows c.args.edit c.args.basis c.args.place c.args.count) r → Err q ≡ judge_ask c.args.edit c.args.basis c.args.place c.args.count
  unfolding judge_ask
  refused {r = r} e h = let a = c.args in ap Err e ∙ sym (judge-first (ask_rows a.edit a.basis a.place a.count) Err (Ok tt) r h)

  passed : NoRow (ask_rows c.args.edit c.args.basis c.args.place c.args.count) → Ok tt ≡ judge_ask c.args.edit c.args.basis c.args.place c.args.count
  unfolding judge_ask
  passed h = let a = c.args in sym (judge-none (ask_rows a.edit a.basis a.place a.count) Err (Ok tt) h)

pub returns-then-not-is_offered : goal.returns-then-not-is_offered
returns-then-not-is_offered c = refused c.before.before.before c.into.ensures (inl (ap not (sym c.is_offered.ensures ∙ c.if-not-is_offered.true), refl))

pub returns-then-not-is_in_range : goal.returns-then-not-is_in_range
returns-then-not-is_in_range c =
    let fourth = ap not (sym c.is_offered.ensures ∙ c.if-not-is_offered.false) in
    refused c.before.before.before.before.before c.at.ensures (inr (fourth, inl (ap not (sym c.is_in_range.ensures ∙ c.if-not-is_in_range.true), refl)))

pub returns-then-is_at_the_end : goal.returns-then-is_at_the_end
returns-then-is_at_the_end c =
    let fourth = ap not (sym c.is_offered.ensures ∙ c.if-not-is_offered.false) in
    let fifth = ap not (sym c.is_in_range.ensures ∙ c.if-not-is_in_range.false) in
    refused c.before.before.before.before.before.before.before c.into-then-is_at_the_end.ensures (inr (fourth, inr (fifth, inl (sym c.is_at_the_end.ensures ∙ c.if-is_at_the_end.true, refl))))

pub returns : goal.returns
returns c =
    let fourth = ap not (sym c.is_offered.ensures ∙ c.if-not-is_offered.false) in
    let fifth = ap not (sym c.is_in_range.ensures ∙ c.if-not-is_in_range.false) in
    passed c.before.before.before.before.before.before (fourth, (fifth, (sym c.is_at_the_end.ensures ∙ c.if-is_at_the_end.false, tt)))
