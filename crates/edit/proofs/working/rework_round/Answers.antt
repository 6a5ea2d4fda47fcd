-- All spans, one stretch that has neither the first nor the last, or the two ends of the list.
use Rattle.std.proofs.Common.{◌≡◌, ℕ, ◌+◌, ◌-◌, ◌*◌, ◌≤◌, ◌<◌, ◌⊎◌, inl, inr, cond, sym, ap, subst, ◌∙◌, arith, eqb, eq-eqb, ne_eqb}
use mathlib.Core.Logic.{⊎_elim}
use Rattle.shape.proofs.Tests.{either}
use Rattle.spans.specs.Numbers.{per_span}
use Rattle.spans.specs.Filled.{fills}
use Rattle.asked.proofs.Fresh.{Ends, loop-whole, loop-stretch, loop-ends, loop-start}
use Rattle.edit.proofs.Worked.{stretch-refreshed, ends-refreshed}
use Rattle.edit.proofs.working.rework_round.Goals as goal

pub returns-then-spans-run : goal.returns-then-spans-run
returns-then-spans-run c =
    let a = c.args in
    let d = a.draft.now in
    c.fill.ensures
    ∙ stretch-refreshed a.run d.plan d.controls.now a.points.now c.requires.room 0 d.plan.spans (loop-whole a.run d.plan c.requires.closed c.requires.among.0 c.requires.among.1 (omega arith))

-- a run begins past span 0, or where the last span ends
begins : (first spans from : ℕ) → from ≡ cond (eqb first 0) spans first → ((from ≡ first) × (0 < first)) ⊎ ((from ≡ spans) × (first ≡ 0))
begins first spans from is =
    ⊎_elim (λ (some : 0 < first). inl (is ∙ ap (λ t. cond t spans first) (ne_eqb first 0 (λ e. omega (arith, e))), some))
    (λ (none : first ≤ 0). inr (is ∙ ap (λ t. cond t spans first) (eq-eqb first 0 (omega arith)), omega arith))
    (either 0 first)

-- before the end it is the run itself
pub returns-then-past-spans : goal.returns-then-past-spans
returns-then-past-spans c =
    let a = c.args in
    let d = a.draft.now in
    let w = per_span d.plan.depth in
    let from = c.first_or_end-from.result in
    let own = ⊎_elim (λ (own : (from ≡ a.run.first) × (0 < a.run.first)). own) (λ (is, none). absurd (omega (arith, is))) (begins a.run.first d.plan.spans from c.first_or_end-from.ensures) in
    c.fill-then-past-spans.ensures
    ∙ ap (λ (n : ℕ). fills d.plan d.controls.now (n * w) ((n + a.run.count - n) * w + 2) a.points.now) own.0
    ∙ stretch-refreshed a.run d.plan d.controls.now a.points.now c.requires.room a.run.first (a.run.first + a.run.count)
    (loop-stretch a.run d.plan c.requires.closed c.requires.among.0 c.requires.among.1 own.1 (omega (arith, own.0)))

pub returns : goal.returns
returns c =
    let a = c.args in
    let d = a.draft.now in
    let n = d.plan.spans in
    let from = c.first_or_end-from.result in
    let few : a.run.count < n = omega arith in
    let two : Ends a.run d.plan (from + a.run.count - n) from =
    ⊎_elim
    (λ (is, some).
    subst (λ (i : ℕ). Ends a.run d.plan (i + a.run.count - n) i) (sym is)
    (loop-ends a.run d.plan c.requires.closed c.requires.among.0 c.requires.among.1 some (omega (arith, is)) few))
    (λ (is, none).
    let end : n + a.run.count - n ≡ a.run.count = omega arith in
    subst (λ (i : ℕ). Ends a.run d.plan (i + a.run.count - n) i) (sym is)
    (subst (λ (i : ℕ). Ends a.run d.plan i n) (sym end) (loop-start a.run d.plan c.requires.closed c.requires.among.0 c.requires.among.1 none few)))
    (begins a.run.first n from c.first_or_end-from.ensures) in
    c.fill_ends.ensures ∙ ends-refreshed a.run d.plan d.controls.now a.points.now c.requires.room (from + a.run.count - n) from two
