-- The first record that is outside ends the search, and where none is, no row holds.
use Rattle.std.specs.Prelude.{Err, Ok, Result}
use Rattle.std.specs.List.{concat}
use Rattle.std.proofs.Common.{◌≡◌, ◌∙◌, sym, ap, subst, List, ℕ, length, ◌-◌, ◌≤◌, ◌<◌, arith}
use mathlib.Core.Logic.{inl}
use borrow.Author.Tests.{lt-ltb, le-ltb}
use Rattle.shape.specs.declared.Refusal.{Refusal}
use Rattle.shape.specs.Refusals.{judge, outside, first_outside}
use Rattle.shape.proofs.Refusals.{judge-first, judge-none}
use Rattle.shape.proofs.Seek.{seek-here, seek-step, seek-end}
use Rattle.record_file.specs.Format.{numbers}
use Rattle.record_file.specs.Inner.{limits_rows}
use Rattle.record_file.proofs.Bytes.{strays-joined}
use Rattle.record_file.proofs.check_limits.Goals as goal

module _ (file : List ℕ) (n at : ℕ) (found : at ≡ first_outside (numbers file n) n) where
  far : at < n → ◌≡◌ {A = Result (Unit {0}) Refusal} (Err (record { number = 8; place = at })) (judge (limits_rows file n) Err (Ok tt))
  far h =
      sym (judge-first (limits_rows file n) Err (Ok tt) (record { number = 8; place = at }) (inl (lt-ltb (first_outside (numbers file n) n) n (subst (λ m. m < n) found h), (λ k. record { number = 8; place = sym found k }))))

  near : n ≤ at → ◌≡◌ {A = Result (Unit {0}) Refusal} (Ok tt) (judge (limits_rows file n) Err (Ok tt))
  near h = sym (judge-none (limits_rows file n) Err (Ok tt) (le-ltb (first_outside (numbers file n) n) n (subst (λ m. n ≤ m) found h), tt))

pub returns-then-is_outside : goal.returns-then-is_outside
returns-then-is_outside c =
    let rs = c.args.records.now in
    let l = c.loop-place in
    let test = outside (numbers (concat rs) (length rs)) in
    let holds = strays-joined rs c.told-records l.place c.loop-place-test.true ∙ sym c.is_outside.ensures ∙ c.if-is_outside.true in
    ap Err c.at.ensures ∙ far (concat rs) (length rs) l.place (sym (seek-here test l.place (length rs - l.place) (omega arith) holds) ∙ l.invariant) c.loop-place-test.true

pub loop-place-preserved : goal.loop-place-preserved
loop-place-preserved c =
    let rs = c.args.records.now in
    let l = c.loop-place in
    let test = outside (numbers (concat rs) (length rs)) in
    let fails = strays-joined rs c.told-records l.place c.loop-place-test.true ∙ sym c.is_outside.ensures ∙ c.if-is_outside.false in
    seek-step test l.place (length rs) c.loop-place-test.true fails ∙ l.invariant

pub returns : goal.returns
returns c =
    let rs = c.args.records.now in
    let l = c.loop-place in
    let test = outside (numbers (concat rs) (length rs)) in
    near (concat rs) (length rs) l.place (sym (seek-end test l.place (length rs) (omega arith)) ∙ l.invariant) (omega arith)
