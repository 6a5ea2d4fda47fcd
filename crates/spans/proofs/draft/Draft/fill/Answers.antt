-- A turn's span is the next of the run (`running-span`), and so is the last, which leaves its end (`running-end`).
use mathlib.Core.List.{List}
use mathlib.Core.Path.{◌≡◌, refl, sym, ap, ◌∙◌, subst}
use Prim.Native.Nat.{ℕ, ◌+◌, ◌*◌, ◌-◌, ◌%◌, ◌^◌, ◌≤◌, ◌<◌}
use native.Mathlib.Omega.{arith}
use lib.IntN.{ℤ}
use lib.ListN.{length}
use Rattle.whole.specs.Outcome.{outcome}
use Rattle.curve.specs.declared.Four.{Four}
use Rattle.curve.specs.Inner.{divisor_of}
use Rattle.curve.specs.Span.{divisor}
use Rattle.curve.specs.Tab.{tab}
use Rattle.curve.proofs.Tab.{length-tab}
use Rattle.curve.specs.Ways.{deepest}
use Rattle.shape.specs.declared.Plan.{Plan}
use Rattle.shape.specs.Shape.{most_records}
use Rattle.spans.specs.declared.draft.Draft.{Draft}
use Rattle.spans.specs.Numbers.{per_span}
use Rattle.spans.specs.Filled.{fills_run}
use Rattle.spans.specs.Inner.{paired, ending, rounds}
use Rattle.spans.proofs.Numbers.{stride-is, span_controls}
use Rattle.spans.proofs.Rounds.{rounds-most}
use Rattle.spans.proofs.Runs.{Running, running-none, running-span, running-end, place-small}
use Rattle.spans.proofs.draft.Draft.fill.Goals as goal

-- what span s is drawn from: its depth, its divisor and its controls
record Drawn (p : Plan) (controls : List ℤ) (s k d : ℕ) (x y : Four) : Type 0 where
  depth : k ≡ p.depth
  over : d ≡ divisor p.basis p.depth
  on_x : x ≡ span_controls p.basis controls s 0
  on_y : y ≡ span_controls p.basis controls s 1

module _ (draft : Draft) (from to : ℕ) (among : (from < to) × (to ≤ draft.plan.spans)) (start : List ℤ) (s n : ℕ) (held : List ℤ) (so_far : Running draft.plan draft.controls.now from to start s n held) where
  abbrev p : Plan
  p = draft.plan

  abbrev controls : List ℤ
  controls = draft.controls.now

  turn : s < to → (k d : ℕ) (x y : Four) → Drawn p controls s k d x y
      → (m : ℕ) (new : List ℤ) → length new ≡ length held
      → outcome m new ≡ rounds d (tab (paired k x y) 0 (per_span k)) (s * (2 * 2 ^ p.depth % 2 ^ 64)) 0 held
      → Running p controls from to start (s + 1) (n + m) new
  turn below k d x y drawn m new same done =
      running-span p controls from to start s n held so_far below (omega (arith, among.1)) m new same
      (done ∙ (λ i. rounds (drawn.over i) (tab (paired (drawn.depth i) (drawn.on_x i) (drawn.on_y i)) 0 (per_span (drawn.depth i))) (s * stride-is p.depth draft.deep i) 0 held))

  -- the last span's turn
  final : s ≡ to - 1 → (k d : ℕ) (x y : Four) → Drawn p controls (to - 1) k d x y
      → (m : ℕ) (new : List ℤ) → length new ≡ length held
      → outcome m new ≡ rounds d (tab (paired k x y) 0 (per_span k)) ((to - 1) * (2 * 2 ^ p.depth % 2 ^ 64)) 0 held
      → Running p controls from to start to (n + m) new
  final last k d x y drawn m new same done =
      let all : s + 1 ≡ to = omega (arith, among.0) in
      subst (λ (t : ℕ). Running p controls from to start t (n + m) new) all
      (turn (omega (arith, among.0)) k d x y (subst (λ (t : ℕ). Drawn p controls t k d x y) (sym last) drawn) m new same
      (done ∙ ap (λ (t : ℕ). rounds d (tab (paired k x y) 0 (per_span k)) (t * (2 * 2 ^ p.depth % 2 ^ 64)) 0 held) (sym last)))

  end : s ≡ to → (k d : ℕ) (x y : Four) → Drawn p controls (to - 1) k d x y
      → (m : ℕ) (new : List ℤ)
      → outcome m new ≡ rounds d (ending k x y) (to * (2 * 2 ^ p.depth % 2 ^ 64)) 0 held
      → outcome (n + m) new ≡ fills_run p from to controls start
  end last k d x y drawn m new done =
      running-end p controls from to start s n held so_far last (omega (arith, among.0)) among.1 m new
      (done ∙ (λ i. rounds (drawn.over i) (ending (drawn.depth i) (drawn.on_x i) (drawn.on_y i)) (to * stride-is p.depth draft.deep i) 0 held))

  -- no more are exact than a run has numbers
  few : s ≤ to → n ≤ most_records * per_span deepest
  few h = omega (arith, so_far.few, place-small p.depth s draft.deep (omega (arith, among.1, draft.drawable.few)))

-- and a span's are few, whatever its controls are
span-few : (k d : ℕ) (x y : Four) (at : ℕ) (held : List ℤ) (m : ℕ) (new : List ℤ) → k ≤ deepest
    → outcome m new ≡ rounds d (tab (paired k x y) 0 (per_span k)) at 0 held → m ≤ most_records * per_span deepest
span-few k d x y at held m new deep done =
    omega (arith, rounds-most d (tab (paired k x y) 0 (per_span k)) at 0 held (outcome m new) done, length-tab (paired k x y) 0 (per_span k), place-small k 1 deep (omega arith))

pub loop-span-init : goal.loop-span-init
loop-span-init g c = running-none c.args.self.now.plan c.args.self.now.controls.now c.args.run.start c.args.run.end c.args.points.now

pub loop-span-preserved : goal.loop-span-preserved
loop-span-preserved g c =
    let a = c.args in
    let l = c.loop-span in
    let sp = c.span.result in
    let e = c.span.ensures in
    turn a.self.now a.run.start a.run.end c.requires.among a.points.now l.span l.exact l.points l.invariant (omega (arith, c.loop-span-test.true)) sp.depth (divisor_of sp.bits) sp.x sp.y
    (record { depth = e.depth_value.0; over = e.depth_value.1; on_x = e.x_value; on_y = e.y_value })
    c.fill_span-exact.result c.fill_span-exact.new.points c.fill_span-exact.auto.points c.fill_span-exact.ensures

pub overflow_add-exact : goal.overflow_add-exact
overflow_add-exact g c =
    let a = c.args in
    let l = c.loop-span in
    let sp = c.span.result in
    let before = few a.self.now a.run.start a.run.end c.requires.among a.points.now l.span l.exact l.points l.invariant (omega (arith, c.loop-span-test.true)) in
    omega (arith, before, span-few sp.depth (divisor_of sp.bits) sp.x sp.y (l.span * (2 * 2 ^ a.self.now.plan.depth % 2 ^ 64)) l.points c.fill_span-exact.result c.fill_span-exact.new.points sp.shallow c.fill_span-exact.ensures)

pub overflow_add-exact-2 : goal.overflow_add-exact-2
overflow_add-exact-2 g c =
    let a = c.args in
    let l = c.loop-span in
    let sp = c.span-ending.result in
    let before = few a.self.now a.run.start a.run.end c.requires.among a.points.now l.span l.exact l.points l.invariant (omega (arith, l.auto.span-end, c.requires.among.0)) in
    omega (arith, before, span-few sp.depth (divisor_of sp.bits) sp.x sp.y ((a.run.end - 1) * (2 * 2 ^ a.self.now.plan.depth % 2 ^ 64)) l.points c.fill_span-exact-2.result c.fill_span-exact-2.new.points sp.shallow c.fill_span-exact-2.ensures)

pub overflow_add-result : goal.overflow_add-result
overflow_add-result g c =
    let a = c.args in
    let l = c.loop-span in
    let sp = c.span-ending.result in
    let before = few a.self.now a.run.start a.run.end c.requires.among a.points.now l.span l.exact l.points l.invariant (omega (arith, l.auto.span-end, c.requires.among.0)) in
    let last = span-few sp.depth (divisor_of sp.bits) sp.x sp.y ((a.run.end - 1) * (2 * 2 ^ a.self.now.plan.depth % 2 ^ 64)) l.points c.fill_span-exact-2.result c.fill_span-exact-2.new.points sp.shallow c.fill_span-exact-2.ensures in
    let most = rounds-most (divisor_of sp.bits) (ending sp.depth sp.x sp.y) (a.run.end * (2 * 2 ^ a.self.now.plan.depth % 2 ^ 64)) 0 c.fill_span-exact-2.new.points (outcome c.put_end.result c.put_end.new.points) c.put_end.ensures in
    omega (arith, before, last, most)

pub returns : goal.returns
returns g c =
    let a = c.args in
    let l = c.loop-span in
    let sp = c.span-ending.result in
    let e = c.span-ending.ensures in
    let drawn : Drawn a.self.now.plan a.self.now.controls.now (a.run.end - 1) sp.depth (divisor_of sp.bits) sp.x sp.y = record { depth = e.depth_value.0; over = e.depth_value.1; on_x = e.x_value; on_y = e.y_value } in
    let all = final a.self.now a.run.start a.run.end c.requires.among a.points.now l.span l.exact l.points l.invariant (omega (arith, l.auto.span-end, c.loop-span-test.false, c.requires.among.0)) sp.depth (divisor_of sp.bits) sp.x sp.y drawn
    c.fill_span-exact-2.result c.fill_span-exact-2.new.points c.fill_span-exact-2.auto.points c.fill_span-exact-2.ensures in
    end a.self.now a.run.start a.run.end c.requires.among a.points.now a.run.end (l.exact + c.fill_span-exact-2.result) c.fill_span-exact-2.new.points all refl sp.depth (divisor_of sp.bits) sp.x sp.y drawn
    c.put_end.result c.put_end.new.points c.put_end.ensures
