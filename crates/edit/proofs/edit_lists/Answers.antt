-- The controls are those asked for, and the points are worked from them.
use Rattle.std.proofs.Common.{ℕ, ◌+◌, ◌*◌, List, ℤ, sym, ap, ◌∙◌}
use Rattle.std.specs.Prelude.{Ok}
use Rattle.whole.specs.Outcome.{outcome}
use Rattle.spans.specs.Numbers.{per_span}
use Rattle.spans.specs.Filled.{filled}
use Rattle.outline.proofs.Draws.{all-numbers}
use Rattle.asked.specs.Edits.{exact_fresh, point_at, run_of}
use Rattle.edit.specs.Reading.{change, controls_after}
use Rattle.edit.proofs.edit_lists.Goals as goal

pub returns : goal.returns
returns c =
    let a = c.args in
    let q = a.plan in
    let lent = a.points.now in
    let worked : List ℤ → ℕ → List ℤ = λ controls n. filled (point_at a.edit q a.place controls lent) 0 n lent in
    let all = q.spans * per_span q.depth + 2 in
    let exact = c.work-exact.ensures.value ∙ ap (exact_fresh (run_of a.edit q a.place) q) c.ask.ensures in
    let answer = c.change_of.ensures ∙ ap (change a.edit a.shape q a.place) exact in
    let points = c.work-exact.ensures.points_after ∙ ap (λ l. worked l all) c.ask.ensures ∙ ap (worked (controls_after a.edit a.shape a.place a.controls.now)) (sym (all-numbers q.depth q.spans)) in
    λ i. outcome (Ok (answer i)) (c.ask.ensures i, points i)
