-- The end of the last span, rounded at either place of the joint, is the outline's numbers there.
use mathlib.Core.Path.{sym, ap, ◌∙◌}
use Rattle.curve.specs.Span.{divisor}
use Rattle.spans.specs.Inner.{ending, rounds}
use Rattle.spans.proofs.Joint.{joint-sums}
use Rattle.spans.proofs.Rounds.{rounds-outline}
use Rattle.spans.proofs.draft.Draft.put_joint.Goals as goal

pub returns : goal.returns
returns c =
    let a = c.args in
    let d = a.self.now in
    let p = d.plan in
    let e = c.span.ensures in
    c.put_end.ensures
    ∙ (λ i. rounds (e.depth_value.1 i) (ending (e.depth_value.0 i) (e.x_value i) (e.y_value i)) a.at 0 a.points.now)
    ∙ ap (λ sums. rounds (divisor p.basis p.depth) sums a.at 0 a.points.now) (sym (joint-sums p d.controls.now d.drawable.round c.requires.0.0 d.some a.at c.requires.0))
    ∙ rounds-outline p d.controls.now a.at 2 a.points.now
