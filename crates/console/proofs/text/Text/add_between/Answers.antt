-- The first item's number, and the others behind it.
use Rattle.std.proofs.Common.{ℕ, List, sym, ap, ◌∙◌}
use Rattle.console.specs.Text.{with_word, with_each, with_between}
use Rattle.console.proofs.text.Text.add_between.Goals as goal

pub returns-in-Some : goal.returns-in-Some
returns-in-Some g c =
    λ text acts.
    let first = acts c.in-Some.first.now c.number.result c.number.ensures in
    c.add_each.ensures text acts
    ∙ ap (λ (t : List ℕ). with_each g.row.N text t c.in-Some.others.now) (c.add_number.ensures ∙ ap (with_word g.row.N c.args.self.now) first)
    ∙ sym (ap (with_between g.row.N text c.args.self.now) c.in-Some.ensures.cases.0)
