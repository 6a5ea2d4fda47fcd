-- A word that fits stands behind the text, and one that does not is left out.
use Rattle.std.proofs.Common.{ℕ, List, take, arith, ap, ◌∙◌}
use Rattle.std.specs.Prelude.{unwrap_or}
use Rattle.console.specs.Text.{with_word}
use Rattle.console.proofs.Put.{Put, put}
use Rattle.console.proofs.text.Text.add_word.Given.{Over}
use Rattle.console.proofs.text.Text.add_word.Goals as goal
use Rattle.console.proofs.text.Text.add_word.Goals.{After-unwrap_or-self-inside}

behind : (g : Over) (c : After-unwrap_or-self-inside g) → Put c.self.inside.bytes c.put_word.new.text g.row.N c.self.inside.end c.args.word.now (unwrap_or c.put_word.result c.self.inside.end)
behind g c = put c.self.inside.bytes c.put_word.new.text g.row.N c.self.inside.end c.args.word.now c.put_word.result (omega arith) (omega arith) c.put_word.ensures

pub invariant_of-self : goal.invariant_of-self
invariant_of-self g c =
    let b = behind g (goal.at.invariant_of-self g c).After-unwrap_or-self-inside in
    omega (arith, b.within, c.unwrap_or-self-inside.ensures)

pub returns : goal.returns
returns g c =
    let b = behind g (goal.at.returns g c).After-unwrap_or-self-inside in
    ap (λ (n : ℕ). take n c.put_word.new.text) c.unwrap_or-self-inside.ensures
    ∙ b.text
    ∙ ap (λ (text : List ℕ). with_word g.row.N text c.args.word.now) c.self.view_is
