-- Where the test on x fails the piece is not flat; else it is what the test on y says.
use mathlib.Core.Path.{sym, ap, ◌∙◌}
use mathlib.Core.Bool.{◌&&◌}
use Rattle.curve.specs.Span.{divisor}
use Rattle.pieces.specs.Tree.{flat_on, is_flat}
use Rattle.pieces.proofs.Piece.is_flat.Goals as goal

pub returns-then-is_flat_on : goal.returns-then-is_flat_on
unfolding is_flat
returns-then-is_flat_on c =
    let a = c.args in
    c.is_flat_on-then-is_flat_on.ensures
    ∙ sym (ap (λ t. t && flat_on (divisor a.rule.basis a.self.level) a.rule.tolerance a.self.y) (sym c.is_flat_on.ensures ∙ c.if-is_flat_on.true))

pub returns-else-is_flat_on : goal.returns-else-is_flat_on
unfolding is_flat
returns-else-is_flat_on c =
    let a = c.args in
    c.if-is_flat_on.false ∙ sym (ap (λ t. t && flat_on (divisor a.rule.basis a.self.level) a.rule.tolerance a.self.y) (sym c.is_flat_on.ensures ∙ c.if-is_flat_on.false))
