-- The constant is the rule's list: antt computes the rule at all 514 entries and finds the same numbers. A 32-bit weight keeps its value at 64 bits.
use mathlib.Core.Path.{◌≡◌, refl, ap, ◌∙◌}
use borrow.Author.Rules.{rules}
use lib.IntN.{pos}
use lib.ListN.{get_or}
use mir.Syntax.{w32}
use mir.Val.{SFits}
use Rattle.whole.proofs.Fit.{widened}
use Rattle.curve.specs.Tab.{tab}
use Rattle.curve.specs.Published.{weights}
use Rattle.curve.specs.Ways.{table_entry, nth, weight_table}
use Rattle.curve.specs.declared.weights.TheConstants.{WEIGHTS}
use Rattle.curve.proofs.weights.weight.Goals as goal

table-is : WEIGHTS ≡ weight_table
unfolding weight_table tab table_entry nth weights
table-is = refl

pub returns : goal.returns
returns c =
    let z = get_or WEIGHTS c.args.entry (pos 0) in
    let fits : SFits w32 z = search rules in
    widened z fits ∙ ap (λ l. get_or l c.args.entry (pos 0)) table-is
