-- Each turn adds the next item's number.
use Rattle.std.proofs.Common.{◌≡◌, ℕ, List, take}
use Rattle.console.specs.Text.{with_each}
use Rattle.console.proofs.text.Text.add_each.Given as goal

abbrev pub invariant-loop-item : goal.invariant-loop-item
invariant-loop-item g l =
    (text : g.row.T.Denot → List ℕ) → ((x : g.row.T.Denot) (n : g.row.I.Denot) → g.F.Fn.post l.number (x, tt) n → g.I.Integer.text n ≡ text x) → l.self ≡ with_each g.row.N text l.fn.self (take l.item-index l.items)
