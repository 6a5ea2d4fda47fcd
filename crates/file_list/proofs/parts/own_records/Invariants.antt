-- At each turn the numbers still to be copied, copied to the present list, make the whole, and those passed are all in the list.
use Rattle.std.proofs.Common.{◌≡◌, ℕ, ◌-◌, ◌≤◌, ◌<◌, length}
use lib.Seq.{sets}
use Rattle.curve.specs.Tab.{tab}
use Rattle.file_list.specs.Inner.{own_numbers}
use Rattle.file_list.proofs.OwnRecords.{place, own_number}
use Rattle.file_list.proofs.parts.own_records.Given as goal

abbrev pub invariant-loop-q : goal.invariant-loop-q
invariant-loop-q l =
    let f = l.fn in
    (l.q ≤ own_numbers) × (length l.own ≡ own_numbers) × ((k : ℕ) → k < l.q → place f.basis f.controls f.span k < length f.controls)
    × (sets l.own l.q (tab (own_number f.basis f.controls f.span) l.q (own_numbers - l.q)) ≡ tab (own_number f.basis f.controls f.span) 0 own_numbers)
