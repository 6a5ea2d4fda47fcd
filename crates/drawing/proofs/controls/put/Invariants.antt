-- What is left to write, written now, is the whole.
use Rattle.std.proofs.Common.{◌≡◌, ◌+◌, ◌*◌, drop}
use Rattle.std.proofs.lemmas.List.Edits.{sets}
use Rattle.drawing.specs.Drawing.{flat}
use Rattle.drawing.proofs.controls.put.Given as goal

abbrev pub invariant-loop-i : goal.invariant-loop-i
invariant-loop-i l = sets l.controls (l.at + 2 * l.i) (flat (drop l.i l.records)) ≡ sets l.initial.controls l.at (flat l.records)
