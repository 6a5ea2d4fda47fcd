-- The spans still to be written, written to the present list, make the whole.
use Rattle.std.proofs.Common.{◌≡◌, ◌*◌, ◌-◌, ◌^◌}
use Rattle.std.proofs.lemmas.List.Edits.{sets}
use Rattle.preview.specs.Halving.{halved}
use Rattle.preview.proofs.fill_spans.Given as goal

abbrev pub invariant-loop-s : goal.invariant-loop-s
invariant-loop-s l = sets l.points (2 * (l.s * 2 ^ l.depth)) (halved l.controls l.depth l.s (l.spans - l.s)) ≡ sets l.initial.points 0 (halved l.controls l.depth 0 l.spans)
