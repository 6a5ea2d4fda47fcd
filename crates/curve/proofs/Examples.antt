-- Computed points. The shortcut that document 01 names first, rounding the converted controls before the sum, would give P4's middle as 1: its exact value is 23/48, so it is 0.
use mathlib.Core.Path.{◌≡◌, refl}
use Prim.Native.Nat.{◌*◌, ◌^◌}
use lib.IntN.{pos}
use Rattle.whole.specs.Nearest.{half_up, nearest}
use Rattle.curve.specs.declared.Basis.TheVariants.{BSpline, Cardinal, Loop}
use Rattle.curve.specs.Four.{four, dot}
use Rattle.curve.specs.Published.{denominator, published, cubic, weights}
use Rattle.curve.specs.Span.{first_record, records_from, round_end, records, whole_controls, weighted, point}

pub rounded-once : point BSpline 1 (four (pos 0) (pos 1) (pos 0) (pos 0)) 1 ≡ pos 0
unfolding point whole_controls weighted weights dot nearest half_up
rounded-once = refl

-- Document 02, request 7: 64 is a whole parameter. The middle between 1,000 and 1,000, with 0 on both sides, is 1,250 there, by the published matrix; at one half it is 1,125 (P5).
pub whole-parameter : published (Cardinal 64) (four (pos 0) (pos 1000) (pos 1000) (pos 0)) (pos 1) (pos 2) ≡ pos (1250 * (denominator (Cardinal 64) * 2 ^ 3))
unfolding published cubic dot
whole-parameter = refl

-- Document 02, request 8: the records of a loop of four run round.
pub counted-round : records (Loop 4) 2 (λ r. pos (10 * r)) ≡ four (pos 20) (pos 30) (pos 0) (pos 10)
unfolding first_record records_from round_end
counted-round = refl
