-- The two tests are the count's: a sum of which nothing is left over is a multiple of its divisor, so of 2^bits.
use mathlib.Core.Path.{◌≡◌, sym, ap, ◌∙◌}
use mathlib.Core.Bool.{false}
use Prim.Native.Nat.{ℕ, ◌%◌, ◌^◌}
use borrow.Author.Tests.{eqb-false}
use lib.IntN.{ℤ, nat_abs}
use lib.ListN.{set}
use mir.Syntax.{w64}
use mir.Val.{SFits}
use Rattle.whole.specs.declared.Rounding.{Rounding}
use Rattle.whole.specs.Nearest.{rounding}
use Rattle.whole.specs.Inner.{multiple_of}
use Rattle.whole.specs.Outcome.{outcome}
use Rattle.whole.proofs.Remainder.{nought-multiple}
use Rattle.whole.proofs.Fit.{kept, kept-is}
use Rattle.curve.specs.Inner.{divisor_of}
use Rattle.spans.proofs.Rounds.{exact_one, exact_none}
use Rattle.spans.proofs.Stored.{whole-fits, stored, tested, untested}
use Rattle.spans.proofs.point.put_number.Goals as goal

-- what a rounding answers, for the sum as it was passed
of_sum : (sum : ℤ) (d : ℕ) → SFits w64 sum → {r : Rounding} → r ≡ rounding (kept w64 sum) d → r ≡ rounding sum d
of_sum sum d f e = e ∙ ap (λ x. rounding x d) (kept-is w64 sum f)

pub overflow_cast-points : goal.overflow_cast-points
overflow_cast-points c =
    let a = c.args in
    whole-fits a.bits c.requires.bits_le_most_bits a.sum c.requires.sum_bound c.rounded.result (of_sum a.sum (divisor_of a.bits) c.ranges.sum c.rounded.ensures)

pub returns-then-not-is_multiple : goal.returns-then-not-is_multiple
returns-then-not-is_multiple c =
    let a = c.args in
    let e = 2 ^ a.bits in
    let number = stored a.bits c.requires.bits_le_most_bits a.sum c.requires.sum_bound c.rounded.result (of_sum a.sum (divisor_of a.bits) c.ranges.sum c.rounded.ensures) in
    let none : multiple_of e a.sum ≡ false = sym (c.is_multiple.ensures ∙ ap (multiple_of e) (kept-is w64 a.sum c.ranges.sum)) ∙ c.if-not-is_multiple.true in
    let count = exact_none (divisor_of a.bits) a.sum a.exact (λ h. eqb-false (nat_abs a.sum % e) 0 none (nought-multiple a.sum 6 e h)) in
    λ i. outcome (count i) (set a.points.now a.at (number i))

pub overflow_cast-points-2 : goal.overflow_cast-points-2
overflow_cast-points-2 c =
    let a = c.args in
    whole-fits a.bits c.requires.bits_le_most_bits a.sum c.requires.sum_bound c.rounded-rounding.result (of_sum a.sum (divisor_of a.bits) c.ranges.sum c.rounded-rounding.ensures)

pub returns-then-rounding-eq0 : goal.returns-then-rounding-eq0
returns-then-rounding-eq0 c =
    let a = c.args in
    let answer = of_sum a.sum (divisor_of a.bits) c.ranges.sum c.rounded-rounding.ensures in
    let number = stored a.bits c.requires.bits_le_most_bits a.sum c.requires.sum_bound c.rounded-rounding.result answer in
    let count = exact_one (divisor_of a.bits) a.sum a.exact (tested a.bits c.requires.bits_le_most_bits a.sum c.requires.sum_bound c.rounded-rounding.result answer c.if-rounding-eq0.true) in
    λ i. outcome (count i) (set a.points.now a.at (number i))

pub returns-else-rounding-eq0 : goal.returns-else-rounding-eq0
returns-else-rounding-eq0 c =
    let a = c.args in
    let answer = of_sum a.sum (divisor_of a.bits) c.ranges.sum c.rounded-rounding.ensures in
    let number = stored a.bits c.requires.bits_le_most_bits a.sum c.requires.sum_bound c.rounded-rounding.result answer in
    let count = exact_none (divisor_of a.bits) a.sum a.exact (λ e. c.if-rounding-eq0.false (untested a.bits c.requires.bits_le_most_bits a.sum c.requires.sum_bound c.rounded-rounding.result answer e)) in
    λ i. outcome (count i) (set a.points.now a.at (number i))
