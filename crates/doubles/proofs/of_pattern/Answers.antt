-- The remainders and the quotient are the pattern's fields by IEEE 754, and each way out is a case of `Patterns`.
use Rattle.std.proofs.Common.{◌∙◌, sym, arith, ◌/◌, ◌%◌, ◌^◌}
use lib.Dec.{leb}
use lib.Ieee.{of_bits}
use Rattle.doubles.proofs.Patterns.{field-tiny, field-ones, field-far, field-between}
use Rattle.doubles.proofs.of_pattern.Goals as goal

pub returns-then-field-lt-SMALL : goal.returns-then-field-lt-SMALL
unfolding of_bits
returns-then-field-lt-SMALL c =
    let b = c.args.bits in
    sym (field-tiny (leb (2 ^ 63) b) (b % 2 ^ 63 / 2 ^ 52) (b % 2 ^ 52) (omega arith) c.if-field-lt-SMALL.true)

pub returns-then-field-eq-ONES : goal.returns-then-field-eq-ONES
unfolding of_bits
returns-then-field-eq-ONES c =
    let b = c.args.bits in
    sym (field-ones (leb (2 ^ 63) b) (b % 2 ^ 63 / 2 ^ 52) (b % 2 ^ 52) c.if-field-eq-ONES.true)

pub returns-then-field-gt-LARGE : goal.returns-then-field-gt-LARGE
unfolding of_bits
returns-then-field-gt-LARGE c =
    let b = c.args.bits in
    sym (field-far (leb (2 ^ 63) b) (b % 2 ^ 63 / 2 ^ 52) (b % 2 ^ 52) c.if-field-gt-LARGE.true c.if-field-eq-ONES.false)

pub returns : goal.returns
unfolding of_bits
returns c =
    let b = c.args.bits in
    c.scaled.ensures ∙ sym (field-between (leb (2 ^ 63) b) (b % 2 ^ 63 / 2 ^ 52) (b % 2 ^ 52) (omega arith) c.if-field-gt-LARGE.false)
