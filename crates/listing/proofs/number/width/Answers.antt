-- A number from 10 ^ k on and below 10 ^ (k + 1) has k + 1 digits; 0 has one.
use Rattle.std.proofs.Common.{◌^◌, ◌<◌, suc, arith}
use native.Mathlib.Nat.{pow-suc}
use Rattle.listing.proofs.Digits.{at_least, at_most, width_few}
use Rattle.listing.proofs.number.width.Goals as goal

pub returns-in-Some-clause-value : goal.returns-in-Some-clause-value
returns-in-Some-clause-value c =
    let n = c.args.n in
    let k = c.in-Some.log in
    let below : n < 10 ^ suc k = omega (arith, pow-suc 10 k, c.in-Some.ensures.next_power_gt) in
    omega (arith, at_least k n c.in-Some.ensures.power_le, at_most k n below)

pub returns-in-None-clause-value : goal.returns-in-None-clause-value
returns-in-None-clause-value c = omega (arith, width_few c.args.n (omega (arith, c.in-None.ensures.none)))
