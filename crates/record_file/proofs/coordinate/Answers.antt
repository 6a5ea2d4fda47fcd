-- Four bytes make a word of less than 2^32, and the machine's two's complement of it is the definition's.
use Rattle.std.proofs.Common.{rules, ◌≡◌, ◌∙◌, ap, ◌+◌, ◌*◌, ◌^◌, ◌<◌, get_or, to_z, w32, arith}
use Rattle.whole.proofs.Fit.{kept-is}
use Rattle.record_file.specs.Format.{word}
use Rattle.record_file.proofs.Words.{machine}
use Rattle.record_file.proofs.coordinate.Goals as goal

pub returns : goal.returns
unfolding word
returns c =
    let bytes = c.args.bytes.now in
    let at = c.args.at in
    let a = get_or bytes at 0 in
    let b = get_or bytes (at + 1) 0 in
    let c' = get_or bytes (at + 2) 0 in
    let d = get_or bytes (at + 3) 0 in
    let is : a + b * 256 + c' * 65536 + d * 16777216 ≡ word bytes at = omega arith in
    let small : word bytes at < 2 ^ 32 = omega (arith, c.fits-bytes at, c.fits-bytes (at + 1), c.fits-bytes (at + 2), c.fits-bytes (at + 3)) in
    kept-is w32 c.from_le_bytes.result (search rules) ∙ c.from_le_bytes.ensures ∙ ap (to_z w32) is ∙ machine (word bytes at) small
