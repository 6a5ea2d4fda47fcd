-- What is put is what the library prints of the number, which is its text.
use Rattle.std.proofs.Common.{sym, ap, ◌∙◌}
use Rattle.listing.specs.Written.{written}
use Rattle.listing.proofs.Printed.{held-printed}
use Rattle.listing.proofs.number.put_decimal.Goals as goal

pub returns : goal.returns
returns c =
    let text = c.as_bytes.ensures.value ∙ c.format.ensures.text ∙ sym (held-printed c.args.z c.ranges.z) in
    c.put_word.ensures ∙ ap (written c.args.text.now c.args.at) text
