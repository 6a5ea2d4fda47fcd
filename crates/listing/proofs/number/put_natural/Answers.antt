-- What is put is what the library prints of the number, which is its text.
use Rattle.std.proofs.Common.{sym, ap, ◌∙◌}
use Rattle.listing.specs.Written.{written}
use Rattle.listing.proofs.Printed.{natural-printed}
use Rattle.listing.proofs.number.put_natural.Goals as goal

pub returns : goal.returns
returns c =
    let text = c.as_bytes.ensures.value ∙ c.format.ensures.text ∙ sym (natural-printed c.args.n c.ranges.n.fits) in
    c.put_word.ensures ∙ ap (written c.args.text.now c.args.at) text
