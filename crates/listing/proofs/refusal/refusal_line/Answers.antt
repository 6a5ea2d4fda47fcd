-- The word, and two numbers, each with the character after it.
use Rattle.std.proofs.Common.{refl}
use Rattle.std.specs.Fmt.{decimal}
use Rattle.listing.specs.Decimal.{natural}
use Rattle.listing.specs.Listing.{space, newline, refused}
use Rattle.listing.proofs.Lines.{adds, three}
use Rattle.listing.proofs.Printed.{natural-printed}
use Rattle.listing.proofs.refusal.refusal_line.Goals as goal

pub returns : goal.returns
returns c =
    let word = adds c.new-line.result.items c.try_extend_from_slice.new.self.items refused refused space refl (rw c.unwrap.ensures at c.try_extend_from_slice.ensures.ok) in
    let number = adds c.try_extend_from_slice.new.self.items c.add_number.new.line.items (decimal c.args.number) (natural c.args.number) space (natural-printed c.args.number c.ranges.number.fits) c.add_number.ensures.added in
    let place = adds c.add_number.new.line.items c.add_number-2.new.line.items (decimal c.args.place) (natural c.args.place) newline (natural-printed c.args.place c.ranges.place.fits) c.add_number-2.ensures.added in
    three c.new-line.ensures word number place
