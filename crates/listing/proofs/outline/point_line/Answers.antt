-- Three numbers, each with the character after it.
use Rattle.std.proofs.Common.{w32, to_z, of_z}
use Rattle.std.specs.Fmt as printed
use Rattle.listing.specs.Decimal.{natural, decimal}
use Rattle.listing.specs.Listing.{space, newline}
use Rattle.listing.proofs.Lines.{adds, three}
use Rattle.listing.proofs.Printed.{natural-printed, narrow-printed}
use Rattle.listing.proofs.outline.point_line.Goals as goal

pub returns : goal.returns
returns c =
    let number = adds c.new-line.result.items c.add_number.new.line.items (printed.decimal c.args.number) (natural c.args.number) space (natural-printed c.args.number c.ranges.number.fits) c.add_number.ensures.added in
    let x = adds c.add_number.new.line.items c.add_number-2.new.line.items (printed.signed_decimal (to_z w32 (of_z w32 c.args.x))) (decimal c.args.x) space (narrow-printed c.args.x c.ranges.x) c.add_number-2.ensures.added in
    let y = adds c.add_number-2.new.line.items c.add_number-3.new.line.items (printed.signed_decimal (to_z w32 (of_z w32 c.args.y))) (decimal c.args.y) newline (narrow-printed c.args.y c.ranges.y) c.add_number-3.ensures.added in
    three c.new-line.ensures number x y
