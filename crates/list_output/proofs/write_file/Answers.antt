-- What was handed on are the parts of the file that was read, and so its listing.
use Rattle.std.proofs.Common.{subst}
use Rattle.list_output.specs.Written.{Handed}
use Rattle.list_output.proofs.Files.{fitting, listing}
use Rattle.list_output.proofs.write_file.Goals as goal

pub write_parts-written-requires : goal.write_parts-written-requires
write_parts-written-requires g c =
    let got = c.read-reading in
    fitting c.args.file.now got.result got.new.controls got.ensures

pub returns-clause-handed : goal.returns-clause-handed
returns-clause-handed g c =
    let got = c.read-reading in
    subst (Handed c.write_parts-written.result) (listing c.args.file.now got.result got.new.controls got.ensures) c.write_parts-written.ensures
