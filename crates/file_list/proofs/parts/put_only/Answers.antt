-- There is no other part than the first.
use Rattle.file_list.specs.Files.{refused_text}
use Rattle.file_list.proofs.EachPart.{only-later, no_text}
use Rattle.file_list.proofs.parts.put_only.Goals as goal

pub returns-else-part-eq0 : goal.returns-else-part-eq0
returns-else-part-eq0 c = let a = c.args in no_text a.text.now _ (only-later (refused_text a.refusal) a.part c.if-part-eq0.false)
