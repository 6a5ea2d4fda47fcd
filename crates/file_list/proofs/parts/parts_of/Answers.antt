-- A sound shape has few spans.
use mathlib.Core.Path.{sym, ◌∙◌}
use native.Mathlib.Omega.{arith}
use Rattle.shape.proofs.Refusals.{sound-facts}
use Rattle.file_list.proofs.parts.parts_of.Goals as goal

pub overflow_add-result : goal.overflow_add-result
overflow_add-result c =
    let good = sound-facts c.in-Ok.shape c.in-Ok-check_shape.plan (sym c.check_shape.ensures ∙ c.in-Ok-check_shape.is) in
    omega (arith, good.spans-most, good.records-most)
