-- What is known of a shape that the checks pass is what the struct keeps.
use mathlib.Core.Path.{sym, ◌∙◌}
use Rattle.shape.proofs.Refusals.{sound-facts}
use Rattle.shape.proofs.sound.SoundShapeTryFromShape.try_from.Goals as goal

pub invariant_of-result : goal.invariant_of-result
invariant_of-result c = record { good = sound-facts c.args.shape c.in_ok-plan.plan (sym c.check_shape.ensures ∙ c.in_ok-plan.was) }
