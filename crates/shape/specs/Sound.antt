-- For contracts inside the project alone: no public contract uses what is here.
-- What finding a shape sound comes to: the shape itself with the plan that it is judged to, or the refusal.
use Rattle.std.specs.Prelude.{◌≡◌, MatchResult, Err, Ok, Result}
use Rattle.shape.specs.declared.Shape.{Shape}
use Rattle.shape.specs.declared.Refusal.{Refusal}
use Rattle.shape.specs.declared.sound.SoundShape.{SoundShape}
use Rattle.shape.specs.Refusals.{judge_shape}

abbrev pub Found : Shape → Result SoundShape Refusal → Type 0
Found s r = MatchResult r (λ sound. (sound.shape ≡ s) × (judge_shape s ≡ Ok sound.plan)) (λ refusal. judge_shape s ≡ Err refusal)
