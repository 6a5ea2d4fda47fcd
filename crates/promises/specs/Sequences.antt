-- What demand 3 asks of a state after any calls. Definitions only.
use Rattle.std.specs.Prelude.{◌≡◌, ℕ, ◌*◌, ◌<◌, pos, get_or}
use Rattle.shape.specs.Refusals.{plan_of}
use Rattle.outline.specs.Outline.{points}
use Rattle.sequences.specs.Played.{State}
use Rattle.promises.specs.Points.{published_number}

-- Each number of the outline, as it stands in the lent points, is the published curve's for the controls as they stand.
abbrev pub Published : State → Type 0
Published t =
    let p = plan_of t.shape in
    (q : ℕ) → q < 2 * points p → get_or t.held q (pos 0) ≡ published_number p t.controls q
