-- What a call that writes text answers and leaves: the text stands whole in the lent list from a place on, or nothing is changed. Definitions only.
use Rattle.std.specs.Prelude.{ℕ, ◌+◌, ◌≤◌, cond, List, ◌++◌, ◌≡◌, leb, length, take, drop, Option, Some, None}
use Rattle.whole.specs.Outcome.{Outcome, outcome}

-- The first `end` characters are a part of a text. The second half follows from the first; both are said, so that the proof that is made of a caller's `&text[..end]` finds them.
abbrev pub Within : ℕ → List ℕ → Type 0
Within end text = (end ≤ length text) × (end ≡ length (take end text))

-- `text` from place `at` on, all else kept, and the place just past it; where it does not fit, `None`, and all is kept
unfoldable pub written : List ℕ → ℕ → List ℕ → Outcome (Option ℕ) (List ℕ)
written lent at text =
    cond (leb (at + length text) (length lent))
    (outcome (Some (at + length text)) (take at lent ++ text ++ drop (at + length text) lent))
    (outcome None lent)
