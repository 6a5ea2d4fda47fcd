-- What is known of the bytes that were read: how many there are. What they are, no contract of the language can say.
use Rattle.std.specs.Prelude.{List, ℕ, Option, Some, None}
use Rattle.std.specs.Counts.{IsPrefixLen}

abbrev pub Taken : Option ℕ → List ℕ → Type 0
Taken (Some n) l = IsPrefixLen n l
Taken None l = Unit {0}
