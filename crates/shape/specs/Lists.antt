-- "An accepted call keeps all lent numbers but those it is said to write" (document 01, "Refusal numbers"). Definitions only.
use Rattle.std.specs.Prelude.{List, ◌≡◌, ℕ, ◌≤◌, ◌<◌, get_or, length}

-- A lent list as it came and as a call left it: as long as it was, with the same number everywhere but from place `start` to before place `end`.
pub record Keeps {A : Type 0} (start end : ℕ) (came left : List A) : Type 0 where
  pub long : length left ≡ length came
  pub before : (q : ℕ) (d : A) → q < start → get_or left q d ≡ get_or came q d
  pub past : (q : ℕ) (d : A) → end ≤ q → get_or left q d ≡ get_or came q d
