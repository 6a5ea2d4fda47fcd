-- What is known of a listing that was written: how many characters were handed on. What a descriptor took of them, no contract of the language can say. Definitions only.
use Rattle.std.specs.Prelude.{List, ◌≡◌, ℕ, ◌≤◌, ℤ, length, Result, Ok, Err}
use Rattle.file_list.specs.Parts.{most_part, part_text}
use Rattle.shape.specs.declared.Refusal.{Refusal}
use Rattle.shape.specs.declared.Shape.{Shape}

-- As many as the text has, unless a write failed.
abbrev pub Handed : {E : Type 0} → Result ℕ E → List ℕ → Type 0
Handed (Ok n) text = n ≡ length text
Handed (Err e) text = Unit {0}

-- For contracts inside the project alone: each part of a listing fits the room for one, as those of every file do.
abbrev pub Fitting : Result Shape Refusal → List ℤ → Type 0
Fitting reading controls = (i : ℕ) → length (part_text reading controls i) ≤ most_part
