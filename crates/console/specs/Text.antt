-- What a text that a program writes comes to: its characters, of which it has room for so many. Definitions only.
use Rattle.std.specs.Prelude.{ℕ, ◌+◌, cond, leb, List, [], ◌∷◌, ◌++◌, length, fold}

-- with a word behind it; one that does not fit is left out
abbrev pub with_word : ℕ → List ℕ → List ℕ → List ℕ
with_word room text word = cond (leb (length text + length word) room) (text ++ word) text

-- with a space, and a word behind that
abbrev pub with_spaced : ℕ → List ℕ → List ℕ → List ℕ
with_spaced room text word = with_word room (with_word room text (32 ∷ [])) word

-- with a space and the word of each item, one after another
abbrev pub with_each : {X : Type 0} → ℕ → (X → List ℕ) → List ℕ → List X → List ℕ
with_each room word text items = fold (λ text x. with_spaced room text (word x)) text items

-- with the word of each item, and a space between them
abbrev pub with_between : {X : Type 0} → ℕ → (X → List ℕ) → List ℕ → List X → List ℕ
with_between room word text [] = text
with_between room word text (item ∷ items) = with_each room word (with_word room text (word item)) items
