-- What an answer tells in document 01's words, its number and its values, and "given exactly when" ("Refusal numbers"), of any kind of call. Definitions only.
use Rattle.std.specs.Prelude.{List, [], ◌∷◌, ◌⊎◌, ◌≡◌, ℕ, ◌<◌, ℤ, pos}
use Rattle.shape.specs.declared.Refusal.{Refusal}
use Rattle.shape.specs.Refusals.{Row, First, NoRow}

-- A refusal, or the values of an accepted call. Each answer's own definition is beside it.
pub data Told : Type 0 where
  Refuses : Refusal → Told
  Accepts : List ℤ → Told

-- The number: the refusal's, or 0.
abbrev pub number : Told → ℕ
number (Refuses r) = r.number
number (Accepts v) = 0

-- The values: the refusal's place, or those of the accepted call.
abbrev pub values : Told → List ℤ
values (Refuses r) = pos r.place ∷ []
values (Accepts v) = v

-- An answer with a refusal's number and place; no refusal has number 0.
pub record Gives (told : Told) (r : Refusal) : Type 0 where
  pub some : 0 < r.number
  pub same : number told ≡ r.number
  pub place : values told ≡ pos r.place ∷ []

-- A call with these rows told this: all that was lent, a drawing step's state too, came as `came` and is now `now`; an accepted call gives `given` and leaves `left`.
pub record Exactly {L : Type 0} (rows : List Row) (told : Told) (came now : L) (given : List ℤ) (left : L) : Type 0 where
  -- a refusal's number and place are given exactly when it is that of the first row that holds
  pub refused : (r : Refusal) → (Gives told r → First rows r) × (First rows r → Gives told r)
  -- 0 is given exactly when no row holds
  pub accepted : (number told ≡ 0 → NoRow rows) × (NoRow rows → number told ≡ 0)
  -- one of the two happens
  pub either : ((r : Refusal) × Gives told r) ⊎ (number told ≡ 0)
  -- a refusal changes no lent number and no state
  pub kept : 0 < number told → now ≡ came
  -- and whatever refusal is answered, the whole outcome is that of the first row that holds
  pub whole : (r : Refusal) → told ≡ Refuses r → First rows r × (now ≡ came)
  -- an accepted call has its values, and leaves what it is said to
  pub done : number told ≡ 0 → (values told ≡ given) × (now ≡ left)
