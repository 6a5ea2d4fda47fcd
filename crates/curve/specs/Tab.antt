-- A list made by a rule.
use Rattle.std.specs.Prelude.{List, [], ◌∷◌, ℕ, zero, suc}

-- The list of f i, f (i + 1), .., n of them.
unfoldable pub tab {ℓ} : {A : Type ℓ} → (ℕ → A) → ℕ → ℕ → List A
tab f i zero = []
tab f i (suc n) = f i ∷ tab f (suc i) n
