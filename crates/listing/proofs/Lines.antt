-- A line that was built word after word, each with a character after it.
use Prim.Native.Nat.{ℕ}
use mathlib.Core.List.{List, [], ◌∷◌, ◌++◌, append_assoc}
use mathlib.Core.Path.{◌≡◌, sym, ap, ◌∙◌}

-- `line` became `longer` by a word that is known, and a character
pub record Adds (line : List ℕ) (word : List ℕ) (mark : ℕ) (longer : List ℕ) : Type 0 where
  pub is : longer ≡ line ++ (word ++ (mark ∷ []))

pub adds : (line longer : List ℕ) (word known : List ℕ) (mark : ℕ) → known ≡ word → longer ≡ line ++ (word ++ (mark ∷ [])) → Adds line known mark longer
adds line longer word known mark same is = record { is = is ∙ ap (λ (w : List ℕ). line ++ (w ++ (mark ∷ []))) (sym same) }

-- the three words of a point's line, and of a refusal's
pub three : {none one two all : List ℕ} {a b c : List ℕ} {x y z : ℕ} → none ≡ [] → Adds none a x one → Adds one b y two → Adds two c z all → all ≡ a ++ (x ∷ (b ++ (y ∷ (c ++ (z ∷ [])))))
three {none} {one} {two} {all} {a} {b} {c} {x} {y} {z} empty first second third =
    let ends : List ℕ → List ℕ = λ l. l ++ (c ++ (z ∷ [])) in
    let goes : List ℕ → List ℕ = λ l. l ++ (b ++ (y ∷ [])) in
    let starts : List ℕ → List ℕ = λ l. l ++ (a ++ (x ∷ [])) in
    third.is ∙ ap ends (second.is ∙ ap goes (first.is ∙ ap starts empty)) ∙ simp append_assoc
