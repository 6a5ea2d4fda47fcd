-- Lists written into a list, one after another.
use mathlib.Core.Path.{◌≡◌, sym, ap, ◌∙◌}
use mathlib.Core.List.{List, [], ◌∷◌, ◌++◌}
use Prim.Native.Nat.{ℕ, suc, ◌+◌}
use native.Mathlib.Nat.{add-zero, add-suc, suc-add}
use lib.ListN.{length, set}
use lib.Seq.{sets}

-- two lists written one after the other are one list written
pub sets-append : {A : Type 0} (l : List A) (i : ℕ) (vs ws : List A) → sets l i (vs ++ ws) ≡ sets (sets l i vs) (i + length vs) ws
sets-append l i [] ws = ap (λ (n : ℕ). sets l n ws) (sym (add-zero i))
sets-append l i (a ∷ vs) ws = sets-append (set l i a) (suc i) vs ws ∙ ap (λ (n : ℕ). sets (sets (set l i a) (suc i) vs) n ws) (suc-add i (length vs) ∙ sym (add-suc i (length vs)))
