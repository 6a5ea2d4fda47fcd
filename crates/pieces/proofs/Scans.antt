-- The walk down the trees is the scan of the pieces in the order in which they are met.
use Rattle.std.specs.Prelude.{Err, Ok, Result}
use mathlib.Core.Path.{◌≡◌, refl, sym, ap, ◌∙◌}
use mathlib.Core.Bool.{Bool, true, false, cond}
use mathlib.Core.List.{List, [], ◌∷◌, ◌++◌, append_assoc}
use Prim.Native.Nat.{ℕ, ◌+◌}
use lib.Dec.{leb}
use Rattle.pieces.specs.Tree.{Tree, Flat, Rough, Cut}
use Rattle.pieces.specs.Walk.{and_then, walk, walk_all}
use Rattle.pieces.specs.Scan.{Met, cut, met, met_all, scan}
use Rattle.pieces.specs.declared.Uncut.{Uncut}
use Rattle.pieces.specs.declared.Uncut.TheVariants.{TooDeep, TooMany}

-- what comes next after a walk in two parts
then-again : (w : Result ℕ Uncut) (f g : ℕ → Result ℕ Uncut) → and_then (and_then w f) g ≡ and_then w (λ n. and_then (f n) g)
then-again (Ok n) f g = refl
then-again (Err TooDeep) f g = refl
then-again (Err TooMany) f g = refl

then_same : (w : Result ℕ Uncut) (f g : ℕ → Result ℕ Uncut) → ((n : ℕ) → f n ≡ g n) → and_then w f ≡ and_then w g
then_same (Ok n) f g e = e n
then_same (Err TooDeep) f g e = refl
then_same (Err TooMany) f g e = refl

stop-or : (b : Bool) (w : Result ℕ Uncut) (g : ℕ → Result ℕ Uncut) → cond b (Err TooMany) (and_then w g) ≡ and_then (cond b (Err TooMany) w) g
stop-or true w g = refl
stop-or false w g = refl

tree-scanned : (most made : ℕ) (t : Tree) (rest : List Met) → scan most made (met t ++ rest) ≡ and_then (walk most made t) (λ n. scan most n rest)
unfolding scan met walk
tree-scanned most made (Flat p) rest = refl
tree-scanned most made (Rough p) rest = refl
tree-scanned most made (Cut l r) rest =
    let go : ℕ → (Result ℕ Uncut) = λ n. scan most n rest in
    ap (λ m. scan most made (cut ∷ m)) (append_assoc (met l) (met r) rest)
    ∙ ap (cond (leb most made) (Err TooMany))
    (tree-scanned most (made + 1) l (met r ++ rest)
    ∙ then_same (walk most (made + 1) l) (λ n. scan most n (met r ++ rest)) (λ n. and_then (walk most n r) go) (λ n. tree-scanned most n r rest)
    ∙ sym (then-again (walk most (made + 1) l) (λ n. walk most n r) go))
    ∙ stop-or (leb most made) (and_then (walk most (made + 1) l) (λ n. walk most n r)) go

pub scanned : (most made : ℕ) (trees : List Tree) → walk_all most made trees ≡ scan most made (met_all trees)
unfolding walk_all scan met_all
scanned most made [] = refl
scanned most made (t ∷ trees) =
    sym
    (tree-scanned most made t (met_all trees)
    ∙ then_same (walk most made t) (λ n. scan most n (met_all trees)) (λ n. walk_all most n trees) (λ n. sym (scanned most n trees)))
