-- Exact sums rounded one after another: two lists of them, one after the other, are one list. So what a loop or a recursion still has to round, added to what it holds, makes the whole.
use mathlib.Core.Path.{◌≡◌, refl, sym, ap, ◌∙◌}
use mathlib.Core.List.{List, [], ◌∷◌, ◌++◌, map}
use Prim.Native.Nat.{ℕ, zero, suc, ◌+◌, ◌≤◌}
use native.Mathlib.Nat.{add-zero, zero-add, add_assoc}
use native.Mathlib.Omega.{arith}
use lib.IntN.{ℤ, pos, negsuc}
use lib.ListN.{length}
use lib.Seq.{sets}
use Rattle.whole.specs.Nearest.{nearest, remainder}
use Rattle.whole.specs.Outcome.{Outcome, outcome}
use Rattle.whole.proofs.Writes.{sets-append}
use Rattle.curve.specs.Tab.{tab}
use Rattle.curve.specs.Span.{divisor}
use Rattle.shape.specs.declared.Plan.{Plan}
use Rattle.spans.specs.Numbers.{sum_of, number, remainder_of, nought, noughts, exact_in}
use Rattle.spans.specs.Filled.{fills}
use Rattle.spans.specs.Inner.{wholes, remainders, rounds}

-- ---- how many are nought

pub noughts-append : (l m : List ℤ) → noughts (l ++ m) ≡ noughts l + noughts m
unfolding noughts
noughts-append [] m = sym (zero-add (noughts m))
noughts-append (z ∷ l) m = ap (λ (n : ℕ). nought z + n) (noughts-append l m) ∙ sym (add_assoc (nought z) (noughts l) (noughts m))

nought-most : (z : ℤ) → nought z ≤ 1
nought-most (pos zero) = omega arith
nought-most (pos (suc n)) = omega arith
nought-most (negsuc n) = omega arith

pub not-nought : (z : ℤ) → (z ≡ pos 0 → ⊥) → nought z ≡ 0
not-nought (pos zero) h = absurd (h refl)
not-nought (pos (suc n)) h = refl
not-nought (negsuc n) h = refl

-- one more, or none
pub exact_one : (d : ℕ) (z : ℤ) (n : ℕ) → remainder z d ≡ pos 0 → n + 1 ≡ n + noughts (remainders d (z ∷ []))
unfolding noughts
exact_one d z n e = ap (λ (m : ℕ). n + m) (sym (ap (λ x. nought x + 0) e))

pub exact_none : (d : ℕ) (z : ℤ) (n : ℕ) → (remainder z d ≡ pos 0 → ⊥) → n ≡ n + noughts (remainders d (z ∷ []))
unfolding noughts
exact_none d z n h = omega (arith, not-nought (remainder z d) h)

-- no more than there are
pub noughts-most : (l : List ℤ) → noughts l ≤ length l
unfolding noughts
noughts-most [] = omega arith
noughts-most (z ∷ l) = omega (arith, nought-most z, noughts-most l)

-- ---- a rule for each element of a list

map-append : (f : ℤ → ℤ) (l m : List ℤ) → map f (l ++ m) ≡ map f l ++ map f m
map-append f [] m = refl
map-append f (z ∷ l) m = ap (λ r. f z ∷ r) (map-append f l m)

length-map : (f : ℤ → ℤ) (l : List ℤ) → length (map f l) ≡ length l
length-map f [] = refl
length-map f (z ∷ l) = ap suc (length-map f l)

map-tab : (f : ℤ → ℤ) (g : ℕ → ℤ) (i n : ℕ) → map f (tab g i n) ≡ tab (λ (j : ℕ). f (g j)) i n
unfolding tab
map-tab f g i zero = refl
map-tab f g i (suc n) = ap (λ r. f (g i) ∷ r) (map-tab f g (suc i) n)

-- ---- sums rounded

-- more sums, to what was rounded so far
abbrev pub onward : ℕ → List ℤ → ℕ → Outcome ℕ (List ℤ) → Outcome ℕ (List ℤ)
onward d sums q o = rounds d sums q o.answer o.held

pub rounds-append : (d : ℕ) (a b : List ℤ) (q n : ℕ) (l : List ℤ) → onward d b (q + length a) (rounds d a q n l) ≡ rounds d (a ++ b) q n l
rounds-append d a b q n l =
    let count : n + noughts (remainders d a) + noughts (remainders d b) ≡ n + noughts (remainders d (a ++ b)) =
    add_assoc n (noughts (remainders d a)) (noughts (remainders d b))
    ∙ ap (λ (m : ℕ). n + m) (sym (noughts-append (remainders d a) (remainders d b)) ∙ ap noughts (sym (map-append (λ z. remainder z d) a b))) in
    let list : sets (sets l q (wholes d a)) (q + length a) (wholes d b) ≡ sets l q (wholes d (a ++ b)) =
    ap (λ (m : ℕ). sets (sets l q (wholes d a)) (q + m) (wholes d b)) (sym (length-map (λ z. nearest z d) a))
    ∙ sym (sets-append l q (wholes d a) (wholes d b))
    ∙ ap (sets l q) (sym (map-append (λ z. nearest z d) a b)) in
    λ i. outcome (count i) (list i)

-- none rounded
pub rounds-none : (d q n : ℕ) (l : List ℤ) → rounds d [] q n l ≡ outcome n l
unfolding noughts
rounds-none d q n l = ap (λ (m : ℕ). outcome m l) (add-zero n)

-- what was exact before is counted before or after
pub rounds-from : (d : ℕ) (sums : List ℤ) (q n : ℕ) (l : List ℤ) (o : Outcome ℕ (List ℤ)) → o ≡ rounds d sums q 0 l → outcome (n + o.answer) o.held ≡ rounds d sums q n l
rounds-from d sums q n l o e = ap (λ (r : Outcome ℕ (List ℤ)). outcome (n + r.answer) r.held) e ∙ ap (λ (m : ℕ). outcome (n + m) (sets l q (wholes d sums))) (zero-add (noughts (remainders d sums)))

-- no more are exact than were before and are rounded
pub rounds-most : (d : ℕ) (sums : List ℤ) (q n : ℕ) (l : List ℤ) (o : Outcome ℕ (List ℤ)) → o ≡ rounds d sums q n l → o.answer ≤ n + length sums
rounds-most d sums q n l o e = omega (arith, ap (λ (r : Outcome ℕ (List ℤ)). r.answer) e, noughts-most (remainders d sums), length-map (λ z. remainder z d) sums)

-- the sums of an outline's numbers, where none was exact before
pub rounds-outline : (p : Plan) (controls : List ℤ) (q n : ℕ) (l : List ℤ) → rounds (divisor p.basis p.depth) (tab (sum_of p controls) q n) q 0 l ≡ fills p controls q n l
unfolding number remainder_of
rounds-outline p controls q n l =
    let d = divisor p.basis p.depth in
    let count : 0 + noughts (remainders d (tab (sum_of p controls) q n)) ≡ exact_in p controls q n = zero-add (noughts (remainders d (tab (sum_of p controls) q n))) ∙ ap noughts (map-tab (λ z. remainder z d) (sum_of p controls) q n) in
    λ i. outcome (count i) (sets l q (map-tab (λ z. nearest z d) (sum_of p controls) q n i))
