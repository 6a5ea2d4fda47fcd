-- What a rule gives for a row of numbers, added up: parts, and rules that give nothing elsewhere.
use mathlib.Core.Path.{◌≡◌, refl, sym, ap, ◌∙◌}
use mathlib.Core.List.{List}
use Prim.Native.Nat.{ℕ, zero, suc, ◌+◌, ◌-◌, ◌≤◌, ◌<◌}
use native.Mathlib.Nat.{add-zero, zero-add, add_assoc}
use native.Mathlib.Omega.{arith}
use lib.IntN.{ℤ}
use Rattle.curve.specs.Tab.{tab}
use Rattle.shape.specs.declared.Plan.{Plan}
use Rattle.spans.specs.Numbers.{remainder_of, nought, noughts, exact_in, total}

pub total-same : (f g : ℕ → ℕ) (q n : ℕ) → ((i : ℕ) → q ≤ i → i < q + n → f i ≡ g i) → total f q n ≡ total g q n
unfolding total
total-same f g q zero same = refl
total-same f g q (suc n) same = λ k. same q (omega arith) (omega arith) k + total-same f g (suc q) n (λ i low high. same i (omega arith) (omega arith)) k

pub total-none : (f : ℕ → ℕ) (q n : ℕ) → ((i : ℕ) → q ≤ i → i < q + n → f i ≡ 0) → total f q n ≡ 0
unfolding total
total-none f q zero none = refl
total-none f q (suc n) none = omega (arith, none q (omega arith) (omega arith), total-none f (suc q) n (λ i low high. none i (omega arith) (omega arith)))

pub total-append : (f : ℕ → ℕ) (q m n : ℕ) → total f q (m + n) ≡ total f q m + total f (q + m) n
unfolding total
total-append f q zero n = ap (total f q) (zero-add n) ∙ ap (λ (i : ℕ). total f i n) (sym (add-zero q)) ∙ sym (zero-add (total f (q + 0) n))
total-append f q (suc m) n =
    let on : suc q + m ≡ q + suc m = omega arith in
    let more : suc m + n ≡ suc (m + n) = omega arith in
    ap (total f q) more
    ∙ ap (λ (i : ℕ). f q + i) (total-append f (suc q) m n)
    ∙ sym (add_assoc (f q) (total f (suc q) m) (total f (suc q + m) n))
    ∙ ap (λ (i : ℕ). f q + total f (suc q) m + total f i n) on

-- a part of the row, where the rule gives nothing before and past it
pub total-part : (f : ℕ → ℕ) (a z n : ℕ) → a ≤ z → z ≤ n → ((i : ℕ) → i < a → f i ≡ 0) → ((i : ℕ) → z ≤ i → i < n → f i ≡ 0) → total f 0 n ≡ total f a (z - a)
total-part f a z n low high before past =
    let whole : n ≡ a + (z - a + (n - z)) = omega arith in
    let end : 0 + a + (z - a) ≡ z = omega arith in
    let start : 0 + a ≡ a = omega arith in
    ap (total f 0) whole
    ∙ total-append f 0 a (z - a + (n - z))
    ∙ ap (λ (i : ℕ). total f 0 a + i) (total-append f (0 + a) (z - a) (n - z))
    ∙ omega (arith, total-none f 0 a (λ i _ h. before i (omega arith)), total-none f (0 + a + (z - a)) (n - z) (λ i l h. past i (omega arith) (omega arith)), ap (λ (i : ℕ). total f i (z - a)) start)

-- two parts, at both ends of it
pub total-ends : (f : ℕ → ℕ) (z a n : ℕ) → z ≤ a → a ≤ n → ((i : ℕ) → z ≤ i → i < a → f i ≡ 0) → total f 0 n ≡ total f a (n - a) + total f 0 z
total-ends f z a n low high between =
    let whole : n ≡ z + (a - z + (n - a)) = omega arith in
    let end : 0 + z + (a - z) ≡ a = omega arith in
    ap (total f 0) whole
    ∙ total-append f 0 z (a - z + (n - a))
    ∙ ap (λ (i : ℕ). total f 0 z + i) (total-append f (0 + z) (a - z) (n - a))
    ∙ omega (arith, total-none f (0 + z) (a - z) (λ i l h. between i (omega arith) (omega arith)), ap (λ (i : ℕ). total f i (n - a)) end)

-- how many of an outline's numbers are exact, one by one
pub exact-total : (p : Plan) (controls : List ℤ) (q n : ℕ) → exact_in p controls q n ≡ total (λ i. nought (remainder_of p controls i)) q n
unfolding tab noughts total
exact-total p controls q zero = refl
exact-total p controls q (suc n) = ap (λ (i : ℕ). nought (remainder_of p controls q) + i) (exact-total p controls (suc q) n)
