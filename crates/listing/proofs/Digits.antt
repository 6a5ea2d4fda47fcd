-- The text of a number goes by its last digit: below ten it is that digit, from ten on the text of n / 10 and then the digit of n % 10, since steps to spare change nothing.
use Prim.Native.Nat.{ℕ, zero, suc, ◌+◌, ◌/◌, ◌%◌, ◌^◌, ◌≤◌, ◌<◌}
use mathlib.Core.Bool.{Bool, true, false}
use mathlib.Core.List.{List, [], ◌∷◌, ◌++◌}
use mathlib.Core.Path.{◌≡◌, refl, sym, ap, ◌∙◌}
use native.Mathlib.Omega.{arith}
use native.Mathlib.Nat.{not-suc-le-zero, pow-suc, div-lt_iff_lt-mul}
use borrow.Author.Tests.{lt-ltb, le-ltb, ltb-true, ltb-false}
use lib.Dec.{ltb}
use lib.ListN.{length, length-append}
use Rattle.listing.specs.Decimal.{digit, natural, natural_in}

pub one-digit : (k n : ℕ) → n < 10 → natural_in (suc k) n ≡ digit n ∷ []
unfolding natural_in
one-digit k n h = rw (natural_in, lt-ltb n 10 h)

pub last-digit : (k n : ℕ) → 10 ≤ n → natural_in (suc k) n ≡ natural_in k (n / 10) ++ (digit (n % 10) ∷ [])
unfolding natural_in
last-digit k n h = rw (natural_in, le-ltb n 10 h)

-- either of the two cases
pub cases : {X : Type 0} (n : ℕ) → (n < 10 → X) → (10 ≤ n → X) → X
cases {X} n f g = go (ltb n 10) refl
  where
    go : (b : Bool) → ltb n 10 ≡ b → X
    go true e = f (ltb-true n 10 e)
    go false e = g (ltb-false n 10 e)

to-spare : (j k n : ℕ) → n ≤ j → n ≤ k → natural_in (suc j) n ≡ natural_in (suc k) n
to-spare zero k n h g = one-digit zero n (omega arith) ∙ sym (one-digit k n (omega arith))
to-spare (suc j) zero n h g = one-digit (suc j) n (omega arith) ∙ sym (one-digit zero n (omega arith))
to-spare (suc j) (suc k) n h g =
    cases n
    (λ few. one-digit (suc j) n few ∙ sym (one-digit (suc k) n few))
    (λ many.
    last-digit (suc j) n many
    ∙ ap (λ (t : List ℕ). t ++ (digit (n % 10) ∷ [])) (to-spare j k (n / 10) (omega arith) (omega arith))
    ∙ sym (last-digit (suc k) n many))

pub natural-few : (n : ℕ) → n < 10 → natural n ≡ digit n ∷ []
unfolding natural
natural-few n h = one-digit n n h

pub natural-more : (n : ℕ) → 10 ≤ n → natural n ≡ natural (n / 10) ++ (digit (n % 10) ∷ [])
unfolding natural
natural-more zero h = absurd (not-suc-le-zero h)
natural-more (suc n) h =
    last-digit (suc n) (suc n) h
    ∙ ap (λ (t : List ℕ). t ++ (digit (suc n % 10) ∷ [])) (to-spare n (suc n / 10) (suc n / 10) (omega arith) (omega arith))

-- what holds of one digit, and of n where it holds of n / 10, holds of every number
pub by_digits : (P : ℕ → Type 0) → ((n : ℕ) → n < 10 → P n) → ((n : ℕ) → 10 ≤ n → P (n / 10) → P n) → (n : ℕ) → P n
by_digits P f g n = upto n n (omega arith)
  where
    upto : (k n : ℕ) → n ≤ k → P n
    upto zero n h = f n (omega arith)
    upto (suc k) n h = cases n (f n) (λ many. g n many (upto k (n / 10) (omega arith)))

pub width_few : (n : ℕ) → n < 10 → length (natural n) ≡ 1
width_few n h = ap length (natural-few n h)

width-more : (n : ℕ) → 10 ≤ n → length (natural n) ≡ length (natural (n / 10)) + 1
width-more n h = ap length (natural-more n h) ∙ length-append (natural (n / 10)) (digit (n % 10) ∷ [])

-- a number below 10 ^ k, k at least one, has at most k digits
pub at_most : (k n : ℕ) → n < 10 ^ suc k → length (natural n) ≤ suc k
at_most zero n h = omega (arith, width_few n h)
at_most (suc k) n h =
    cases n
    (λ few. omega (arith, width_few n few))
    (λ many.
    let smaller : n / 10 < 10 ^ suc k = (div-lt_iff_lt-mul (omega arith)).1 (rw (pow-suc 10 (suc k)) at h) in
    omega (arith, width-more n many, at_most k (n / 10) smaller))

pub some-digit : (n : ℕ) → 0 < length (natural n)
some-digit n = cases n (λ few. omega (arith, width_few n few)) (λ many. omega (arith, width-more n many))

some-power : (k : ℕ) → 0 < 10 ^ k
some-power zero = omega arith
some-power (suc k) = omega (arith, some-power k, pow-suc 10 k)

-- a number from 10 ^ k on has more than k digits
pub at_least : (k n : ℕ) → 10 ^ k ≤ n → suc k ≤ length (natural n)
at_least zero n h = some-digit n
at_least (suc k) n h =
    let ten : 10 ≤ n = omega (arith, h, some-power k, pow-suc 10 k) in
    let rest : 10 ^ k ≤ n / 10 = omega (arith, h, pow-suc 10 k) in
    omega (arith, width-more n ten, at_least k (n / 10) rest)
