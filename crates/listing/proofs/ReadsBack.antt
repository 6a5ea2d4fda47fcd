-- A decimal text means the number it was made from, since each digit adds itself to ten times what stands before it; and its first digit is no spare zero, since only a number below ten begins it.
use Prim.Native.Nat.{ℕ, zero, suc, ◌+◌, ◌*◌, ◌-◌, ◌/◌, ◌%◌, ◌≤◌, ◌<◌}
use mathlib.Core.List.{List, [], ◌∷◌, ◌++◌}
use mathlib.Core.Path.{◌≡◌, refl, sym, ap, ◌∙◌, subst}
use native.Mathlib.Omega.{arith}
use native.Mathlib.Nat.{div-add-mod'}
use borrow.Author.Tests.{ne_eqb}
use lib.IntN.{ℤ, pos, negsuc, neg_ℤ}
use lib.ListN.{length, get_or}
use Rattle.listing.specs.Decimal.{digit, minus, natural, decimal, worth_after, value}
use Rattle.listing.proofs.Digits.{natural-few, natural-more, by_digits, some-digit}

worth-snoc : (n c : ℕ) (cs : List ℕ) → worth_after n (cs ++ (c ∷ [])) ≡ worth_after n cs * 10 + (c - 48)
worth-snoc n c [] = refl
worth-snoc n c (b ∷ cs) = worth-snoc (n * 10 + (b - 48)) c cs

-- the digits of n mean n
pub worth-natural : (n : ℕ) → worth_after 0 (natural n) ≡ n
worth-natural =
    by_digits (λ n. worth_after 0 (natural n) ≡ n)
    (λ n few. ap (worth_after 0) (natural-few n few) ∙ omega arith)
    (λ n many before.
    ap (worth_after 0) (natural-more n many)
    ∙ worth-snoc 0 (digit (n % 10)) (natural (n / 10))
    ∙ omega (arith, before, div-add-mod' n 10))

-- the first character of a text
abbrev pub first : List ℕ → ℕ
first cs = get_or cs 0 0

first-append : (cs ds : List ℕ) → 0 < length cs → first (cs ++ ds) ≡ first cs
first-append [] ds h = omega arith
first-append (c ∷ cs) ds h = refl

-- the first character of a natural number is a digit, and from one on it is no `0`
pub record Headed (n c : ℕ) : Type 0 where
  pub from : 48 ≤ c
  pub to : c ≤ 57
  pub no_zero : 0 < n → 49 ≤ c

pub headed : (n : ℕ) → Headed n (first (natural n))
headed =
    by_digits (λ n. Headed n (first (natural n)))
    (λ n few. subst (Headed n) (sym (ap first (natural-few n few))) (record { from = omega arith; to = omega arith; no_zero = omega arith }))
    (λ n many before.
    let same : first (natural n) ≡ first (natural (n / 10)) =
    ap first (natural-more n many) ∙ first-append (natural (n / 10)) (digit (n % 10) ∷ []) (some-digit (n / 10)) in
    subst (Headed n) (sym same)
    (record { from = before.from; to = before.to; no_zero = λ h. before.no_zero (omega arith) }))

unsigned : (cs : List ℕ) → (first cs ≡ minus → ⊥) → value cs ≡ pos (worth_after 0 cs)
unsigned [] h = refl
unsigned (c ∷ cs) h = rw (ne_eqb c minus h)

-- the text of a whole number means that number
pub reads-back : (z : ℤ) → value (decimal z) ≡ z
reads-back (pos n) = unsigned (natural n) (λ e. omega (arith, (headed n).from)) ∙ ap pos (worth-natural n)
reads-back (negsuc n) = ap (λ (k : ℕ). neg_ℤ (pos k)) (worth-natural (suc n))

-- so two numbers with the same text are the same
pub one-text : (y z : ℤ) → decimal y ≡ decimal z → y ≡ z
one-text y z e = sym (reads-back y) ∙ ap value e ∙ reads-back z

-- no spare zero: only the text of 0 begins with `0`, and it is that character alone
pub no-spare-zero : (z : ℤ) → first (decimal z) ≡ 48 → (z ≡ pos 0) × (decimal z ≡ 48 ∷ [])
no-spare-zero (pos zero) e = (refl, natural-few 0 (omega arith))
no-spare-zero (pos (suc n)) e = absurd (omega (arith, (headed (suc n)).no_zero (omega arith)))
no-spare-zero (negsuc n) e = absurd (omega arith)

-- no minus zero: behind a minus sign stands a digit from `1` to `9`
pub no-minus-zero : (z : ℤ) → first (decimal z) ≡ minus → (49 ≤ get_or (decimal z) 1 0) × (get_or (decimal z) 1 0 ≤ 57)
no-minus-zero (pos n) e = absurd (omega (arith, (headed n).from))
no-minus-zero (negsuc n) e = ((headed (suc n)).no_zero (omega arith), (headed (suc n)).to)
