-- A line of numbers: a space after each but the last, and a newline after the last.
use Prim.Native.Nat.{ℕ, suc, ◌+◌, ◌^◌, ◌<◌}
use mathlib.Core.List.{List, [], ◌∷◌, ◌++◌, append_assoc}
use mathlib.Core.Path.{◌≡◌, refl, sym, ap, ◌∙◌}
use native.Mathlib.Omega.{arith}
use lib.ListN.{length, get_or, take, length-append}
use Rattle.std.proofs.lemmas.List.{take_more}
use Rattle.std.specs.Fmt as printed
use Rattle.listing.specs.Listing.{space, newline, numbers_line}
use Rattle.listing.specs.Decimal.{natural}
use Rattle.listing.proofs.Printed.{natural-printed}

-- numbers as the library prints them, a space after each
abbrev pub spaced : List ℕ → List ℕ
spaced [] = []
spaced (n ∷ ns) = printed.decimal n ++ (space ∷ spaced ns)

spaced-push : (ns : List ℕ) (n : ℕ) → spaced (ns ++ (n ∷ [])) ≡ spaced ns ++ (printed.decimal n ++ (space ∷ []))
spaced-push [] n = refl
spaced-push (m ∷ ns) n =
    ap (λ (l : List ℕ). printed.decimal m ++ (space ∷ l)) (spaced-push ns n) ∙ sym (append_assoc (printed.decimal m) (space ∷ spaced ns) (printed.decimal n ++ (space ∷ [])))

pub spaced-more : (ns : List ℕ) (i : ℕ) → i < length ns → spaced (take (i + 1) ns) ≡ spaced (take i ns) ++ (printed.decimal (get_or ns i 0) ++ (space ∷ []))
spaced-more ns i h = ap spaced (take_more ns i 0 h) ∙ spaced-push (take i ns) (get_or ns i 0)

-- a number, and more after it
then-more : (n : ℕ) (ns : List ℕ) → 0 < length ns → numbers_line (n ∷ ns) ≡ natural n ++ (space ∷ numbers_line ns)
then-more n [] some = absurd (omega arith)
then-more n (m ∷ ns) some = refl

pub line-of : (ns : List ℕ) (n : ℕ) → ((i : ℕ) → get_or (ns ++ (n ∷ [])) i 0 < 2 ^ 64) → spaced ns ++ (printed.decimal n ++ (newline ∷ [])) ≡ numbers_line (ns ++ (n ∷ []))
line-of [] n fits = ap (λ (l : List ℕ). l ++ (newline ∷ [])) (sym (natural-printed n (fits 0)))
line-of (m ∷ ns) n fits =
    append_assoc (printed.decimal m) (space ∷ spaced ns) (printed.decimal n ++ (newline ∷ []))
    ∙ (λ i. sym (natural-printed m (fits 0)) i ++ (space ∷ line-of ns n (λ k. fits (suc k)) i))
    ∙ sym (then-more m (ns ++ (n ∷ [])) (omega (arith, length-append ns (n ∷ []))))
