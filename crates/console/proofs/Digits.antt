-- What the digits of a text mean, one after another. A beginning past the greatest number may stand for the greatest: every digit after it keeps it past.
use Prim.Native.Nat.{ℕ, ◌+◌, ◌-◌, ◌*◌}
use mathlib.Core.Bool.{Bool, ◌&&◌}
use mathlib.Core.List.{List, [], ◌∷◌}
use mathlib.Core.Path.{◌≡◌, refl, sym, ap, ◌∙◌}
use native.Mathlib.Omega.{arith}
use Rattle.std.specs.List.{fold, list_all}
use Rattle.std.specs.Char.{is_ascii_digit}
use Rattle.listing.specs.Decimal.{worth_after}
use Rattle.console.specs.Argument.{all_digits, held}

same-held : (cs : List ℕ) (m n : ℕ) → held m ≡ held n → held (worth_after m cs) ≡ held (worth_after n cs)
same-held [] m n e = e
same-held (c ∷ cs) m n e = same-held cs (m * 10 + (c - 48)) (n * 10 + (c - 48)) (omega arith)

-- a number with one more digit behind it, or the greatest where that is past it
abbrev pub with_digit : ℕ → ℕ → ℕ
with_digit total c = held (held (total * 10) + (c - 48))

pub folded : (cs : List ℕ) (n : ℕ) → held n ≡ n → fold with_digit n cs ≡ held (worth_after n cs)
folded [] n e = sym e
folded (c ∷ cs) n e =
    folded cs (with_digit n c) (omega arith) ∙ same-held cs (with_digit n c) (n * 10 + (c - 48)) (omega arith)

pub all-digits : (cs : List ℕ) → list_all is_ascii_digit cs ≡ all_digits cs
unfolding all_digits
all-digits [] = refl
all-digits (c ∷ cs) = ap (λ (b : Bool). is_ascii_digit c && b) (all-digits cs)
