-- Two controls are the same exactly when the test says so, and the derived `==` is that test.
use Rattle.std.specs.Ordering.{int_eq}
use Rattle.std.proofs.lemmas.Bool.Decides.{same_from_decides, Decides-int_eq}
use mathlib.Core.Path.{◌≡◌, refl, sym, subst}
use mathlib.Core.Bool.{true, false, ◌&&◌}
use mathlib.Core.Logic.{⊎_elim}
use borrow.Author.Tests.{eq-eqb}
use lib.Dec.{T}
use lib.IntN.{ℤ, pos, negsuc}
use Rattle.curve.specs.Numbers.{equal}
use Rattle.curve.proofs.Equal.{equal-same}
use Rattle.shape.proofs.Tests.{passes, and-true}
use Rattle.drawing.specs.declared.Control.{Control}
use Rattle.drawing.specs.Drawing.{same}

itself : (a : ℤ) → equal a a ≡ true
itself (pos n) = eq-eqb n n refl
itself (negsuc n) = eq-eqb n n refl

pub is-equal : (a b : ℤ) → a ≡ b → equal a b ≡ true
is-equal a b e = subst (λ z. equal a z ≡ true) e (itself a)

pub equal_is : (a b : ℤ) → equal a b ≡ true → a ≡ b
equal_is a b e = equal-same a b (subst T (sym e) tt)

pub is-unequal : (a b : ℤ) → (a ≡ b → ⊥) → equal a b ≡ false
is-unequal a b h = ⊎_elim (λ t. absurd (h (equal_is a b t))) (λ f. f) (passes (equal a b))

pub same-is : (a b : Control) → same a b ≡ true → a ≡ b
same-is a b e =
    let h = and-true (equal a.x b.x) (equal a.y b.y) e in
    (λ k. record { x = equal_is a.x b.x h.0 k; y = equal_is a.y b.y h.1 k })

-- the derived `==` of two controls is that test
tests_numbers : (a b : ℤ) → int_eq a b ≡ equal a b
tests_numbers a b = same_from_decides (int_eq a b) (equal a b) (Decides-int_eq a b) (equal_is a b, is-equal a b)

pub tests_same : (a b : Control) → (int_eq a.x b.x && int_eq a.y b.y) ≡ same a b
tests_same a b = rw (tests_numbers a.x b.x, tests_numbers a.y b.y)
