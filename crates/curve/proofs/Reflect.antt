-- The definitions of specs/ written as expressions of `Ring`, word for word, so that an identity between them is one line of `solve`.
use mathlib.Core.List.{List, [], ◌∷◌}
use Prim.Native.Nat.{ℕ}
use lib.IntN.{ℤ, pos}
use Rattle.whole.proofs.Ring.{Ex, var, lit, ◌⊕◌, ◌⊖◌, ◌⊗◌}
use Rattle.curve.specs.declared.Four.{Four}
use Rattle.curve.specs.declared.Basis.{Basis}
use Rattle.curve.specs.declared.Basis.TheVariants.{Bezier, BSpline, Cardinal, Hermite, Loop}
use Rattle.curve.specs.Published.{Matrix}
use Rattle.curve.specs.Limits.{parameter_of}

-- four expressions
pub record Fourᵉ : Type 0 where
  pub a : Ex
  pub b : Ex
  pub c : Ex
  pub d : Ex

abbrev pub fourᵉ : Ex → Ex → Ex → Ex → Fourᵉ
fourᵉ a b c d = record { a = a; b = b; c = c; d = d }

-- four literals, and the four variables from n on
abbrev pub litᵉ : Four → Fourᵉ
litᵉ w = fourᵉ (lit w.a) (lit w.b) (lit w.c) (lit w.d)

-- The variables of every identity here: four records or controls, then i, then h; where a basis is named, its parameter after them.
abbrev pub p : Fourᵉ
p = fourᵉ (var 0) (var 1) (var 2) (var 3)

abbrev pub i : Ex
i = var 4

abbrev pub h : Ex
h = var 5

abbrev pub taut : Ex
taut = var 6

abbrev pub values : Four → ℤ → ℤ → List ℤ
values q x y = q.a ∷ q.b ∷ q.c ∷ q.d ∷ x ∷ y ∷ []

abbrev pub values_with : Basis → Four → ℤ → ℤ → List ℤ
values_with b q x y = q.a ∷ q.b ∷ q.c ∷ q.d ∷ x ∷ y ∷ pos (parameter_of b) ∷ []

abbrev pub num : ℕ → Ex
num n = lit (pos n)

abbrev pub dotᵉ : Fourᵉ → Fourᵉ → Ex
dotᵉ w q = w.a ⊗ q.a ⊕ w.b ⊗ q.b ⊕ w.c ⊗ q.c ⊕ w.d ⊗ q.d

-- a matrix of expressions: of literals, and the cardinal one with the parameter n / m
pub record Matrixᵉ : Type 0 where
  pub cubed : Fourᵉ
  pub squared : Fourᵉ
  pub single : Fourᵉ
  pub constant : Fourᵉ

abbrev pub matrixᵉ : Matrix → Matrixᵉ
matrixᵉ m = record { cubed = litᵉ m.cubed; squared = litᵉ m.squared; single = litᵉ m.single; constant = litᵉ m.constant }

abbrev pub cardinalᵉ : Ex → Ex → Matrixᵉ
cardinalᵉ n m =
    record {
      cubed = fourᵉ (num 0 ⊖ n) (num 2 ⊗ m ⊖ n) (n ⊖ num 2 ⊗ m) n;
      squared = fourᵉ (num 2 ⊗ n) (n ⊖ num 3 ⊗ m) (num 3 ⊗ m ⊖ num 2 ⊗ n) (num 0 ⊖ n);
      single = fourᵉ (num 0 ⊖ n) (num 0) n (num 0);
      constant = fourᵉ (num 0) m (num 0) (num 0);
    }

abbrev pub cubicᵉ : Matrixᵉ → Fourᵉ → Ex → Ex → Ex
cubicᵉ m g x y = x ⊗ x ⊗ x ⊗ dotᵉ m.cubed g ⊕ x ⊗ x ⊗ y ⊗ dotᵉ m.squared g ⊕ x ⊗ y ⊗ y ⊗ dotᵉ m.single g ⊕ y ⊗ y ⊗ y ⊗ dotᵉ m.constant g

abbrev pub tangentᵉ : Matrixᵉ → Fourᵉ → Ex → Ex → Ex
tangentᵉ m g x y = num 3 ⊗ (x ⊗ x) ⊗ dotᵉ m.cubed g ⊕ num 2 ⊗ (x ⊗ y) ⊗ dotᵉ m.squared g ⊕ y ⊗ y ⊗ dotᵉ m.single g

abbrev pub second_derivativeᵉ : Matrixᵉ → Fourᵉ → Ex → Ex → Ex
second_derivativeᵉ m g x y = num 6 ⊗ x ⊗ dotᵉ m.cubed g ⊕ num 2 ⊗ y ⊗ dotᵉ m.squared g

abbrev pub weightsᵉ : Ex → Ex → Fourᵉ
weightsᵉ x y = let j = y ⊖ x in fourᵉ (j ⊗ j ⊗ j) (num 3 ⊗ (x ⊗ j ⊗ j)) (num 3 ⊗ (x ⊗ x ⊗ j)) (x ⊗ x ⊗ x)

abbrev pub weightedᵉ : Fourᵉ → Ex → Ex → Ex
weightedᵉ q x y = dotᵉ (weightsᵉ x y) q

abbrev pub b_splineᵉ : Fourᵉ → Fourᵉ
b_splineᵉ q = fourᵉ (q.a ⊕ num 4 ⊗ q.b ⊕ q.c) (num 4 ⊗ q.b ⊕ num 2 ⊗ q.c) (num 2 ⊗ q.b ⊕ num 4 ⊗ q.c) (q.b ⊕ num 4 ⊗ q.c ⊕ q.d)

abbrev pub wholeᵉ : Basis → Fourᵉ → Fourᵉ
wholeᵉ Bezier q = fourᵉ (num 6 ⊗ q.a) (num 6 ⊗ q.b) (num 6 ⊗ q.c) (num 6 ⊗ q.d)
wholeᵉ BSpline q = b_splineᵉ q
wholeᵉ (Cardinal c) q = fourᵉ (num 192 ⊗ q.b) (num 192 ⊗ q.b ⊕ taut ⊗ (q.c ⊖ q.a)) (num 192 ⊗ q.c ⊖ taut ⊗ (q.d ⊖ q.b)) (num 192 ⊗ q.c)
wholeᵉ Hermite q = fourᵉ (num 6 ⊗ q.a) (num 6 ⊗ q.a ⊕ num 2 ⊗ q.b) (num 6 ⊗ q.c ⊖ num 2 ⊗ q.d) (num 6 ⊗ q.c)
wholeᵉ (Loop n) q = b_splineᵉ q

abbrev pub first_bendᵉ : Fourᵉ → Ex
first_bendᵉ q = q.a ⊖ num 2 ⊗ q.b ⊕ q.c

abbrev pub last_bendᵉ : Fourᵉ → Ex
last_bendᵉ q = q.b ⊖ num 2 ⊗ q.c ⊕ q.d

abbrev pub leftᵉ : Fourᵉ → Fourᵉ
leftᵉ q = let m = q.a ⊕ q.b in let n = q.b ⊕ q.c in let o = q.c ⊕ q.d in fourᵉ (num 8 ⊗ q.a) (num 4 ⊗ m) (num 2 ⊗ (m ⊕ n)) (m ⊕ n ⊕ (n ⊕ o))

abbrev pub rightᵉ : Fourᵉ → Fourᵉ
rightᵉ q = let m = q.a ⊕ q.b in let n = q.b ⊕ q.c in let o = q.c ⊕ q.d in fourᵉ (m ⊕ n ⊕ (n ⊕ o)) (num 2 ⊗ (n ⊕ o)) (num 4 ⊗ o) (num 8 ⊗ q.d)
