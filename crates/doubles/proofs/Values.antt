-- A finite double has one value: the library's account of it by a sign and a magnitude is `Value`, and two fractions that are both the value of one double are equal.
use mathlib.Core.Path.{◌≡◌, refl, sym, ap, ◌∙◌}
use mathlib.Core.Bool.{Bool, true, false}
use mathlib.Core.List.{[], ◌∷◌}
use Prim.Native.Nat.{ℕ, zero, suc, ◌*◌, ◌<◌}
use native.Mathlib.Nat.{mul-pos, lt_irrefl, lt_of_lt_of_le, le_of_eq, zero-lt-suc}
use lib.IntN.{ℤ, pos, negsuc, nat_abs, ◌-ℤ◌, ◌*ℤ◌}
use lib.Ieee.{Float, nan, inf, fin, up, down}
use lib.Ieee.Exact.{HasValue}
use lib.Ieee.Fits.{down_pos}
use Rattle.whole.proofs.Ring.{var, lit, ◌⊖◌, ◌⊗◌, solve, equal-of-sub, minus}
use Rattle.whole.proofs.Fit.{nat_abs_mul}
use Rattle.doubles.specs.Exact.{signed, Value}

-- the sign before a product
pub signed-times : (s : Bool) (a c : ℕ) → signed s (a * c) ≡ signed s a *ℤ pos c
signed-times false a c = refl
signed-times true a c =
    minus (pos (a * c))
    ∙ solve (pos a ∷ pos c ∷ []) (lit (pos 0) ⊖ var 0 ⊗ var 1) ((lit (pos 0) ⊖ var 0) ⊗ var 1) tt
    ∙ ap (λ x. x *ℤ pos c) (sym (minus (pos a)))

pub value_of : (x : Float) (s : Bool) (a c : ℕ) → HasValue x s a c → Value x (signed s a) c
unfolding Value
value_of nan s a c v = v
value_of (inf t) s a c v = v
value_of (fin t m e) s a c v =
    ap (λ u. signed u (m * up e) *ℤ pos c) v.0 ∙ sym (signed-times s (m * up e) c) ∙ ap (signed s) v.1 ∙ signed-times s a (down e)

-- a factor above 0 may go
nothing : (z : ℤ) (d : ℕ) → 0 < d → nat_abs z * d ≡ 0 → z ≡ pos 0
nothing (pos zero) d h e = refl
nothing (pos (suc n)) d h e = absurd (lt_irrefl 0 (lt_of_lt_of_le (mul-pos (zero-lt-suc n) h) (le_of_eq e)))
nothing (negsuc n) d h e = absurd (lt_irrefl 0 (lt_of_lt_of_le (mul-pos (zero-lt-suc n) h) (le_of_eq e)))

cancel : (y z : ℤ) (d : ℕ) → 0 < d → y *ℤ pos d ≡ z *ℤ pos d → y ≡ z
cancel y z d h e =
    equal-of-sub y z
    (nothing (y -ℤ z) d h
    (sym (nat_abs_mul (y -ℤ z) (pos d))
    ∙ ap nat_abs
    (solve (y ∷ z ∷ pos d ∷ []) ((var 0 ⊖ var 1) ⊗ var 2) (var 0 ⊗ var 2 ⊖ var 1 ⊗ var 2) tt
    ∙ ap (λ x. x -ℤ z *ℤ pos d) e
    ∙ solve (z ∷ pos d ∷ []) (var 0 ⊗ var 1 ⊖ var 0 ⊗ var 1) (lit (pos 0)) tt)))

-- no double has two values
pub value-unique : (x : Float) (y : ℤ) (c : ℕ) (z : ℤ) (d : ℕ) → Value x y c → Value x z d → y *ℤ pos d ≡ z *ℤ pos c
unfolding Value
value-unique nan y c z d v w = absurd v
value-unique (inf s) y c z d v w = absurd v
value-unique (fin s m e) y c z d v w =
    let x = signed s (m * up e) in
    let k = pos (down e) in
    cancel (y *ℤ pos d) (z *ℤ pos c) (down e) (down_pos e)
    (solve (y ∷ pos d ∷ k ∷ []) (var 0 ⊗ var 1 ⊗ var 2) (var 0 ⊗ var 2 ⊗ var 1) tt
    ∙ ap (λ u. u *ℤ pos d) (sym v)
    ∙ solve (x ∷ pos c ∷ pos d ∷ []) (var 0 ⊗ var 1 ⊗ var 2) (var 0 ⊗ var 2 ⊗ var 1) tt
    ∙ ap (λ u. u *ℤ pos c) w
    ∙ solve (z ∷ k ∷ pos c ∷ []) (var 0 ⊗ var 1 ⊗ var 2) (var 0 ⊗ var 2 ⊗ var 1) tt)
