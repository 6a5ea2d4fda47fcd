-- What this crate asks of `nearest`, by its laws in crate `whole`: the size is rounded and the sign put back, equal fractions round alike, less than a half rounds to nothing,
-- and from a whole bound on the rounded number keeps the bound. A change of the rounding rule is answered here.
use mathlib.Core.Path.{◌≡◌, refl, sym, ap, ◌∙◌}
use mathlib.Core.Bool.{Bool, true, false}
use Prim.Native.Nat.{ℕ, suc, ◌*◌, ◌≤◌, ◌<◌}
use native.Mathlib.Nat.{mul_comm, mul-zero}
use native.Mathlib.Omega.{arith}
use lib.IntN.{ℤ, pos, nat_abs, ◌*ℤ◌, *ℤ_comm}
use Rattle.whole.specs.Nearest.{half_up, nearest}
use Rattle.whole.proofs.Fit.{nat_abs-neg}
use Rattle.whole.proofs.HalfUp.{half-unique, half-whole, half-mono}
use Rattle.whole.proofs.Nearest.{nearest-natural, nearest_negative, nearest-scale}
use Rattle.doubles.specs.Exact.{signed}

-- the size is rounded and the sign put back
pub nearest-signed : (s : Bool) (a c : ℕ) → nearest (signed s a) c ≡ signed s (half_up a c)
nearest-signed false a c = nearest-natural a c
nearest-signed true a c = nearest_negative a c

pub size-signed : (s : Bool) (a : ℕ) → nat_abs (signed s a) ≡ a
size-signed false a = refl
size-signed true a = nat_abs-neg (pos a)

-- equal fractions round alike
pub nearest-same : (y : ℤ) (c : ℕ) (z : ℤ) (d : ℕ) → 0 < c → 0 < d → y *ℤ pos d ≡ z *ℤ pos c → nearest y c ≡ nearest z d
nearest-same y c z d hc hd e =
    sym (nearest-scale d y c hd hc)
    ∙ ap (λ x. nearest x (d * c)) (*ℤ_comm (pos d) y ∙ e ∙ *ℤ_comm z (pos c))
    ∙ ap (nearest (pos c *ℤ z)) (mul_comm d c)
    ∙ nearest-scale c z d hc hd

-- less than a half either way rounds to nothing
pub nearest-tiny : (s : Bool) (a c : ℕ) → 2 * a < c → nearest (signed s a) c ≡ pos 0
nearest-tiny s a c h = nearest-signed s a c ∙ ap (signed s) (half-unique a c 0 (omega (arith, mul-zero c)) (omega (arith, mul-zero c))) ∙ nought s
  where
    nought : (s : Bool) → signed s 0 ≡ pos 0
    nought false = refl
    nought true = refl

-- m or more in size rounds to m or more in size
pub nearest-far : (s : Bool) (a c m : ℕ) → 0 < c → c * suc m ≤ a → suc m ≤ nat_abs (nearest (signed s a) c)
nearest-far s a c m hc h =
    let size : nat_abs (nearest (signed s a) c) ≡ half_up a c = ap nat_abs (nearest-signed s a c) ∙ size-signed s (half_up a c) in
    omega (arith, size, half-mono c hc h, half-whole (suc m) c hc)
