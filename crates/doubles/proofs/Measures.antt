-- What a measure turns on. A rounded value is a coordinate exactly when it is within limits, and a finite double is measured by its value alone, however it is written.
use Rattle.std.specs.Prelude.{Err, Ok}
use mathlib.Core.Path.{◌≡◌, refl, sym, ap, ◌∙◌}
use mathlib.Core.Bool.{Bool, true, false, not, cond}
use mathlib.Core.Logic.{◌⊎◌, inl, inr, ⊎_elim, ◌↔◌}
use mathlib.Core.List.{[], ◌∷◌}
use Prim.Native.Nat.{ℕ, ◌*◌, ◌≤◌, ◌<◌}
use borrow.Author.Tests.{le-leb, lt-leb, leb-true, leb-false}
use lib.Dec.{T, leb}
use lib.IntN.{ℤ, pos, nat_abs, ◌*ℤ◌}
use lib.Ieee.{Float, nan, inf, fin, up, down}
use lib.Ieee.Fits.{down_pos}
use lib.Ieee.Scale.{finite}
use Rattle.whole.specs.Nearest.{nearest}
use Rattle.curve.specs.Limits.{limit}
use Rattle.doubles.specs.Exact.{signed, Value}
use Rattle.doubles.specs.Number.{thousand, within, measure}
use Rattle.doubles.specs.declared.Unmeasured.TheVariants.{NotFinite, Outside}
use Rattle.whole.proofs.Ring.{var, lit, ◌⊗◌, solve}
use Rattle.doubles.proofs.Rounding.{nearest-same}
use Rattle.doubles.proofs.Values.{signed-times}

pub inside : (n : ℤ) → nat_abs n ≤ limit → within n ≡ Ok n
unfolding within
inside n h = ap (λ b. cond b (Ok n) (Err Outside)) (le-leb (nat_abs n) limit h)

pub outside : (n : ℤ) → limit < nat_abs n → within n ≡ Err Outside
unfolding within
outside n h = ap (λ b. cond b (Ok n) (Err Outside)) (lt-leb (nat_abs n) limit h)

-- what a drawing number means: the exact value of the double, times a thousand, rounded once
pub measured : (x : Float) (z : ℤ) (d : ℕ) → 0 < d → Value x z d → measure x ≡ within (nearest (z *ℤ pos thousand) d)
unfolding measure Value
measured nan z d h v = absurd v
measured (inf s) z d h v = absurd v
measured (fin s m e) z d h v =
    ap within
    (ap (λ x. nearest x (down e)) (signed-times s (m * up e) thousand)
    ∙ nearest-same (signed s (m * up e) *ℤ pos thousand) (down e) (z *ℤ pos thousand) d (down_pos e) h
    (solve (signed s (m * up e) ∷ pos d ∷ []) (var 0 ⊗ lit (pos thousand) ⊗ var 1) (var 0 ⊗ var 1 ⊗ lit (pos thousand)) tt
    ∙ ap (λ x. x *ℤ pos thousand) v
    ∙ solve (z ∷ pos (down e) ∷ []) (var 0 ⊗ var 1 ⊗ lit (pos thousand)) (var 0 ⊗ lit (pos thousand) ⊗ var 1) tt))

-- ---- each answer is given exactly when document 01 says

within-cases : (n : ℤ) → ((nat_abs n ≤ limit) × (within n ≡ Ok n)) ⊎ ((limit < nat_abs n) × (within n ≡ Err Outside))
within-cases n = go (leb (nat_abs n) limit) refl
  where
    go : (b : Bool) → leb (nat_abs n) limit ≡ b → ((nat_abs n ≤ limit) × (within n ≡ Ok n)) ⊎ ((limit < nat_abs n) × (within n ≡ Err Outside))
    go true e = let h = leb-true (nat_abs n) limit e in inl (h, inside n h)
    go false e = let h = leb-false (nat_abs n) limit e in inr (h, outside n h)

-- no two kinds of answer are the same
within-finite : (n : ℤ) → within n ≡ Err NotFinite → ⊥
within-finite n e = ⊎_elim (λ w. cc) (λ w. cc) (within-cases n)

within-outside : (n : ℤ) → within n ≡ Err Outside → limit < nat_abs n
within-outside n e = ⊎_elim (λ w. absurd (cc)) (λ w. w.0) (within-cases n)

within-inside : (n k : ℤ) → within n ≡ Ok k → (n ≡ k) × (nat_abs k ≤ limit)
within-inside n k e = ⊎_elim (λ w. let p : n ≡ k = cc in (p, rw (← p) w.0)) (λ w. absurd (cc)) (within-cases n)

-- row 10: NaN and the infinities
pub not-finite-exactly : (x : Float) → (measure x ≡ Err NotFinite) ↔ T (not (finite x))
unfolding measure
not-finite-exactly nan = ((λ e. tt), (λ t. refl))
not-finite-exactly (inf s) = ((λ e. tt), (λ t. refl))
not-finite-exactly (fin s m e) = ((λ p. within-finite (nearest (signed s (m * up e * thousand)) (down e)) p), (λ t. absurd t))

-- row 11: a finite double of the value z / d whose rounded value is beyond the limit
pub outside-exactly : (x : Float) (z : ℤ) (d : ℕ) → 0 < d → Value x z d → (measure x ≡ Err Outside) ↔ (limit < nat_abs (nearest (z *ℤ pos thousand) d))
outside-exactly x z d h v =
    let n = nearest (z *ℤ pos thousand) d in
    ((λ e. within-outside n (sym (measured x z d h v) ∙ e)), (λ g. measured x z d h v ∙ outside n g))

-- any other finite double is a coordinate
pub micrometres-exactly : (x : Float) (z : ℤ) (d : ℕ) (n : ℤ) → 0 < d → Value x z d → (measure x ≡ Ok n) ↔ ((nearest (z *ℤ pos thousand) d ≡ n) × (nat_abs n ≤ limit))
micrometres-exactly x z d n h v =
    ((λ e. within-inside (nearest (z *ℤ pos thousand) d) n (sym (measured x z d h v) ∙ e)), (λ w. measured x z d h v ∙ ap within w.0 ∙ inside n w.1))
