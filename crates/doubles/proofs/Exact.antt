-- Exact doubles. The double of z / 2^k, with |z| at most 2^53 and k at most 1074, has that very value: z has no more digits than a double keeps, and 2^-1074 is the
-- smallest step that a double has. So sums and halves of such doubles, each rounded once, are again the doubles of the exact sums and halves.
use mathlib.Core.Path.{◌≡◌, refl, sym, ap, ◌∙◌, subst}
use mathlib.Core.Bool.{Bool, true, false, not}
use mathlib.Core.List.{[], ◌∷◌}
use mathlib.Core.Logic.{inl, inr}
use Prim.Native.Nat.{ℕ, zero, suc, ◌+◌, ◌*◌, ◌-◌, ◌^◌, ◌≤◌, ◌<◌}
use native.Mathlib.Nat.{lt_of_lt_of_le, mul_assoc, mul-pos, one-mul, eq-or-lt_of_le, pow-succ', lt_irrefl, le_of_eq, zero-mul, zero-lt-suc}
use native.Mathlib.Omega.{arith}
use borrow.Author.Tests.{ne_eqb}
use lib.Dec.{T, lit<}
use lib.Pow.{pow-add, pow_pos, pow_mono, pow-lt, shl_lt}
use lib.IntN.{ℤ, pos, negsuc, nat_abs, ◌+ℤ◌, ◌*ℤ◌}
use lib.Ieee.{Float, nan, inf, fin, Format, binary32, binary64, prec, emax, low, up, round, add, div, of_int}
use lib.Ieee.Exact.{HasValue, round_exact}
use lib.Ieee.Fits.{down_pos}
use Rattle.whole.proofs.Ring.{var, ◌⊕◌, ◌⊗◌, solve}
use Rattle.doubles.specs.Exact.{dyadic, Value, minus_zero}
use Rattle.doubles.specs.Midpoint.{two, mid}
use Rattle.doubles.proofs.Values.{value_of}
use Rattle.doubles.proofs.Over.{over, over-same, add-values, half-value}

-- ---- nothing is lost

-- q · 2^l steps of 2^-l are q · 2^j steps, 2^k times, where j + k is l
steps : (q j k l : ℕ) → j + k ≡ l → q * 2 ^ l ≡ q * 2 ^ j * 2 ^ k
steps q j k l e = ap (λ x. q * 2 ^ x) (sym e) ∙ ap (λ x. q * x) (pow-add 2 j k) ∙ sym (mul_assoc q (2 ^ j) (2 ^ k))

reaches : (f : Format) → prec f < suc (emax f)
reaches binary32 = lit< tt
reaches binary64 = lit< tt

digits : (f : Format) → 0 < prec f
digits binary32 = lit< tt
digits binary64 = lit< tt

-- n / 2^k is n · 2^(low - k) of the format's smallest values; 2^prec itself is one digit and prec places
round-below : (f : Format) (s : Bool) (n k : ℕ) → n < 2 ^ prec f → k ≤ low f → HasValue (round f s n (2 ^ k)) s n (2 ^ k)
round-below f s n k hn hk =
    let r : prec f + (low f - k) ≤ low f + suc (emax f) = omega (arith, reaches f) in
    round_exact f s n (2 ^ k) n (low f - k) (pow_pos k) hn (lt_of_lt_of_le (shl_lt (prec f) (low f - k) hn) (pow_mono r)) (steps n (low f - k) k (low f) (omega arith))

round-top : (f : Format) (s : Bool) (k : ℕ) → k ≤ low f → HasValue (round f s (2 ^ prec f) (2 ^ k)) s (2 ^ prec f) (2 ^ k)
round-top f s k hk =
    let j = prec f + (low f - k) in
    let r : j < low f + suc (emax f) = omega (arith, reaches f) in
    let e : j + k ≡ prec f + low f = omega arith in
    round_exact f s (2 ^ prec f) (2 ^ k) 1 j (pow_pos k) (pow-lt (digits f)) (subst (λ x. x < 2 ^ (low f + suc (emax f))) (sym (one-mul (2 ^ j))) (pow-lt r))
    (sym (pow-add 2 (prec f) (low f)) ∙ sym (one-mul (2 ^ (prec f + low f))) ∙ steps 1 j k (prec f + low f) e)

round-value : (f : Format) (s : Bool) (n k : ℕ) → n ≤ 2 ^ prec f → k ≤ low f → HasValue (round f s n (2 ^ k)) s n (2 ^ k)
round-value f s n k hn hk =
    elim (eq-or-lt_of_le hn) [
      | inl e ↦ subst (λ x. HasValue (round f s x (2 ^ k)) s x (2 ^ k)) (sym e) (round-top f s k hk)
      | inr l ↦ round-below f s n k l hk
    ]

-- its value is z / 2^k
pub dyadic-exact : (z : ℤ) (k : ℕ) → nat_abs z ≤ 2 ^ 53 → k ≤ 1074 → Value (dyadic z k) z (2 ^ k)
unfolding dyadic
dyadic-exact (pos n) k hz hk = value_of (round binary64 false n (2 ^ k)) false n (2 ^ k) (round-value binary64 false n k hz hk)
dyadic-exact (negsuc n) k hz hk = value_of (round binary64 true (suc n) (2 ^ k)) true (suc n) (2 ^ k) (round-value binary64 true (suc n) k hz hk)

-- ---- none is -0

clash : false ≡ true → ⊥
clash e = let z : ◌≡◌ {A = ℕ} 0 1 = cc in omega arith

-- by its sign, or by its size
plus : (x : Float) (a c : ℕ) → HasValue x false a c → T (not (minus_zero x))
unfolding minus_zero
plus nan a c v = tt
plus (inf t) a c v = tt
plus (fin false m e) a c v = tt
plus (fin true m e) a c v = absurd (clash (sym v.0))

nonzero : (x : Float) (a c : ℕ) → HasValue x true (suc a) c → T (not (minus_zero x))
unfolding minus_zero
nonzero nan a c v = tt
nonzero (inf t) a c v = tt
nonzero (fin false m e) a c v = tt
nonzero (fin true zero e) a c v = absurd (lt_irrefl 0 (lt_of_lt_of_le (mul-pos (zero-lt-suc a) (down_pos e)) (le_of_eq (sym v.1 ∙ ap (λ x. x * c) (zero-mul (up e)) ∙ zero-mul c))))
nonzero (fin true (suc m) e) a c v = subst (λ b. T (not b)) (sym (ne_eqb (suc m) 0 (λ h. omega arith))) tt

pub dyadic-not-minus-zero : (z : ℤ) (k : ℕ) → nat_abs z ≤ 2 ^ 53 → k ≤ 1074 → T (not (minus_zero (dyadic z k)))
unfolding dyadic
dyadic-not-minus-zero (pos n) k hz hk = plus (round binary64 false n (2 ^ k)) n (2 ^ k) (round-value binary64 false n k hz hk)
dyadic-not-minus-zero (negsuc n) k hz hk = nonzero (round binary64 true (suc n) (2 ^ k)) n (2 ^ k) (round-value binary64 true (suc n) k hz hk)

-- ---- equal fractions have one double

over-dyadic : (z : ℤ) (k : ℕ) → over z (2 ^ k) ≡ dyadic z k
unfolding over dyadic
over-dyadic (pos n) k = refl
over-dyadic (negsuc n) k = refl

pub dyadic-same : (y : ℤ) (j : ℕ) (z : ℤ) (k : ℕ) → y *ℤ pos (2 ^ k) ≡ z *ℤ pos (2 ^ j) → dyadic y j ≡ dyadic z k
dyadic-same y j z k e = sym (over-dyadic y j) ∙ over-same y (2 ^ j) z (2 ^ k) (pow_pos j) (pow_pos k) e ∙ over-dyadic z k

pub dyadic-scale : (z : ℤ) (j k : ℕ) → dyadic (z *ℤ pos (2 ^ j)) (k + j) ≡ dyadic z k
dyadic-scale z j k =
    dyadic-same (z *ℤ pos (2 ^ j)) (k + j) z k
    (solve (z ∷ pos (2 ^ j) ∷ pos (2 ^ k) ∷ []) (var 0 ⊗ var 1 ⊗ var 2) (var 0 ⊗ (var 2 ⊗ var 1)) tt ∙ ap (λ x. z *ℤ pos x) (sym (pow-add 2 k j)))

-- ---- sums

-- of any two; the sum is exact too where its own numerator is within 2^53 (`dyadic-exact`)
pub dyadic-add-any : (y : ℤ) (j : ℕ) (z : ℤ) (k : ℕ) → nat_abs y ≤ 2 ^ 53 → j ≤ 1074 → nat_abs z ≤ 2 ^ 53 → k ≤ 1074
    → add binary64 (dyadic y j) (dyadic z k) ≡ dyadic (y *ℤ pos (2 ^ k) +ℤ z *ℤ pos (2 ^ j)) (j + k)
dyadic-add-any y j z k hy hj hz hk =
    add-values (dyadic y j) (dyadic z k) y z (2 ^ j) (2 ^ k) (pow_pos j) (pow_pos k) (dyadic-exact y j hy hj) (dyadic-exact z k hz hk) (dyadic-not-minus-zero y j hy hj) (dyadic-not-minus-zero z k hz hk)
    ∙ ap (over (y *ℤ pos (2 ^ k) +ℤ z *ℤ pos (2 ^ j))) (sym (pow-add 2 j k))
    ∙ over-dyadic (y *ℤ pos (2 ^ k) +ℤ z *ℤ pos (2 ^ j)) (j + k)

-- over the same power of two
pub dyadic-add : (y z : ℤ) (k : ℕ) → nat_abs y ≤ 2 ^ 53 → nat_abs z ≤ 2 ^ 53 → k ≤ 1074 → add binary64 (dyadic y k) (dyadic z k) ≡ dyadic (y +ℤ z) k
dyadic-add y z k hy hz hk =
    dyadic-add-any y k z k hy hk hz hk
    ∙ ap (λ x. dyadic x (k + k)) (solve (y ∷ z ∷ pos (2 ^ k) ∷ []) (var 0 ⊗ var 2 ⊕ var 1 ⊗ var 2) ((var 0 ⊕ var 1) ⊗ var 2) tt)
    ∙ dyadic-scale (y +ℤ z) k k

-- ---- halves

pub dyadic-half : (z : ℤ) (k : ℕ) → nat_abs z ≤ 2 ^ 53 → k ≤ 1074 → div binary64 (dyadic z k) two ≡ dyadic z (suc k)
dyadic-half z k hz hk =
    half-value (dyadic z k) z (2 ^ k) (pow_pos k) (dyadic-exact z k hz hk) (dyadic-not-minus-zero z k hz hk)
    ∙ ap (over z) (sym (pow-succ' 2 k))
    ∙ over-dyadic z (suc k)

pub dyadic-mid : (y z : ℤ) (k : ℕ) → nat_abs y ≤ 2 ^ 53 → nat_abs z ≤ 2 ^ 53 → nat_abs (y +ℤ z) ≤ 2 ^ 53 → k ≤ 1074 → mid (dyadic y k) (dyadic z k) ≡ dyadic (y +ℤ z) (suc k)
unfolding mid
dyadic-mid y z k hy hz hs hk = ap (λ x. div binary64 x two) (dyadic-add y z k hy hz hk) ∙ dyadic-half (y +ℤ z) k hs hk

-- ---- conversions

-- what `i32 as f64` makes of a whole number
pub dyadic-whole : (z : ℤ) → of_int binary64 z ≡ dyadic z 0
unfolding of_int dyadic
dyadic-whole (pos n) = refl
dyadic-whole (negsuc n) = refl
