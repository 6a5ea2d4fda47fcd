-- The double that a sign s, an exponent's field x and the digits t stand for, measured by the field: below 1012 it is less than half a micrometre, 2047 is no number,
-- any other above 1034 is 4,096 mm or more, and between it is (2^52 + t) / 2^(1075 - x) mm.
use Rattle.std.specs.Prelude.{Err, Ok}
use mathlib.Core.Path.{◌≡◌, refl, sym, ap, ◌∙◌}
use mathlib.Core.Bool.{Bool, true, false, cond}
use Prim.Native.Nat.{ℕ, zero, suc, ◌+◌, ◌*◌, ◌-◌, ◌^◌, ◌≤◌, ◌<◌}
use native.Mathlib.Nat.{lt_of_lt_of_le, lt_of_le_of_lt, le_of_eq, mul_assoc, mul_right_comm, mul-le-mul, mul-pos}
use native.Mathlib.Omega.{arith}
use borrow.Author.Tests.{ne_eqb, eq-eqb}
use lib.Dec.{eqb, lit≤, lit<}
use lib.Pow.{pow-add, pow_pos, pow_mono, shl_lt}
use lib.IntN.{pos}
use lib.Ieee.{nan, inf, binary64, prec, low, hid, ones, odd, of_fields}
use lib.Ieee.Exact.{odd_sign}
use Rattle.whole.specs.Nearest.{nearest}
use Rattle.curve.specs.Limits.{limit}
use Rattle.doubles.specs.Exact.{signed}
use Rattle.doubles.specs.Number.{thousand, within, measure}
use Rattle.doubles.specs.declared.Unmeasured.TheVariants.{NotFinite, Outside}
use Rattle.doubles.proofs.Rounding.{nearest-same, nearest-tiny, nearest-far}
use Rattle.doubles.proofs.Values.{signed-times, value_of}
use Rattle.doubles.proofs.Measures.{inside, outside, measured}

-- ---- q · 2^k / 2^l millimetres

measure-odd : (d : ℕ) (s : Bool) (q k l : ℕ) → measure (odd d s q k l) ≡ within (nearest (signed s (q * 2 ^ k * thousand)) (2 ^ l))
measure-odd d s q k l =
    measured (odd d s q k l) (signed s (q * 2 ^ k)) (2 ^ l) (pow_pos l) (value_of (odd d s q k l) s (q * 2 ^ k) (2 ^ l) (odd_sign d s q k l))
    ∙ ap (λ z. within (nearest z (2 ^ l))) (sym (signed-times s (q * 2 ^ k) thousand))

tiny : (d : ℕ) (s : Bool) (q k l : ℕ) → q < 2 ^ 53 → 64 + k ≤ l → measure (odd d s q k l) ≡ Ok (pos 0)
tiny d s q k l hq hl =
    measure-odd d s q k l
    ∙ ap within (nearest-tiny s (q * 2 ^ k * thousand) (2 ^ l) small)
    ∙ inside (pos 0) (lit≤ tt)
  where
    fine : q * 2000 < 2 ^ 64
    fine = omega arith

    twice : 2 * (q * 2 ^ k * 1000) ≡ q * 2000 * 2 ^ k
    twice = omega (arith, mul_right_comm q 2000 (2 ^ k))

    small : 2 * (q * 2 ^ k * 1000) < 2 ^ l
    small = lt_of_le_of_lt (le_of_eq twice) (lt_of_lt_of_le (shl_lt 64 k fine) (pow_mono hl))

-- 4096 mm or more
far : (d : ℕ) (s : Bool) (q k l : ℕ) → 2 ^ 52 ≤ q → l ≤ 40 + k → measure (odd d s q k l) ≡ Err Outside
far d s q k l hq hl =
    measure-odd d s q k l
    ∙ outside (nearest (signed s (q * 2 ^ k * thousand)) (2 ^ l)) (nearest-far s (q * 2 ^ k * thousand) (2 ^ l) limit (pow_pos l) large)
  where
    -- 2^l · 4000001 ≤ 2^40 · 2^k · 4000001 ≤ 2^52 · 2^k · 1000
    large : 2 ^ l * suc limit ≤ q * 2 ^ k * 1000
    large = omega (arith, pow_mono hl, pow-add 2 40 k, mul-le-mul hq (le_of_eq {n = 2 ^ k} refl))

-- one power of two taken out of both parts of the fraction
between : (d : ℕ) (s : Bool) (q k l j : ℕ) → k + (2 + j) ≡ l → measure (odd d s q k l) ≡ within (nearest (signed s (q * thousand)) (4 * 2 ^ j))
between d s q k l j e =
    measure-odd d s q k l
    ∙ ap within
    (nearest-same (signed s (q * 2 ^ k * thousand)) (2 ^ l) (signed s (q * thousand)) (4 * 2 ^ j) (pow_pos l) (mul-pos (lit< tt) (pow_pos j))
    (sym (signed-times s (q * 2 ^ k * thousand) (4 * 2 ^ j)) ∙ ap (signed s) crossed ∙ signed-times s (q * thousand) (2 ^ l)))
  where
    power : 2 ^ k * (4 * 2 ^ j) ≡ 2 ^ l
    power = ap (λ x. 2 ^ k * x) (sym (pow-add 2 2 j)) ∙ sym (pow-add 2 k (2 + j)) ∙ ap (λ x. 2 ^ x) e

    crossed : q * 2 ^ k * 1000 * (4 * 2 ^ j) ≡ q * 1000 * 2 ^ l
    crossed = ap (λ x. x * (4 * 2 ^ j)) (mul_right_comm q (2 ^ k) 1000) ∙ mul_assoc (q * 1000) (2 ^ k) (4 * 2 ^ j) ∙ ap (λ x. q * 1000 * x) power

-- ---- by the field

leading : (s : Bool) (x t : ℕ) → (suc x ≡ ones binary64 → ⊥) → of_fields binary64 s (suc x) t ≡ odd (prec binary64) s (hid binary64 + t) x (low binary64)
unfolding of_fields
leading s x t h =
    ap (λ b. cond b (cond (eqb t 0) (inf s) nan) (odd (prec binary64) s (hid binary64 + t) x (low binary64))) (ne_eqb (suc x) (ones binary64) h)

no_number : (b s : Bool) → measure (cond b (inf s) nan) ≡ Err NotFinite
unfolding measure
no_number true s = refl
no_number false s = refl

pub field-tiny : (s : Bool) (x t : ℕ) → t < 2 ^ 52 → x < 1012 → measure (of_fields binary64 s x t) ≡ Ok (pos 0)
unfolding of_fields
field-tiny s zero t ht h = tiny (prec binary64) s t 0 (low binary64) (omega arith) (lit≤ tt)
field-tiny s (suc x) t ht h = ap measure (leading s x t (λ e. omega arith)) ∙ tiny (prec binary64) s (hid binary64 + t) x (low binary64) (omega arith) (omega arith)

pub field-ones : (s : Bool) (x t : ℕ) → x ≡ 2047 → measure (of_fields binary64 s x t) ≡ Err NotFinite
unfolding of_fields
field-ones s zero t h = absurd (omega arith)
field-ones s (suc x) t h =
    ap (λ b. measure (cond b (cond (eqb t 0) (inf s) nan) (odd (prec binary64) s (hid binary64 + t) x (low binary64)))) (eq-eqb (suc x) 2047 h)
    ∙ no_number (eqb t 0) s

pub field-far : (s : Bool) (x t : ℕ) → 1034 < x → (x ≡ 2047 → ⊥) → measure (of_fields binary64 s x t) ≡ Err Outside
field-far s zero t h n = absurd (omega arith)
field-far s (suc x) t h n = ap measure (leading s x t n) ∙ far (prec binary64) s (hid binary64 + t) x (low binary64) (omega arith) (omega arith)

pub field-between : (s : Bool) (x t : ℕ) → 0 < x → x ≤ 1034 → measure (of_fields binary64 s x t) ≡ within (nearest (signed s ((2 ^ 52 + t) * thousand)) (4 * 2 ^ (1073 - x)))
field-between s zero t h k = absurd (omega arith)
field-between s (suc x) t h k =
    ap measure (leading s x t (λ e. omega arith)) ∙ between (prec binary64) s (hid binary64 + t) x (low binary64) (1073 - suc x) (omega arith)
