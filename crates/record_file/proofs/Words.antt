-- Words of 32 bits: from 2^31 on, a word less 2^32 is a number below zero whose size is what lacks to 2^32; and four bytes and two's complement lose nothing of 32 bits.
use mathlib.Core.Path.{◌≡◌, sym, ap, ◌∙◌}
use Prim.Native.Nat.{ℕ, suc, ◌+◌, ◌*◌, ◌-◌, ◌/◌, ◌%◌, ◌^◌, ◌≤◌, ◌<◌}
use native.Mathlib.Nat.{div-div-eq-div-mul, mod-eq_of_lt}
use native.Mathlib.Omega.{arith}
use mathlib.Core.Logic.{⊎_elim}
use borrow.Author.Tests.{lt-ltb, le-ltb}
use lib.Dec.{ltb}
use Rattle.shape.proofs.Tests.{passes}
use lib.IntN.{ℤ, pos, negsuc, nat_abs, ◌-ℤ◌}
use mir.Syntax.{w32}
use mir.Val.{to_z}
use Rattle.whole.proofs.Order.{subℕ-negsuc}
use Rattle.record_file.specs.Format.{signed, unsigned}

pub signed_low : (n : ℕ) → n < 2 ^ 31 → signed n ≡ pos n
unfolding signed
signed_low n h = simp (lt-ltb n (2 ^ 31) h)

less-whole : (n : ℕ) → n < 2 ^ 32 → pos n -ℤ pos (2 ^ 32) ≡ negsuc (2 ^ 32 - suc n)
less-whole n h = subℕ-negsuc n (2 ^ 32) (2 ^ 32 - suc n) (omega arith)

pub signed_high : (n : ℕ) → 2 ^ 31 ≤ n → n < 2 ^ 32 → signed n ≡ negsuc (2 ^ 32 - suc n)
unfolding signed
signed_high n h k = simp (le-ltb n (2 ^ 31) h) (less-whole n k)

-- as the machine has it
pub machine : (n : ℕ) → n < 2 ^ 32 → to_z w32 n ≡ signed n
unfolding signed
machine n h = ⊎_elim (λ t. rw t) (λ f. rw f (sym (less-whole n h))) (passes (ltb n (2 ^ 31)))

-- ---- a word as four bytes, low byte first, and a number of 32 bits as a word: both come back

four_bytes : (n : ℕ) → n < 2 ^ 32 → n % 256 + 256 * (n / 256 % 256) + 65536 * (n / 65536 % 256) + 16777216 * (n / 16777216 % 256) ≡ n
four_bytes n h = joined (n % 256) (n / 256 % 256) (n / 65536 % 256) (n / 16777216 % 256) (n / 256) (n / 65536) (n / 16777216) (split n) (split (n / 256) ∙ carried (n / 256 % 256) (div-div-eq-div-mul n 256 256)) (split (n / 65536) ∙ carried (n / 65536 % 256) (div-div-eq-div-mul n 65536 256)) (sym (mod-eq_of_lt (top n h)))
  where
    split : (m : ℕ) → m ≡ m % 256 + 256 * (m / 256)
    split m = omega arith

    carried : (a : ℕ) {m k : ℕ} → m ≡ k → a + 256 * m ≡ a + 256 * k
    carried a e = ap (λ (j : ℕ). a + 256 * j) e

    top : (n : ℕ) → n < 2 ^ 32 → n / 16777216 < 256
    top n h = omega arith

    joined : (a b c d p q r : ℕ) → n ≡ a + 256 * p → p ≡ b + 256 * q → q ≡ c + 256 * r → r ≡ d → a + 256 * b + 65536 * c + 16777216 * d ≡ n
    joined a b c d p q r e f g k = omega arith

unsigned-fits : (z : ℤ) → nat_abs z < 2 ^ 31 → unsigned z < 2 ^ 32
unsigned-fits (pos n) h = omega arith
unsigned-fits (negsuc n) h = omega arith

signed-unsigned : (z : ℤ) → nat_abs z < 2 ^ 31 → signed (unsigned z) ≡ z
signed-unsigned (pos n) h = signed_low n (omega arith)
signed-unsigned (negsuc n) h = let e : 2 ^ 32 - suc (2 ^ 32 - suc n) ≡ n = omega arith in signed_high (2 ^ 32 - suc n) (omega arith) (omega arith) ∙ ap negsuc e

pub coordinate-back : (z : ℤ) → nat_abs z < 2 ^ 31
    → signed (unsigned z % 256 + 256 * (unsigned z / 256 % 256) + 65536 * (unsigned z / 65536 % 256) + 16777216 * (unsigned z / 16777216 % 256)) ≡ z
coordinate-back z h = ap signed (four_bytes (unsigned z) (unsigned-fits z h)) ∙ signed-unsigned z h
