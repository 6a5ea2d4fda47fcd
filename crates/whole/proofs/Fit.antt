-- That a machine sum fits, by computation. An expression of `Ring` is read four ways: its value (`ev`), the value that the machine keeps at a width, where each
-- result goes through its bits (`raw`), a bound that computes from bounds of the variables (`size`), and the test that every bound is in the width's range (`safe`).
-- Where the test passes, each operation's need holds (`need`) and the machine's value is the value (`exact`).
use mathlib.Core.Path.{◌≡◌, refl, sym, ap, ◌∙◌, subst}
use mathlib.Core.Bool.{Bool, ◌&&◌}
use mathlib.Core.List.{List, [], ◌∷◌}
use Prim.Native.Nat.{ℕ, zero, suc, ◌+◌, ◌*◌, ◌-◌, ◌^◌, ◌≤◌, ◌<◌}
use native.Mathlib.Omega.{arith}
use native.Mathlib.Nat.{mul-le-mul, le_refl, le_trans, lt_of_le_of_lt, lt_of_lt_of_le, le_of_eq, mul_comm, mul-suc, mul-div_cancel_left, div-eq_of_lt-le}
use lib.Dec.{T, ltb, ltb→lt, lit≤}
use lib.IntN.{ℤ, pos, negsuc, neg_ℤ, nat_abs, sub_ℕ, ◌+ℤ◌, ◌-ℤ◌, ◌*ℤ◌, +ℤ_idl}
use lib.Signed.{mag, lt_z, shr_z, mag_shr}
use mir.Syntax.{Width, w32, w64}
use mir.Val.{SFits, to_z, of_z, hbits}
use mir.ValLaws.{to_z-of_z}
use Rattle.whole.proofs.Ring.{Ex, var, lit, ◌⊕◌, ◌⊖◌, ◌⊗◌, look, ev, and_left, and_right}
use Rattle.whole.proofs.Order.{subℕ-ind}

-- ---- sizes

pub mag-le : (z : ℤ) → mag z ≤ nat_abs z
mag-le (pos n) = le_refl n
mag-le (negsuc n) = omega arith

nat_abs-subℕ : (a b : ℕ) → nat_abs (sub_ℕ a b) ≤ a + b
nat_abs-subℕ a b = subℕ-ind a b (λ z. nat_abs z ≤ a + b) (λ n e. omega arith) (λ n e. omega arith)

pub nat_abs-add : (a b : ℤ) → nat_abs (a +ℤ b) ≤ nat_abs a + nat_abs b
nat_abs-add (pos a) (pos b) = le_refl (a + b)
nat_abs-add (pos a) (negsuc b) = nat_abs-subℕ a (suc b)
nat_abs-add (negsuc a) (pos b) = le_trans (nat_abs-subℕ b (suc a)) (omega arith)
nat_abs-add (negsuc a) (negsuc b) = omega arith

pub nat_abs-neg : (a : ℤ) → nat_abs (neg_ℤ a) ≡ nat_abs a
nat_abs-neg (pos zero) = refl
nat_abs-neg (pos (suc n)) = refl
nat_abs-neg (negsuc n) = refl

pub nat_abs_mul : (a b : ℤ) → nat_abs (a *ℤ b) ≡ nat_abs a * nat_abs b
nat_abs_mul (pos a) (pos b) = refl
nat_abs_mul (pos a) (negsuc b) = nat_abs-neg (pos (a * suc b))
nat_abs_mul (negsuc a) (pos b) = nat_abs-neg (pos (suc a * b))
nat_abs_mul (negsuc a) (negsuc b) = refl

abbrev pub look_n : List ℕ → ℕ → ℕ
look_n [] n = 0
look_n (x ∷ r) zero = x
look_n (x ∷ r) (suc n) = look_n r n

-- each variable is at most as large as its bound
abbrev pub Bounded : List ℤ → List ℕ → Type 0
Bounded [] [] = Unit {0}
Bounded [] (b ∷ bs) = Unit {0}
Bounded (x ∷ r) [] = ⊥
Bounded (x ∷ r) (b ∷ bs) = (nat_abs x ≤ b) × Bounded r bs

abbrev pub size : List ℕ → Ex → ℕ
size bs (var n) = look_n bs n
size bs (lit z) = nat_abs z
size bs (a ⊕ b) = size bs a + size bs b
size bs (a ⊖ b) = size bs a + size bs b
size bs (a ⊗ b) = size bs a * size bs b

look-size : (r : List ℤ) (bs : List ℕ) → Bounded r bs → (n : ℕ) → nat_abs (look r n) ≤ look_n bs n
look-size [] [] ok n = omega arith
look-size [] (b ∷ bs) ok n = omega arith
look-size (x ∷ r) [] ok n = absurd ok
look-size (x ∷ r) (b ∷ bs) ok zero = ok.0
look-size (x ∷ r) (b ∷ bs) ok (suc n) = look-size r bs ok.1 n

pub ev-size : (r : List ℤ) (bs : List ℕ) → Bounded r bs → (e : Ex) → nat_abs (ev r e) ≤ size bs e
ev-size r bs ok (var n) = look-size r bs ok n
ev-size r bs ok (lit z) = le_refl (nat_abs z)
ev-size r bs ok (a ⊕ b) = omega (arith, nat_abs-add (ev r a) (ev r b), ev-size r bs ok a, ev-size r bs ok b)
ev-size r bs ok (a ⊖ b) = omega (arith, nat_abs-add (ev r a) (neg_ℤ (ev r b)), nat_abs-neg (ev r b), ev-size r bs ok a, ev-size r bs ok b)
ev-size r bs ok (a ⊗ b) = le_trans (le_of_eq (nat_abs_mul (ev r a) (ev r b))) (mul-le-mul (ev-size r bs ok a) (ev-size r bs ok b))

-- ---- the machine at a width

abbrev pub kept : Width → ℤ → ℤ
kept w z = to_z w (of_z w z)

abbrev pub raw : Width → List ℤ → Ex → ℤ
raw w r (var n) = kept w (look r n)
raw w r (lit z) = kept w z
raw w r (a ⊕ b) = kept w (raw w r a +ℤ raw w r b)
raw w r (a ⊖ b) = kept w (raw w r a -ℤ raw w r b)
raw w r (a ⊗ b) = kept w (raw w r a *ℤ raw w r b)

abbrev pub in_range : Width → ℕ → Bool
in_range w n = ltb n (2 ^ hbits w)

abbrev pub safe : Width → List ℕ → Ex → Bool
safe w bs (var n) = in_range w (look_n bs n)
safe w bs (lit z) = in_range w (nat_abs z)
safe w bs (a ⊕ b) = in_range w (size bs a + size bs b) && (safe w bs a && safe w bs b)
safe w bs (a ⊖ b) = in_range w (size bs a + size bs b) && (safe w bs a && safe w bs b)
safe w bs (a ⊗ b) = in_range w (size bs a * size bs b) && (safe w bs a && safe w bs b)

pub sfits : (w : Width) (z : ℤ) (n : ℕ) → nat_abs z ≤ n → T (in_range w n) → SFits w z
sfits w z n h t = record { sfits = lt_of_le_of_lt (mag-le z) (lt_of_le_of_lt h (ltb→lt n (2 ^ hbits w) t)) }

pub kept-is : (w : Width) (z : ℤ) → SFits w z → kept w z ≡ z
kept-is w z f = to_z-of_z w z f

-- what an operation asks: its result, from the machine's operands, is in range
abbrev pub Need : Width → List ℤ → Ex → Type 0
Need w r (var n) = SFits w (look r n)
Need w r (lit z) = SFits w z
Need w r (a ⊕ b) = SFits w (raw w r a +ℤ raw w r b)
Need w r (a ⊖ b) = SFits w (raw w r a -ℤ raw w r b)
Need w r (a ⊗ b) = SFits w (raw w r a *ℤ raw w r b)

-- an operation on exact operands, within its bound
operated : (w : Width) (o : ℤ → ℤ → ℤ) {x y u v : ℤ} (n : ℕ) → x ≡ u → y ≡ v → nat_abs (o u v) ≤ n → T (in_range w n) → SFits w (o x y)
operated w o {x} {y} {u} {v} n e f h t = subst (λ p. SFits w (o p y)) (sym e) (subst (λ p. SFits w (o u p)) (sym f) (sfits w (o u v) n h t))

kept_op : (w : Width) (o : ℤ → ℤ → ℤ) {x y u v : ℤ} (n : ℕ) → x ≡ u → y ≡ v → nat_abs (o u v) ≤ n → T (in_range w n) → kept w (o x y) ≡ o u v
kept_op w o {x} {y} {u} {v} n e f h t = kept-is w (o x y) (operated w o n e f h t) ∙ ap (λ p. o p y) e ∙ ap (λ p. o u p) f

module _ (w : Width) (r : List ℤ) (bs : List ℕ) (ok : Bounded r bs) where
  -- the three tests of an operation
  tests : (n : ℕ) (a b : Ex) → T (in_range w n && (safe w bs a && safe w bs b)) → T (in_range w n) × T (safe w bs a) × T (safe w bs b)
  tests n a b t =
      let both = and_right (in_range w n) (safe w bs a && safe w bs b) t in
      (and_left (in_range w n) (safe w bs a && safe w bs b) t, and_left (safe w bs a) (safe w bs b) both, and_right (safe w bs a) (safe w bs b) both)

  pub exact : (e : Ex) → T (safe w bs e) → raw w r e ≡ ev r e
  exact (var n) t = kept-is w (look r n) (sfits w (look r n) (look_n bs n) (look-size r bs ok n) t)
  exact (lit z) t = kept-is w z (sfits w z (nat_abs z) (le_refl (nat_abs z)) t)
  exact (a ⊕ b) t =
      let (n, u, v) = tests (size bs a + size bs b) a b t in
      kept_op w ◌+ℤ◌ (size bs a + size bs b) (exact a u) (exact b v) (ev-size r bs ok (a ⊕ b)) n
  exact (a ⊖ b) t =
      let (n, u, v) = tests (size bs a + size bs b) a b t in
      kept_op w ◌-ℤ◌ (size bs a + size bs b) (exact a u) (exact b v) (ev-size r bs ok (a ⊖ b)) n
  exact (a ⊗ b) t =
      let (n, u, v) = tests (size bs a * size bs b) a b t in
      kept_op w ◌*ℤ◌ (size bs a * size bs b) (exact a u) (exact b v) (ev-size r bs ok (a ⊗ b)) n

  pub need : (e : Ex) → T (safe w bs e) → Need w r e
  need (var n) t = sfits w (look r n) (look_n bs n) (look-size r bs ok n) t
  need (lit z) t = sfits w z (nat_abs z) (le_refl (nat_abs z)) t
  need (a ⊕ b) t =
      let (n, u, v) = tests (size bs a + size bs b) a b t in
      operated w ◌+ℤ◌ (size bs a + size bs b) (exact a u) (exact b v) (ev-size r bs ok (a ⊕ b)) n
  need (a ⊖ b) t =
      let (n, u, v) = tests (size bs a + size bs b) a b t in
      operated w ◌-ℤ◌ (size bs a + size bs b) (exact a u) (exact b v) (ev-size r bs ok (a ⊖ b)) n
  need (a ⊗ b) t =
      let (n, u, v) = tests (size bs a * size bs b) a b t in
      operated w ◌*ℤ◌ (size bs a * size bs b) (exact a u) (exact b v) (ev-size r bs ok (a ⊗ b)) n

-- ---- a 32-bit number, taken as one of 64 bits

wider : (z : ℤ) → SFits w32 z → SFits w64 z
wider z f = record { sfits = lt_of_lt_of_le f.sfits (lit≤ tt) }

pub widened-fits : (z : ℤ) → SFits w32 z → SFits w64 (kept w32 z)
widened-fits z f = subst (SFits w64) (sym (kept-is w32 z f)) (wider z f)

pub widened : (z : ℤ) → SFits w32 z → kept w64 (kept w32 z) ≡ z
widened z f = ap (kept w64) (kept-is w32 z f) ∙ kept-is w64 z (wider z f)

-- ---- a number turned, which the machine takes as a difference from 0

pub size_fits : (w : Width) (z : ℤ) → nat_abs z < 2 ^ hbits w → SFits w z
size_fits w z h = record { sfits = lt_of_le_of_lt (mag-le z) h }

turned : (w : Width) (z : ℤ) → nat_abs z < 2 ^ hbits w → pos 0 -ℤ kept w z ≡ neg_ℤ z
turned w z h = ap (λ x. pos 0 -ℤ x) (kept-is w z (size_fits w z h)) ∙ +ℤ_idl (neg_ℤ z)

pub turned-fits : (w : Width) (z : ℤ) → nat_abs z < 2 ^ hbits w → SFits w (pos 0 -ℤ kept w z)
turned-fits w z h = subst (SFits w) (sym (turned w z h)) (size_fits w (neg_ℤ z) (subst (λ (n : ℕ). n < 2 ^ hbits w) (sym (nat_abs-neg z)) h))

pub turned-kept : (w : Width) (z : ℤ) → nat_abs z < 2 ^ hbits w → kept w (pos 0 -ℤ kept w z) ≡ neg_ℤ z
turned-kept w z h = kept-is w (pos 0 -ℤ kept w z) (turned-fits w z h) ∙ turned w z h

-- the test of its sign, on the number as the machine keeps it
pub sign_kept : (w : Width) (z : ℤ) → nat_abs z < 2 ^ hbits w → {b : Bool} → lt_z (kept w z) (pos 0) ≡ b → lt_z z (pos 0) ≡ b
sign_kept w z h e = ap (λ x. lt_z x (pos 0)) (sym (kept-is w z (size_fits w z h))) ∙ e

-- ---- a shift of a multiple of its power of two, as the machine keeps it, loses nothing

shift-multiple : (z : ℤ) (d : ℕ) → 0 < d → shr_z (pos d *ℤ z) d ≡ z
shift-multiple (pos n) d h = ap pos (mul-div_cancel_left n h)
shift-multiple (negsuc n) d h = ap (λ x. shr_z x d) (minus-suc (d * suc n) (d * suc n - 1) (omega (arith, mul-suc d n))) ∙ ap negsuc (div-eq_of_lt-le d (omega (arith, mul-suc d n, mul_comm n d)) (omega (arith, mul-suc d n, mul_comm (n + 1) d)))
  where
    minus-suc : (m k : ℕ) → m ≡ suc k → neg_ℤ (pos m) ≡ negsuc k
    minus-suc m k e = ap (λ (x : ℕ). neg_ℤ (pos x)) e

pub shift_kept : (z : ℤ) (d : ℕ) → 0 < d → SFits w64 (pos d *ℤ z) → kept w64 (shr_z (kept w64 (pos d *ℤ z)) d) ≡ z
shift_kept z d h f =
    ap (λ x. kept w64 (shr_z x d)) (kept-is w64 (pos d *ℤ z) f)
    ∙ kept-is w64 (shr_z (pos d *ℤ z) d) (record { sfits = lt_of_le_of_lt (mag_shr (pos d *ℤ z) d) f.sfits })
    ∙ shift-multiple z d h
