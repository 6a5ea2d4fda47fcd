-- Numbers written one after another by a rule: what a turn of an upward or a downward loop takes off, and what stands at a place afterwards.
use mathlib.Core.Path.{◌≡◌, refl, sym, ap, ◌∙◌}
use mathlib.Core.List.{List, [], ◌∷◌}
use Prim.Native.Nat.{ℕ, zero, suc, ◌+◌, ◌-◌, ◌^◌, ◌≤◌, ◌<◌}
use native.Mathlib.Nat.{add-zero, add-suc, suc-add}
use native.Mathlib.Numerals.{add-one}
use native.Mathlib.Omega.{arith}
use mir.Facts.{to_z-of_z}
use mir.Syntax.{w32}
use mir.Val.{to_z, of_z, hbits}
use lib.IntN.{ℤ}
use lib.ListN.{length, set, get_or, length-set}
use lib.Signed.{mag}
use lib.Seq.{sets, set_comm, get_or-set_same, get_or-set_other}
use Rattle.curve.specs.Tab.{tab}
use Rattle.curve.proofs.Tab.{length-tab, tab-append}
use Rattle.whole.proofs.Writes.{sets-append}

-- a number read from a list is the number that stands there
pub as_read : (z : ℤ) → mag z < 2 ^ hbits w32 → to_z w32 (of_z w32 z) ≡ z
as_read z h = to_z-of_z {w = w32} {z = z} (record { sfits = h })

module _ {A : Type 0} where
  -- ---- a turn of a loop

  -- upwards: the next number, and those left
  pub fill-next : (f : ℕ → A) (l : List A) (i n : ℕ) → i < n → sets l i (tab f i (n - i)) ≡ sets (set l i (f i)) (i + 1) (tab f (i + 1) (n - (i + 1)))
  unfolding tab
  fill-next f l i n h =
      let e : n - i ≡ suc (n - (i + 1)) = omega arith in
      ap (λ (m : ℕ). sets l i (tab f i m)) e ∙ ap (λ (m : ℕ). sets (set l i (f i)) m (tab f m (n - (i + 1)))) (sym (add-one i))

  -- none is left
  pub fill_done : (f : ℕ → A) (l : List A) (i n : ℕ) → n ≤ i → sets l i (tab f i (n - i)) ≡ l
  unfolding tab
  fill_done f l i n h = let e : n - i ≡ 0 = omega arith in ap (λ (m : ℕ). sets l i (tab f i m)) e

  -- a number past the others may be written before them
  set_first : (vs l : List A) (i j : ℕ) (a : A) → j + length vs ≤ i → sets (set l i a) j vs ≡ set (sets l j vs) i a
  set_first [] l i j a h = refl
  set_first (v ∷ vs) l i j a h =
      let after : suc j + length vs ≤ i = omega (arith, suc-add j (length vs), add-suc j (length vs)) in
      ap (λ r. sets r (suc j) vs) (set_comm l i j a v (λ e. omega (arith, e))) ∙ set_first vs (set l j v) i (suc j) a after

  -- downwards: the last number, and those before it
  pub fill-last : (f : ℕ → A) (l : List A) (from q : ℕ) → from ≤ q → sets l from (tab f from (q + 1 - from)) ≡ sets (set l q (f q)) from (tab f from (q - from))
  unfolding tab
  fill-last f l from q h =
      let vs = tab f from (q - from) in
      let e : q + 1 - from ≡ q - from + 1 = omega arith in
      let at : from + (q - from) ≡ q = omega arith in
      let end : from + length vs ≡ q = ap (λ (n : ℕ). from + n) (length-tab f from (q - from)) ∙ at in
      ap (λ (n : ℕ). sets l from (tab f from n)) e
      ∙ ap (sets l from) (tab-append f from (q - from) 1)
      ∙ sets-append l from vs (tab f (from + (q - from)) 1)
      ∙ ap (λ (n : ℕ). set (sets l from vs) n (f (from + (q - from)))) end
      ∙ ap (λ (n : ℕ). set (sets l from vs) q (f n)) at
      ∙ sym (set_first vs l q from (f q) (omega (arith, end)))

  -- ---- what stands at a place

  pub before-sets : (vs l : List A) (q i : ℕ) (d : A) → i < q → get_or (sets l q vs) i d ≡ get_or l i d
  before-sets [] l q i d h = refl
  before-sets (v ∷ vs) l q i d h = before-sets vs (set l q v) (suc q) i d (omega arith) ∙ get_or-set_other l q i v d (λ e. omega (arith, e))

  pub past-sets : (vs l : List A) (q i : ℕ) (d : A) → q + length vs ≤ i → get_or (sets l q vs) i d ≡ get_or l i d
  past-sets [] l q i d h = refl
  past-sets (v ∷ vs) l q i d h =
      past-sets vs (set l q v) (suc q) i d (omega (arith, suc-add q (length vs), add-suc q (length vs)))
      ∙ get_or-set_other l q i v d (λ e. omega (arith, e, add-suc q (length vs)))

  pub in-sets : (vs l : List A) (q i : ℕ) (d : A) → i < length vs → q + i < length l → get_or (sets l q vs) (q + i) d ≡ get_or vs i d
  in-sets [] l q i d h b = absurd (omega arith)
  in-sets (v ∷ vs) l q zero d h b =
      ap (λ (n : ℕ). get_or (sets (set l q v) (suc q) vs) n d) (add-zero q)
      ∙ before-sets vs (set l q v) (suc q) q d (omega arith)
      ∙ get_or-set_same l q v d (omega (arith, add-zero q))
  in-sets (v ∷ vs) l q (suc i) d h b =
      let on : suc q + i ≡ q + suc i = suc-add q i ∙ sym (add-suc q i) in
      ap (λ (n : ℕ). get_or (sets (set l q v) (suc q) vs) n d) (sym on)
      ∙ in-sets vs (set l q v) (suc q) i d (omega arith) (omega (arith, on, length-set l q v))
