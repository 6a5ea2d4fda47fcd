-- A list that was filled by a rule: what stands at each place, and that nothing else is the same list.
use mathlib.Core.Path.{◌≡◌, refl, sym, ap, ◌∙◌}
use mathlib.Core.Logic.{⊎_elim}
use mathlib.Core.List.{List}
use Prim.Native.Nat.{ℕ, zero, suc, ◌+◌, ◌-◌, ◌≤◌, ◌<◌}
use native.Mathlib.Omega.{arith}
use lib.IntN.{ℤ, pos}
use lib.ListN.{get_or, length}
use lib.Seq.{sets, set-get_or, ext_get_or, length-sets}
use Rattle.whole.specs.Outcome.{outcome}
use Rattle.curve.specs.Tab.{tab}
use Rattle.curve.proofs.Fills.{before-sets, past-sets, in-sets}
use Rattle.curve.proofs.Tab.{length-tab, get_or-tab}
use Rattle.shape.proofs.Tests.{either}
use Rattle.shape.specs.declared.Plan.{Plan}
use Rattle.spans.specs.Numbers.{noughts}
use Rattle.spans.specs.Filled.{filled, fills}

pub length-filled : (f : ℕ → ℤ) (q n : ℕ) (l : List ℤ) → length (filled f q n l) ≡ length l
length-filled f q n l = length-sets l q (tab f q n)

-- ---- what stands at a place

module _ (f : ℕ → ℤ) (q n : ℕ) (l : List ℤ) (i : ℕ) where
  pub in-filled : q ≤ i → i < q + n → q + n ≤ length l → get_or (filled f q n l) i (pos 0) ≡ f i
  in-filled low high room =
      let e : q + (i - q) ≡ i = omega arith in
      ap (λ (p : ℕ). get_or (filled f q n l) p (pos 0)) (sym e)
      ∙ in-sets (tab f q n) l q (i - q) (pos 0) (omega (arith, length-tab f q n)) (omega arith)
      ∙ get_or-tab f q n (i - q) (omega arith) (pos 0)
      ∙ ap f e

  pub before-filled : i < q → get_or (filled f q n l) i (pos 0) ≡ get_or l i (pos 0)
  before-filled h = before-sets (tab f q n) l q i (pos 0) h

  pub past-filled : q + n ≤ i → get_or (filled f q n l) i (pos 0) ≡ get_or l i (pos 0)
  past-filled h = past-sets (tab f q n) l q i (pos 0) (omega (arith, length-tab f q n))

-- ---- which list it is

pub none_filled : (f : ℕ → ℤ) (q n : ℕ) (l : List ℤ) → n ≡ 0 → filled f q n l ≡ l
unfolding tab
none_filled f q n l e = ap (λ (m : ℕ). filled f q m l) e

-- no numbers of an outline drawn
pub none-fills : (p : Plan) (controls : List ℤ) (q n : ℕ) (l : List ℤ) → n ≡ 0 → fills p controls q n l ≡ outcome 0 l
unfolding tab noughts
none-fills p controls q n l e = ap (λ (m : ℕ). fills p controls q m l) e

-- a list filled with its own numbers is as it was
pub same-filled : (l : List ℤ) (q n : ℕ) → filled (λ (i : ℕ). get_or l i (pos 0)) q n l ≡ l
unfolding tab
same-filled l q zero = refl
same-filled l q (suc n) = ap (λ v. sets v (suc q) (tab (λ (i : ℕ). get_or l i (pos 0)) (suc q) n)) (set-get_or l q (pos 0)) ∙ same-filled l (suc q) n

-- a list with a rule's numbers in front and the old ones past them is the old one, filled
pub is-filled :
    (f : ℕ → ℤ) (n : ℕ) (l new : List ℤ)
    → n ≤ length l
    → length new ≡ length l
    → ((i : ℕ) → i < n → get_or new i (pos 0) ≡ f i)
    → ((i : ℕ) → n ≤ i → get_or new i (pos 0) ≡ get_or l i (pos 0))
    → new ≡ filled f 0 n l
is-filled f n l new room long front past =
    ext_get_or (pos 0) new (filled f 0 n l) (long ∙ sym (length-filled f 0 n l))
    (λ i h.
    ⊎_elim (λ (low : i < n). front i low ∙ sym (in-filled f 0 n l i (omega arith) (omega arith) (omega arith)))
    (λ (high : n ≤ i). past i high ∙ sym (past-filled f 0 n l i (omega arith)))
    (either i n))
