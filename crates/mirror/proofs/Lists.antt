-- A mirrored list: its length, its numbers, and that what is written into a list may be mirrored before or after. And what the checks of every call see of mirrored controls:
-- the same.
use mathlib.Core.Path.{◌≡◌, refl, sym, ap, ◌∙◌}
use mathlib.Core.Bool.{Bool, true, false, cond}
use mathlib.Core.Logic.{⊎_elim}
use mathlib.Core.List.{List, [], ◌∷◌}
use Prim.Native.Nat.{ℕ, zero, suc, ◌+◌, ◌*◌, ◌%◌}
use native.Mathlib.Omega.{arith}
use lib.Dec.{ltb, eqb}
use lib.IntN.{ℤ, pos, neg_ℤ, nat_abs}
use lib.ListN.{length, get_or, set, take, drop}
use lib.Seq.{sets}
use Rattle.whole.proofs.Fit.{nat_abs-neg}
use Rattle.curve.specs.Tab.{tab}
use Rattle.curve.specs.Limits.{limit, beyond}
use Rattle.curve.specs.Span.{coordinate}
use Rattle.shape.specs.declared.Refusal.{Refusal}
use Rattle.shape.specs.Refusals.{Row, First, NoRow, judge, seek, outside, first_outside, control_rows}
use Rattle.shape.proofs.Refusals.{judge-first, judge-none, verdict}
use Rattle.mirror.specs.Mirror.{Axis, X, Y, mirror_x, mirror_y, across, mirrored, mirror}

-- a record or a point more
one_more : (n : ℕ) → 2 * suc n ≡ suc (suc (2 * n))
one_more n = omega arith

module _ {A : Type 0} (minus : A → A) (axis : Axis) where
  -- ---- the numbers on an axis are two apart

  pub across-same : (q r : ℕ) → q % 2 ≡ r % 2 → (v : A) → across minus axis q v ≡ across minus axis r v
  across-same q r e v = rw e

  pub across-next : (q : ℕ) (v : A) → across minus axis (suc (suc q)) v ≡ across minus axis q v
  across-next q = across-same (suc (suc q)) q (omega arith)

  pub across-x : (n : ℕ) (v : A) → across minus axis (2 * n) v ≡ mirror_x minus axis v
  across-x n = across-same (2 * n) 0 (omega arith)

  pub across-y : (n : ℕ) (v : A) → across minus axis (suc (2 * n)) v ≡ mirror_y minus axis v
  across-y n = across-same (suc (2 * n)) 1 (omega arith)

  -- a number in the mirror stays or is negated, whichever number it is
  pub across-cases : (P : (A → A) → Type 0) → P (λ v. v) → P minus → (q : ℕ) → P (across minus axis q)
  across-cases P stays negated q = go axis (eqb (q % 2) 0)
    where
      go : (axis : Axis) (t : Bool) → P (λ v. cond t (mirror_x minus axis v) (mirror_y minus axis v))
      go X true = negated
      go X false = stays
      go Y true = stays
      go Y false = negated

  -- ---- length and numbers

  pub length-mirrored : (l : List A) → length (mirrored minus axis l) ≡ length l
  unfolding mirrored
  length-mirrored [] = refl
  length-mirrored (x ∷ []) = refl
  length-mirrored (x ∷ y ∷ l) = ap (λ (n : ℕ). suc (suc n)) (length-mirrored l)

  -- `d` is what stands past the end
  pub get_or-mirrored : (d : A) → minus d ≡ d → (l : List A) (q : ℕ) → get_or (mirrored minus axis l) q d ≡ across minus axis q (get_or l q d)
  unfolding mirrored
  get_or-mirrored d kept [] q = across-cases (λ g. d ≡ g d) refl (sym kept) q
  get_or-mirrored d kept (x ∷ []) zero = refl
  get_or-mirrored d kept (x ∷ []) (suc q) = across-cases (λ g. d ≡ g d) refl (sym kept) (suc q)
  get_or-mirrored d kept (x ∷ y ∷ l) zero = refl
  get_or-mirrored d kept (x ∷ y ∷ l) (suc zero) = refl
  get_or-mirrored d kept (x ∷ y ∷ l) (suc (suc q)) = get_or-mirrored d kept l q ∙ sym (across-next q (get_or l q d))

  -- ---- one number written

  pub mirrored-set : (l : List A) (q : ℕ) (v : A) → mirrored minus axis (set l q v) ≡ set (mirrored minus axis l) q (across minus axis q v)
  unfolding mirrored
  mirrored-set [] q v = refl
  mirrored-set (x ∷ []) zero v = refl
  mirrored-set (x ∷ []) (suc q) v = refl
  mirrored-set (x ∷ y ∷ l) zero v = refl
  mirrored-set (x ∷ y ∷ l) (suc zero) v = refl
  mirrored-set (x ∷ y ∷ l) (suc (suc q)) v =
      ap (λ r. mirror_x minus axis x ∷ mirror_y minus axis y ∷ r) (mirrored-set l q v ∙ ap (set (mirrored minus axis l) q) (sym (across-next q v)))

  -- ---- numbers written by a rule

  pub mirrored-tab :
      (l : List A) (f : ℕ → A) (i n : ℕ) → mirrored minus axis (sets l i (tab f i n)) ≡ sets (mirrored minus axis l) i (tab (λ q. across minus axis q (f q)) i n)
  unfolding tab
  mirrored-tab l f i zero = refl
  mirrored-tab l f i (suc n) =
      mirrored-tab (set l i (f i)) f (suc i) n ∙ ap (λ r. sets r (suc i) (tab (λ q. across minus axis q (f q)) (suc i) n)) (mirrored-set l i (f i))

  -- where the second rule is the first in the mirror
  pub mirrored-rule :
      (l : List A) (f g : ℕ → A) (i n : ℕ)
      → ((q : ℕ) → g q ≡ across minus axis q (f q))
      → sets (mirrored minus axis l) i (tab g i n) ≡ mirrored minus axis (sets l i (tab f i n))
  mirrored-rule l f g i n same = ap (λ h. sets (mirrored minus axis l) i (tab h i n)) (λ j q. same q j) ∙ sym (mirrored-tab l f i n)

  -- ---- records written, from record n on

  pub mirrored-record :
      (l : List A) (n : ℕ) (x y : A)
      → mirrored minus axis (set (set l (2 * n) x) (suc (2 * n)) y) ≡ set (set (mirrored minus axis l) (2 * n) (mirror_x minus axis x)) (suc (2 * n)) (mirror_y minus axis y)
  mirrored-record l n x y = rw (mirrored-set, mirrored-set, across-x, across-y)

  pub mirrored-sets : (l : List A) (n : ℕ) (vs : List A) → mirrored minus axis (sets l (2 * n) vs) ≡ sets (mirrored minus axis l) (2 * n) (mirrored minus axis vs)
  unfolding mirrored
  mirrored-sets l n [] = refl
  mirrored-sets l n (x ∷ []) = rw (mirrored-set, across-x)
  mirrored-sets l n (x ∷ y ∷ vs) =
      rw (sym (one_more n)) (mirrored-sets (set (set l (2 * n) x) (suc (2 * n)) y) (suc n) vs ∙ ap (λ r. sets r (2 * suc n) (mirrored minus axis vs)) (mirrored-record l n x y))

-- ---- parts of a list: its front, and what follows n whole records or points

module _ {A : Type 0} (minus : A → A) (axis : Axis) where
  pub mirrored-take : (n : ℕ) (l : List A) → mirrored minus axis (take n l) ≡ take n (mirrored minus axis l)
  unfolding mirrored
  mirrored-take zero l = refl
  mirrored-take (suc n) [] = refl
  mirrored-take (suc zero) (x ∷ []) = refl
  mirrored-take (suc zero) (x ∷ y ∷ l) = refl
  mirrored-take (suc (suc n)) (x ∷ []) = refl
  mirrored-take (suc (suc n)) (x ∷ y ∷ l) = ap (λ r. mirror_x minus axis x ∷ mirror_y minus axis y ∷ r) (mirrored-take n l)

  pub mirrored-drop : (n : ℕ) (l : List A) → mirrored minus axis (drop (2 * n) l) ≡ drop (2 * n) (mirrored minus axis l)
  unfolding mirrored
  mirrored-drop zero l = refl
  mirrored-drop (suc n) [] = rw (one_more n) refl
  mirrored-drop (suc n) (x ∷ []) = rw (one_more n) refl
  mirrored-drop (suc n) (x ∷ y ∷ l) = rw (one_more n) (mirrored-drop n l)

-- ---- numbers of two kinds: what takes a number negated to its own negated does so across the mirror

pub across-through :
    {A B : Type 0} (minus : A → A) (minus' : B → B) (f : A → B) (v : A) → f (minus v) ≡ minus' (f v) → (axis : Axis) (q : ℕ) → f (across minus axis q v) ≡ across minus' axis q (f v)
across-through minus minus' f v h axis q = go axis (eqb (q % 2) 0)
  where
    go : (axis : Axis) (t : Bool) → f (cond t (mirror_x minus axis v) (mirror_y minus axis v)) ≡ cond t (mirror_x minus' axis (f v)) (mirror_y minus' axis (f v))
    go X true = h
    go X false = refl
    go Y true = refl
    go Y false = h

-- ---- controls: their coordinates, and the rows that look at them

module _ (axis : Axis) where
  -- a number in the mirror is as far from zero
  pub across-beyond : (q n : ℕ) (z : ℤ) → beyond n (across neg_ℤ axis q z) ≡ beyond n z
  across-beyond q n z = ap (ltb n) (across-cases neg_ℤ axis (λ g. nat_abs (g z) ≡ nat_abs z) refl (nat_abs-neg z) q)

  -- number i of a list, where q is on the same axis
  pub mirror-at : (l : List ℤ) (i q : ℕ) → i % 2 ≡ q % 2 → get_or (mirror axis l) i (pos 0) ≡ across neg_ℤ axis q (get_or l i (pos 0))
  mirror-at l i q same = get_or-mirrored neg_ℤ axis (pos 0) refl l i ∙ across-same neg_ℤ axis i q same (get_or l i (pos 0))

  module _ (controls : List ℤ) where
    pub coordinate-mirror : (q r : ℕ) → coordinate (mirror axis controls) (q % 2) r ≡ across neg_ℤ axis q (coordinate controls (q % 2) r)
    unfolding coordinate
    coordinate-mirror q r = mirror-at controls (2 * r + q % 2) q (omega arith)

    outside-mirror : (r : ℕ) → outside (mirror axis controls) r ≡ outside controls r
    unfolding outside
    outside-mirror r = rw (coordinate-mirror 0 r, coordinate-mirror 1 r, across-beyond 0 limit, across-beyond 1 limit)

    pub control_rows-mirror : (most n : ℕ) → control_rows most n (mirror axis controls) ≡ control_rows most n controls
    control_rows-mirror most n =
        let found : first_outside (mirror axis controls) n ≡ first_outside controls n = ap (λ test. seek test 0 n) (λ i r. outside-mirror r i) in
        rw (length-mirrored, found)

-- ---- a table's answer in the mirror: the first row that holds says it, or else what is accepted does

pub judge-mirror :
    {A B : Type 0} (mirror : A → B) (rows : List Row) (f : Refusal → A) (a : A) (b : B)
    → (NoRow rows → b ≡ mirror a)
    → judge rows (λ r. mirror (f r)) b ≡ mirror (judge rows f a)
judge-mirror mirror rows f a b same =
    ⊎_elim (λ (v : (r : Refusal) × First rows r). judge-first rows (λ r. mirror (f r)) b v.0 v.1 ∙ ap mirror (sym (judge-first rows f a v.0 v.1)))
    (λ none. judge-none rows (λ r. mirror (f r)) b none ∙ same none ∙ ap mirror (sym (judge-none rows f a none)))
    (verdict rows)
