-- Records written to a list, one after another: each stands where it was written, and those below it stay. By induction on the records that are left to write.
use mathlib.Core.Path.{◌≡◌, refl, sym, ap, ◌∙◌, subst}
use mathlib.Core.List.{List, [], ◌∷◌}
use mathlib.Core.Logic.{⊎_elim}
use Prim.Native.Nat.{ℕ, zero, suc, ◌+◌, ◌*◌, ◌-◌, ◌≤◌, ◌<◌}
use native.Mathlib.Omega.{arith}
use borrow.Author.Tests.{ltb-true, ltb-false}
use lib.Dec.{ltb}
use lib.IntN.{ℤ, pos}
use lib.ListN.{length, get_or, set, length-set}
use lib.Seq.{sets, get_or-set_same, get_or-set_other}
use Rattle.curve.specs.Span.{coordinate}
use Rattle.shape.proofs.Tests.{passes}
use Rattle.drawing.specs.declared.Control.{Control}
use Rattle.drawing.specs.Drawing.{last_of, flat}
use Rattle.drawing.specs.Sequences.{record_at, Inside}

-- ---- one record

-- record n of a list set to c
abbrev pub put : List ℤ → ℕ → Control → List ℤ
put l n c = set (set l (2 * n) c.x) (suc (2 * n)) c.y

length-put : (l : List ℤ) (n : ℕ) (c : Control) → length (put l n c) ≡ length l
length-put l n c = simp length-set

put-here : (l : List ℤ) (n : ℕ) (c : Control) → 2 * (n + 1) ≤ length l → record_at (put l n c) n ≡ c
unfolding record_at coordinate
put-here l n c h =
    let even : 2 * n + 0 ≡ 2 * n = omega arith in
    let odd : 2 * n + 1 ≡ suc (2 * n) = omega arith in
    let is_x = ap (λ (i : ℕ). get_or (put l n c) i (pos 0)) even
    ∙ get_or-set_other (set l (2 * n) c.x) (suc (2 * n)) (2 * n) c.y (pos 0) (λ e. omega arith)
    ∙ get_or-set_same l (2 * n) c.x (pos 0) (omega arith) in
    let long : suc (2 * n) < length (set l (2 * n) c.x) = simp length-set (omega arith) in
    let is_y = ap (λ (i : ℕ). get_or (put l n c) i (pos 0)) odd ∙ get_or-set_same (set l (2 * n) c.x) (suc (2 * n)) c.y (pos 0) long in
    (λ k. record { x = is_x k; y = is_y k })

put-below : (l : List ℤ) (n : ℕ) (c : Control) (r : ℕ) → r < n → record_at (put l n c) r ≡ record_at l r
unfolding record_at coordinate
put-below l n c r h =
    let stays : (i : ℕ) → i < 2 * n → get_or (put l n c) i (pos 0) ≡ get_or l i (pos 0) =
    λ i b. get_or-set_other (set l (2 * n) c.x) (suc (2 * n)) i c.y (pos 0) (λ e. omega arith) ∙ get_or-set_other l (2 * n) i c.x (pos 0) (λ e. omega arith) in
    let is_x = stays (2 * r + 0) (omega arith) in
    let is_y = stays (2 * r + 1) (omega arith) in
    (λ k. record { x = is_x k; y = is_y k })

-- ---- some records, from record n on

-- the next one, and the rest from the record after it
next-record : (l : List ℤ) (n : ℕ) (c : Control) (cs : List Control) → sets l (2 * n) (flat (c ∷ cs)) ≡ sets (put l n c) (2 * (n + 1)) (flat cs)
next-record l n c cs = let next : 2 * (n + 1) ≡ suc (suc (2 * n)) = omega arith in ap (λ (m : ℕ). sets (put l n c) m (flat cs)) (sym next)

pub sets_below : (cs : List Control) (l : List ℤ) (n r : ℕ) → r < n → record_at (sets l (2 * n) (flat cs)) r ≡ record_at l r
sets_below [] l n r h = refl
sets_below (c ∷ cs) l n r h = ap (λ m. record_at m r) (next-record l n c cs) ∙ sets_below cs (put l n c) (n + 1) r (omega arith) ∙ put-below l n c r h

pub sets-at : (cs : List Control) (l : List ℤ) (n : ℕ) → 2 * (n + length cs) ≤ length l → (i : ℕ) (d : Control) → i < length cs → record_at (sets l (2 * n) (flat cs)) (n + i) ≡ get_or cs i d
sets-at [] l n h i d b = absurd (omega arith)
sets-at (c ∷ cs) l n h zero d b =
    let here : n + 0 ≡ n = omega arith in
    ap (λ m. record_at m (n + 0)) (next-record l n c cs)
    ∙ ap (λ (r : ℕ). record_at (sets (put l n c) (2 * (n + 1)) (flat cs)) r) here
    ∙ sets_below cs (put l n c) (n + 1) n (omega arith)
    ∙ put-here l n c (omega arith)
sets-at (c ∷ cs) l n h (suc i) d b =
    let on : n + suc i ≡ n + 1 + i = omega arith in
    ap (λ m. record_at m (n + suc i)) (next-record l n c cs)
    ∙ ap (λ (r : ℕ). record_at (sets (put l n c) (2 * (n + 1)) (flat cs)) r) on
    ∙ sets-at cs (put l n c) (n + 1) (omega (arith, length-put l n c)) i d (omega arith)

-- ---- a list that holds the records of a drawing

pub record Kept (l : List ℤ) (n : ℕ) (start current : Control) : Type 0 where
  pub some : 0 < n
  pub room : 2 * n ≤ length l
  pub first : record_at l 0 ≡ start
  pub last : record_at l (n - 1) ≡ current
  pub inside : (r : ℕ) → r < n → Inside (record_at l r)

-- the first record
pub opened : (l : List ℤ) (c : Control) → 2 ≤ length l → Inside c → Kept (put l 0 c) 1 c c
opened l c h i =
    let e = put-here l 0 c h in
    let only : (r : ℕ) → r < 1 → 0 ≡ r = λ r b. omega arith in
    record {
      some = omega arith;
      room = omega (arith, length-put l 0 c);
      first = e;
      last = e;
      inside = λ r b. subst (λ (m : ℕ). Inside (record_at (put l 0 c) m)) (only r b) (subst Inside (sym e) i);
    }

-- one more
more : (l : List ℤ) (n : ℕ) (s p c : Control) → Kept l n s p → 2 * (n + 1) ≤ length l → Inside c → Kept (put l n c) (n + 1) s c
more l n s p c k h i =
    let e = put-here l n c h in
    let one : n ≡ n + 1 - 1 = omega arith in
    let in-it : (r : ℕ) → r < n + 1 → Inside (record_at (put l n c) r) =
    λ r b.
    ⊎_elim (λ t. let below = ltb-true r n t in subst Inside (sym (put-below l n c r below)) (k.inside r below))
    (λ f. let at : n ≡ r = omega (arith, ltb-false r n f) in subst (λ (m : ℕ). Inside (record_at (put l n c) m)) at (subst Inside (sym e) i))
    (passes (ltb r n)) in
    record {
      some = omega arith;
      room = omega (arith, length-put l n c);
      first = put-below l n c 0 k.some ∙ k.first;
      last = subst (λ (m : ℕ). record_at (put l n c) m ≡ c) one e;
      inside = in-it;
    }

-- each of some records is inside the limits
abbrev pub AllInside : List Control → Type 0
AllInside [] = Unit {0}
AllInside (c ∷ cs) = Inside c × AllInside cs

-- as many more
pub all_more : (cs : List Control) (l : List ℤ) (n : ℕ) (s p : Control) → Kept l n s p → 2 * (n + length cs) ≤ length l → AllInside cs → Kept (sets l (2 * n) (flat cs)) (n + length cs) s (last_of p cs)
all_more [] l n s p k h i = let same : n ≡ n + 0 = omega arith in subst (λ (m : ℕ). Kept l m s p) same k
all_more (c ∷ cs) l n s p k h i =
    let count : n + 1 + length cs ≡ n + suc (length cs) = omega arith in
    let rest = all_more cs (put l n c) (n + 1) s c (more l n s p c k (omega arith) i.0) (omega (arith, length-put l n c)) i.1 in
    subst (λ (m : ℕ). Kept (sets l (2 * n) (flat (c ∷ cs))) m s (last_of c cs)) count
    (subst (λ m. Kept m (n + 1 + length cs) s (last_of c cs)) (sym (next-record l n c cs)) rest)
