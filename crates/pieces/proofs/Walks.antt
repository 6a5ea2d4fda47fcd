-- The walk of a tree and of trees: what each kind of piece makes of it, and that it ends with the tree's cuts exactly where every piece is flat or cut and the cuts are within the caller's most.
use Rattle.std.specs.Prelude.{Err, Ok, Result}
use mathlib.Core.Path.{◌≡◌, refl, sym, ap, ◌∙◌, subst}
use mathlib.Core.Bool.{cond}
use mathlib.Core.Logic.{⊎_elim}
use Prim.Native.Nat.{ℕ, zero, suc, ◌+◌, ◌≤◌, ◌<◌}
use native.Mathlib.Omega.{arith}
use borrow.Author.Tests.{le-leb, lt-leb}
use Rattle.curve.specs.Tab.{tab}
use Rattle.shape.proofs.Tests.{either}
use Rattle.pieces.specs.declared.Piece.{Piece}
use Rattle.pieces.specs.Tree.{Tree, Flat, Rough, Cut, cuts, all_cuts, Sound}
use Rattle.pieces.specs.Walk.{and_then, walk, walk_all}
use Rattle.pieces.specs.declared.Uncut.{Uncut}
use Rattle.pieces.specs.declared.Uncut.TheVariants.{TooDeep, TooMany}

-- ---- what the code does at a piece

module _ (most made : ℕ) where
  pub walk-flat : (p : Piece) (t : Tree) → t ≡ Flat p → Ok made ≡ walk most made t
  unfolding walk
  walk-flat p t e = sym (ap (walk most made) e)

  pub walk-rough : (p : Piece) (t : Tree) → t ≡ Rough p → Err TooDeep ≡ walk most made t
  unfolding walk
  walk-rough p t e = sym (ap (walk most made) e)

  pub walk-too-many : (l r t : Tree) → t ≡ Cut l r → most ≤ made → Err TooMany ≡ walk most made t
  unfolding walk
  walk-too-many l r t e h = sym (ap (walk most made) e ∙ ap (λ b. cond b (Err TooMany) (and_then (walk most (made + 1) l) (λ n. walk most n r))) (le-leb most made h))

  pub walk-cut : (l r t : Tree) → t ≡ Cut l r → made < most → walk most made t ≡ and_then (walk most (made + 1) l) (λ n. walk most n r)
  unfolding walk
  walk-cut l r t e h = ap (walk most made) e ∙ ap (λ b. cond b (Err TooMany) (and_then (walk most (made + 1) l) (λ n. walk most n r))) (lt-leb most made h)

-- ---- what the walk comes to

-- It counted n cuts: every piece is flat or cut, n is the tree's cuts more than were made before, and no more than the caller's most, if the cuts before were not.
pub record Counted (most made : ℕ) (sound : Type 0) (made-here n : ℕ) : Type 0 where
  pub all_sound : sound
  pub count : n ≡ made + made-here
  pub within : made ≤ most → n ≤ most

same-cuts : (m n : ℕ) → ◌≡◌ {A = Result ℕ Uncut} (Ok m) (Ok n) → m ≡ n
same-cuts m n e = cc

not-ended : (why : Uncut) (n : ℕ) → ◌≡◌ {A = Result ℕ Uncut} (Err why) (Ok n) → ⊥
not-ended why n e = let z : ◌≡◌ {A = ℕ} 0 1 = cc in omega arith

-- a walk in two parts counted n cuts: the first part counted some, and the second went on from there
in_parts : (w : Result ℕ Uncut) (next : ℕ → Result ℕ Uncut) (n : ℕ) → and_then w next ≡ Ok n → (m : ℕ) × (w ≡ Ok m) × (next m ≡ Ok n)
in_parts (Ok m) next n e = (m, refl, e)
in_parts (Err why) next n e = absurd (not-ended why n e)

pub walk-counted : (most made n : ℕ) (t : Tree) → walk most made t ≡ Ok n → Counted most made (Sound t) (cuts t) n
unfolding walk cuts Sound
walk-counted most made n (Flat p) e = record { all_sound = tt; count = omega (arith, same-cuts made n e); within = λ h. omega (arith, same-cuts made n e) }
walk-counted most made n (Rough p) e = absurd (not-ended TooDeep n e)
walk-counted most made n (Cut l r) e =
    ⊎_elim (λ (h : made < most).
    let (m, first, second) = in_parts (walk most (made + 1) l) (λ k. walk most k r) n (sym (walk-cut most made l r (Cut l r) refl h) ∙ e) in
    let a = walk-counted most (made + 1) m l first in
    let b = walk-counted most m n r second in
    record { all_sound = (a.all_sound, b.all_sound); count = omega (arith, a.count, b.count); within = λ k. b.within (a.within (omega arith)) })
    (λ (h : most ≤ made). absurd (not-ended TooMany n (walk-too-many most made l r (Cut l r) refl h ∙ e)))
    (either made most)

-- and it does so wherever that is so
pub counted-walk : (most made : ℕ) (t : Tree) → Sound t → made + cuts t ≤ most → walk most made t ≡ Ok (made + cuts t)
unfolding walk cuts Sound
counted-walk most made (Flat p) sound h = ap Ok (omega arith)
counted-walk most made (Rough p) sound h = absurd sound
counted-walk most made (Cut l r) sound h =
    let first = counted-walk most (made + 1) l sound.0 (omega arith) in
    let second = counted-walk most (made + 1 + cuts l) r sound.1 (omega arith) in
    walk-cut most made l r (Cut l r) refl (omega arith) ∙ ap (λ w. and_then w (λ n. walk most n r)) first ∙ second ∙ ap Ok (omega arith)

-- ---- tree after tree

module _ (f : ℕ → Tree) (most : ℕ) where
  pub walk-all-counted : (made n i m : ℕ) → walk_all most made (tab f i m) ≡ Ok n → Counted most made ((s : ℕ) → i ≤ s → s < i + m → Sound (f s)) (all_cuts (tab f i m)) n
  unfolding walk_all all_cuts tab
  walk-all-counted made n i zero e = record { all_sound = λ s low high. absurd (omega arith); count = omega (arith, same-cuts made n e); within = λ h. omega (arith, same-cuts made n e) }
  walk-all-counted made n i (suc m) e =
      let (k, first, second) = in_parts (walk most made (f i)) (λ j. walk_all most j (tab f (suc i) m)) n e in
      let a = walk-counted most made k (f i) first in
      let b = walk-all-counted k n (suc i) m second in
      record {
        all_sound = λ s low high.
            ⊎_elim (λ (past : i < s). b.all_sound s (omega arith) (omega arith)) (λ (here : s ≤ i). let e : i ≡ s = omega arith in subst (λ (j : ℕ). Sound (f j)) e a.all_sound)
            (either i s);
        count = omega (arith, a.count, b.count);
        within = λ h. b.within (a.within h);
      }

  pub counted-walk-all : (made i m : ℕ) → ((s : ℕ) → i ≤ s → s < i + m → Sound (f s)) → made + all_cuts (tab f i m) ≤ most → walk_all most made (tab f i m) ≡ Ok (made + all_cuts (tab f i m))
  unfolding walk_all all_cuts tab
  counted-walk-all made i zero sound h = ap Ok (omega arith)
  counted-walk-all made i (suc m) sound h =
      let first = counted-walk most made (f i) (sound i (omega arith) (omega arith)) (omega arith) in
      let second = counted-walk-all (made + cuts (f i)) (suc i) m (λ s low high. sound s (omega arith) (omega arith)) (omega arith) in
      ap (λ w. and_then w (λ n. walk_all most n (tab f (suc i) m))) first ∙ second ∙ ap Ok (omega arith)
