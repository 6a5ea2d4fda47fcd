-- A record put in its place, after the later ones were carried on, or the later ones carried back, leave the list as the edit asks for it.
use mathlib.Core.Path.{◌≡◌, sym, ap, ◌∙◌}
use mathlib.Core.Bool.{cond}
use mathlib.Core.Logic.{⊎_elim}
use mathlib.Core.List.{List}
use Prim.Native.Nat.{ℕ, ◌+◌, ◌*◌, ◌-◌, ◌/◌, ◌%◌, ◌≤◌, ◌<◌}
use native.Mathlib.Omega.{arith}
use borrow.Author.Tests.{eq-eqb, ne_eqb}
use lib.IntN.{ℤ, pos}
use lib.ListN.{get_or, length, set, length-set}
use lib.Seq.{get_or-set_same, get_or-set_other}
use Rattle.shape.proofs.Tests.{either}
use Rattle.spans.proofs.Filled.{is-filled}
use Rattle.asked.specs.declared.Edit.TheVariants.{Move, Insert, Remove}
use Rattle.asked.specs.Edits.{choose, control_at, asked}
use Rattle.asked.proofs.Copied.{Copied, told-at}
use Rattle.asked.proofs.Controls.{control-before, control-moved, control-inserted, control-beyond}

-- ---- a record put in its place

-- The list with record j put.
abbrev pub put : List ℤ → ℕ → ℤ → ℤ → List ℤ
put l j x y = set (set l (2 * j) x) (2 * j + 1) y

module _ (l : List ℤ) (j : ℕ) (x y : ℤ) where
  length-put : length (put l j x y) ≡ length l
  length-put = length-set (set l (2 * j) x) (2 * j + 1) y ∙ length-set l (2 * j) x

  put_other : (q : ℕ) → (q / 2 ≡ j → ⊥) → get_or (put l j x y) q (pos 0) ≡ get_or l q (pos 0)
  put_other q away =
      get_or-set_other (set l (2 * j) x) (2 * j + 1) q y (pos 0) (λ e. away (omega (arith, e)))
      ∙ get_or-set_other l (2 * j) q x (pos 0) (λ e. away (omega (arith, e)))

  put-here : 2 * j + 2 ≤ length l → (q : ℕ) → q / 2 ≡ j → get_or (put l j x y) q (pos 0) ≡ choose (q % 2) x y
  put-here room q here = ⊎_elim even odd (either (q % 2) 1)
    where
      even : q % 2 < 1 → get_or (put l j x y) q (pos 0) ≡ choose (q % 2) x y
      even h =
          let at : q ≡ 2 * j = omega arith in
          get_or-set_other (set l (2 * j) x) (2 * j + 1) q y (pos 0) (λ e. omega (arith, e))
          ∙ ap (λ (i : ℕ). get_or (set l (2 * j) x) i (pos 0)) at
          ∙ get_or-set_same l (2 * j) x (pos 0) (omega arith)
          ∙ sym (ap (λ t. cond t x y) (eq-eqb (q % 2) 0 (omega arith)))

      odd : 1 ≤ q % 2 → get_or (put l j x y) q (pos 0) ≡ choose (q % 2) x y
      odd h =
          let at : q ≡ 2 * j + 1 = omega arith in
          ap (λ (i : ℕ). get_or (put l j x y) i (pos 0)) at
          ∙ get_or-set_same (set l (2 * j) x) (2 * j + 1) y (pos 0) (omega (arith, length-set l (2 * j) x))
          ∙ sym (ap (λ t. cond t x y) (ne_eqb (q % 2) 0 (λ e. omega (arith, e))))

-- ---- the three edits

-- a record is before another, at it or past it
sides : {P : Type 0} (r j : ℕ) → (r < j → P) → (r ≡ j → P) → (j < r → P) → P
sides r j before here beyond = ⊎_elim before (λ h. ⊎_elim beyond (λ g. here (omega arith)) (either j r)) (either r j)

module _ (j n : ℕ) (old : List ℤ) where
  pub moved-is : (x y : ℤ) → j < n → 2 * n ≤ length old → put old j x y ≡ asked (Move x y) j old n
  unfolding asked
  moved-is x y h room =
      is-filled (control_at (Move x y) j old) (2 * n) old (put old j x y) room (length-put old j x y)
      (λ q _.
      sides (q / 2) j (λ g. put_other old j x y q (λ e. omega (arith, e)) ∙ sym (control-before j old q (Move x y) g))
      (λ g. put-here old j x y (omega arith) q g ∙ sym (control-moved j old q x y g))
      (λ g. put_other old j x y q (λ e. omega (arith, e)) ∙ sym (control-beyond j old q (Move x y) g)))
      (λ q g. put_other old j x y q (λ e. omega (arith, e)))

  pub inserted-is :
      (x y : ℤ) (later : List ℤ)
      → j ≤ n
      → 2 * n + 2 ≤ length old
      → length later ≡ length old
      → Copied old later (2 * j) (2 * j + 2) (2 * n - 2 * j)
      → put later j x y ≡ asked (Insert x y) j old (n + 1)
  unfolding asked
  inserted-is x y later h room long (copied, before, past) =
      is-filled (control_at (Insert x y) j old) (2 * (n + 1)) old (put later j x y) (omega arith) (length-put later j x y ∙ long)
      (λ q below.
      sides (q / 2) j (λ g. put_other later j x y q (λ e. omega (arith, e)) ∙ before q (pos 0) (omega arith) ∙ sym (control-before j old q (Insert x y) g))
      (λ g. put-here later j x y (omega (arith, long)) q g ∙ sym (control-inserted j old q x y g))
      (λ g. put_other later j x y q (λ e. omega (arith, e)) ∙ told-at old later (2 * j) (2 * j + 2) (2 * n - 2 * j) copied q (q - 2) (omega arith) (omega arith) (omega arith) ∙ sym (control-beyond j old q (Insert x y) g)))
      (λ q g. put_other later j x y q (λ e. omega (arith, e)) ∙ past q (pos 0) (omega arith))

  pub removed-is :
      (earlier : List ℤ)
      → j < n
      → 2 * n ≤ length old
      → length earlier ≡ length old
      → Copied old earlier (2 * j + 2) (2 * j) (2 * n - (2 * j + 2))
      → earlier ≡ asked Remove j old (n - 1)
  unfolding asked
  removed-is earlier h room long (copied, before, past) =
      is-filled (control_at Remove j old) (2 * (n - 1)) old earlier (omega arith) long
      (λ q below.
      ⊎_elim (λ (g : q / 2 < j). before q (pos 0) (omega arith) ∙ sym (control-before j old q Remove g))
      (λ (g : j ≤ q / 2). told-at old earlier (2 * j + 2) (2 * j) (2 * n - (2 * j + 2)) copied q (q + 2) (omega arith) (omega arith) (omega arith) ∙ sym (control-beyond j old q Remove g))
      (either (q / 2) j))
      (λ q g. past q (pos 0) (omega arith))
