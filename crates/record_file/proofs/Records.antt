-- Record by record: the rows still to be looked at are the next record's two and those of the rest.
use mathlib.Core.Path.{◌≡◌, ap, ◌∙◌}
use mathlib.Core.List.{List, [], ◌∷◌, ◌++◌}
use Prim.Native.Nat.{ℕ, suc, ◌+◌, ◌-◌, ◌≤◌, ◌<◌}
use native.Mathlib.Omega.{arith}
use lib.ListN.{length, get_or}
use Rattle.std.specs.List.{concat}
use Rattle.shape.specs.declared.Refusal.{Refusal}
use Rattle.shape.specs.Refusals.{row, judge}
use Rattle.record_file.specs.Rows.{record_rows}
use Rattle.record_file.specs.Inner.{rows_of}
use Rattle.record_file.proofs.Bytes.{zeros-joined, alike-joined}

pub next-rows : (rs : List (List ℕ)) → ((i : ℕ) → i < length rs → length (get_or rs i []) ≡ 12) → (i : ℕ) → i < length rs
    → record_rows (concat rs) i (length rs - i) ≡ rows_of (get_or rs i []) (get_or rs 0 []) i ++ record_rows (concat rs) (i + 1) (length rs - (i + 1))
unfolding record_rows
next-rows rs w i h =
    let left : length rs - i ≡ suc (length rs - (i + 1)) = omega arith in
    let next : suc i ≡ i + 1 = omega arith in
    ap (record_rows (concat rs) i) left
    ∙ (λ k. row (zeros-joined rs w i h k) 14 i ∷ row (alike-joined rs w i h k) 15 i ∷ record_rows (concat rs) (next k) (length rs - (i + 1)))

pub no_more {ℓ} : {A : Type ℓ} (file : List ℕ) (f : Refusal → A) (a : A) (i n : ℕ) → n ≤ i → judge (record_rows file i (n - i)) f a ≡ a
unfolding judge record_rows
no_more file f a i n h = let e : n - i ≡ 0 = omega arith in ap (λ (m : ℕ). judge (record_rows file i m) f a) e
