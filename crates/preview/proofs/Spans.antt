-- Spans written one after the other: what is left to write, written to the present list, is the whole; so a loop's step takes the next span off.
use mathlib.Core.Path.{◌≡◌, sym, ap, ◌∙◌}
use mathlib.Core.List.{List, ◌++◌, append_assoc}
use Prim.Native.Nat.{ℕ, suc, ◌+◌, ◌*◌, ◌-◌, ◌%◌, ◌^◌, ◌≤◌, ◌<◌}
use native.Mathlib.Nat.{mod-eq_of_lt, mul-le-mul_right, add-mul, one-mul}
use native.Mathlib.Omega.{arith}
use lib.IntN.{ℤ}
use lib.Ieee.{Float}
use borrow.Rule.Slice.PartMut.{put_mid}
use lib.ListN.{length, take, drop}
use lib.Pow.{pow-lt}
use lib.Seq.{sets, sets-eq, drop-drop}
use Rattle.curve.specs.declared.Basis.TheVariants.{Bezier}
use Rattle.curve.specs.Span.{first_record}
use Rattle.shape.specs.Shape.{points_of}
use Rattle.preview.specs.Halving.{two, control, span_pieces, halved}
use Rattle.whole.proofs.Writes.{sets-append}
use Rattle.curve.proofs.Powers.{doubled}
use Rattle.curve.proofs.Stride.{next-first, later_first}
use Rattle.preview.proofs.Pieces.{length-pieces}

-- 2 shifted left by the depth, at our depths
pub shift_two : (k : ℕ) → k < 63 → 2 * 2 ^ k % 2 ^ 64 ≡ 2 * 2 ^ k
shift_two k h = ap (λ (n : ℕ). n % 2 ^ 64) (doubled k) ∙ mod-eq_of_lt (pow-lt (below h)) ∙ sym (doubled k)
  where
    below : k < 63 → suc k < 64
    below h = omega arith

pub points-are : (k m : ℕ) → points_of k m ≡ m * 2 ^ k + 1
unfolding points_of
points-are k m = omega arith

-- a span's last record is the next one's first
pub spans-meet : (s : ℕ) → first_record Bezier s + 3 ≡ first_record Bezier (suc s)
spans-meet s = sym (next-first Bezier s)

pub records-before : (s m : ℕ) → s < m → first_record Bezier s + 3 ≤ first_record Bezier m
records-before s m h = later_first Bezier s m h

-- where the next span starts
pub next_start : (s k : ℕ) → (s + 1) * 2 ^ k ≡ s * 2 ^ k + 2 ^ k
next_start s k = omega (arith, add-mul s 1 (2 ^ k), one-mul (2 ^ k))

pub starts-inside : (s m k : ℕ) → s < m → s * 2 ^ k + 2 ^ k ≤ m * 2 ^ k
starts-inside s m k h =
    let more : s + 1 ≤ m = omega arith in
    omega (arith, next_start s k, mul-le-mul_right (2 ^ k) more)

pub length-span : (controls : List ℤ) (k s : ℕ) → length (span_pieces controls k s) ≡ 2 * 2 ^ k
unfolding span_pieces
length-span controls k s =
    let r = first_record Bezier s in
    length-pieces k (record { a = control controls r; b = control controls (r + 1); c = control controls (r + 2); d = control controls (r + 3) })

-- a part of the list, written, is that many numbers of it written
pub part-written : (l vs : List Float) (at n to : ℕ) → at ≡ to → n ≡ length vs → to + n ≤ length l → put_mid at n l vs ≡ sets l to vs
part-written l vs at n to is many room =
    ap (λ (i : ℕ). put_mid i n l vs) is
    ∙ (λ t. take to l ++ (vs ++ (drop-drop n to l ∙ ap (λ (i : ℕ). drop (to + i) l) many) t))
    ∙ sym (append_assoc (take to l) vs (drop (to + length vs) l))
    ∙ sym (sets-eq vs l to (omega arith))

module _ (controls : List ℤ) (k : ℕ) (l : List Float) (at s n : ℕ) where
  pub span-step : s < n → sets (sets l at (span_pieces controls k s)) (at + 2 * 2 ^ k) (halved controls k (s + 1) (n - (s + 1))) ≡ sets l at (halved controls k s (n - s))
  unfolding halved
  span-step h =
      let left : suc (n - (s + 1)) ≡ n - s = omega arith in
      let next : s + 1 ≡ suc s = omega arith in
      let rest = halved controls k (suc s) (n - (s + 1)) in
      ap (λ (i : ℕ). sets (sets l at (span_pieces controls k s)) (at + 2 * 2 ^ k) (halved controls k i (n - (s + 1)))) next
      ∙ ap (λ (i : ℕ). sets (sets l at (span_pieces controls k s)) (at + i) rest) (sym (length-span controls k s))
      ∙ sym (sets-append l at (span_pieces controls k s) rest)
      ∙ ap (λ (i : ℕ). sets l at (halved controls k s i)) left

  pub end-written : s ≡ n → sets l at (two (control controls (first_record Bezier n))) ≡ sets l at (halved controls k s (n - s))
  unfolding halved
  end-written e = let none : 0 ≡ n - s = omega arith in ap (λ (i : ℕ). sets l at (halved controls k i 0)) (sym e) ∙ ap (λ (i : ℕ). sets l at (halved controls k s i)) none
