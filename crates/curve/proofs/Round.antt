-- Counting round the end, and the two kinds of bases: open ones, whose records stand for themselves, and the loop.
use mathlib.Core.Path.{◌≡◌, refl, sym, ap, ◌∙◌, subst}
use mathlib.Core.Bool.{false, cond}
use Prim.Native.Nat.{ℕ, ◌+◌, ◌-◌, ◌≤◌, ◌<◌}
use native.Mathlib.Decide.{dec_lt}
use native.Mathlib.Nat.{one-mul}
use native.Mathlib.Omega.{arith}
use borrow.Author.Tests.{lt-ltb, le-ltb}
use lib.IntN.{ℤ}
use Rattle.curve.specs.declared.Four.{Four}
use Rattle.curve.specs.declared.Basis.{Basis}
use Rattle.curve.specs.declared.Basis.TheVariants.{Bezier, BSpline, Cardinal, Hermite, Loop}
use Rattle.curve.specs.Four.{four}
use Rattle.curve.specs.Span.{first_record, records_from, round_end, is_loop, record_at, recount, records, whole_controls, point}

-- ---- counting round

pub round-below : (n x : ℕ) → x < n → round_end n x ≡ x
unfolding round_end
round-below n x h = ap (λ t. cond t x (x - n)) (lt-ltb x n h)

pub round-past : (n x : ℕ) → n ≤ x → round_end n x ≡ x - n
unfolding round_end
round-past n x h = ap (λ t. cond t x (x - n)) (le-ltb x n h)

-- what holds of the number below the end, and of so many less past it, holds of the number counted round
pub by-round : (P : ℕ → Type 0) (n x : ℕ) → (x < n → P x) → (n ≤ x → P (x - n)) → P (round_end n x)
by-round P n x below past = go (dec_lt x n)
  where
    go : Dec (x < n) → P (round_end n x)
    go (yes h) = subst P (sym (round-below n x h)) (below h)
    go (no h) = let past_end : n ≤ x = omega arith in subst P (sym (round-past n x past_end)) (past past_end)

-- a number counted round once is below the end
pub round-within : (n x : ℕ) → x < n + n → round_end n x < n
round-within n x h = by-round (λ v. v < n) n x (λ below. below) (λ past. omega arith)

-- ---- open or a loop

pub open-or-loop : (P : Basis → Type 0) → ((b : Basis) → is_loop b ≡ false → P b) → ((n : ℕ) → P (Loop n)) → (b : Basis) → P b
open-or-loop P ends loop Bezier = ends Bezier refl
open-or-loop P ends loop BSpline = ends BSpline refl
open-or-loop P ends loop (Cardinal c) = ends (Cardinal c) refl
open-or-loop P ends loop Hermite = ends Hermite refl
open-or-loop P ends loop (Loop n) = loop n

-- the records of an open basis stand for themselves
pub record-open : (b : Basis) → is_loop b ≡ false → (r : ℕ) → record_at b r ≡ r
record-open Bezier e r = refl
record-open BSpline e r = refl
record-open (Cardinal c) e r = refl
record-open Hermite e r = refl
record-open (Loop n) e r = absurd (subst (λ t. cond t Unit ⊥) e tt)

pub records-open : (b : Basis) → is_loop b ≡ false → (s : ℕ) (at : ℕ → ℤ) → records b s at ≡ records_from (first_record b s) at
unfolding records_from
records-open b e s at =
    let same : (r : ℕ) → at (record_at b r) ≡ at r = λ r. ap at (record-open b e r) in
    let f = first_record b s in
    λ k. four (same f k) (same (f + 1) k) (same (f + 2) k) (same (f + 3) k)

-- four records that are the same one by one
pub same-records : (r u : ℕ) (f g : ℕ → ℤ) → ((i : ℕ) → i < 4 → f (r + i) ≡ g (u + i)) → records_from r f ≡ records_from u g
unfolding records_from
same-records r u f g same =
    let first : f r ≡ g u = ap f (omega arith) ∙ same 0 (omega arith) ∙ ap g (omega arith) in
    λ k. four (first k) (same 1 (omega arith) k) (same 2 (omega arith) k) (same 3 (omega arith) k)

-- counting round another number of records changes no curve
pub recount-point : (m : ℕ) (b : Basis) (k : ℕ) (q : Four) (i : ℕ) → point (recount m b) k q i ≡ point b k q i
unfolding point whole_controls
recount-point m Bezier k q i = refl
recount-point m BSpline k q i = refl
recount-point m (Cardinal c) k q i = refl
recount-point m Hermite k q i = refl
recount-point m (Loop n) k q i = refl

-- ---- a loop is closed: past its last span comes its first again

pub loop-first : (n s : ℕ) → first_record (Loop n) s ≡ s
unfolding first_record
loop-first n s = one-mul s

pub loop-closes : (n : ℕ) (at : ℕ → ℤ) → 4 ≤ n → records (Loop n) n at ≡ records (Loop n) 0 at
loop-closes n at least =
    same-records (first_record (Loop n) n) (first_record (Loop n) 0) (λ r. at (round_end n r)) (λ r. at (round_end n r))
    (λ i few.
    let past : round_end n (first_record (Loop n) n + i) ≡ i = round-past n (first_record (Loop n) n + i) (omega (arith, loop-first n n)) ∙ omega (arith, loop-first n n) in
    let here : round_end n (first_record (Loop n) 0 + i) ≡ i = round-below n (first_record (Loop n) 0 + i) (omega (arith, loop-first n 0)) ∙ omega (arith, loop-first n 0) in
    ap at (past ∙ sym here))
