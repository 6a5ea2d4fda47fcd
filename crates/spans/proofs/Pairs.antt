-- The sums of a span, taken a pair at a time: what a loop still has to round, rounded to what it holds, makes the whole, and a turn takes the next pair off.
use mathlib.Core.Path.{◌≡◌, refl, sym, ap, ◌∙◌}
use mathlib.Core.List.{List, [], ◌∷◌}
use Prim.Native.Nat.{ℕ, suc, ◌+◌, ◌*◌, ◌-◌, ◌/◌, ◌%◌, ◌^◌, ◌≤◌, ◌<◌}
use native.Mathlib.Omega.{arith}
use lib.IntN.{ℤ, pos}
use lib.ListN.{length}
use Rattle.whole.specs.Outcome.{Outcome, outcome}
use Rattle.curve.specs.declared.Four.{Four}
use Rattle.curve.specs.Tab.{tab}
use Rattle.curve.specs.Span.{weighted}
use Rattle.spans.specs.Numbers.{per_span}
use Rattle.spans.specs.Inner.{paired, rounds}
use Rattle.spans.proofs.Rounds.{onward, rounds-append, rounds-none, rounds-most}

-- before the first step all pairs are still to come
pair-none : (f : ℕ → ℤ) (d q n : ℕ) (l : List ℤ) (i m : ℕ) → i ≡ 0 → rounds d (tab f (2 * i) (2 * (m - i))) q n l ≡ rounds d (tab f 0 (2 * m)) q n l
pair-none f d q n l i m e = let all : 2 * (m - 0) ≡ 2 * m = omega arith in ap (λ (k : ℕ). rounds d (tab f (2 * k) (2 * (m - k))) q n l) e ∙ ap (λ (k : ℕ). rounds d (tab f 0 k) q n l) all

-- the next pair
tab-pair : {A : Type 0} (f : ℕ → A) (i n : ℕ) → tab f i (suc (suc n)) ≡ f i ∷ f (suc i) ∷ tab f (suc (suc i)) n
unfolding tab
tab-pair f i n = refl

next-pair : (f : ℕ → ℤ) (i m : ℕ) → i < m → f (2 * i) ∷ f (2 * i + 1) ∷ tab f (2 * (i + 1)) (2 * (m - (i + 1))) ≡ tab f (2 * i) (2 * (m - i))
next-pair f i m h =
    let left : 2 * (m - i) ≡ suc (suc (2 * (m - (i + 1)))) = omega arith in
    let next : suc (suc (2 * i)) ≡ 2 * (i + 1) = omega arith in
    let odd : suc (2 * i) ≡ 2 * i + 1 = omega arith in
    let r = 2 * (m - (i + 1)) in
    sym
    (ap (tab f (2 * i)) left
    ∙ tab-pair f (2 * i) r
    ∙ ap (λ (k : ℕ). f (2 * i) ∷ f k ∷ tab f (suc (suc (2 * i))) r) odd
    ∙ ap (λ (k : ℕ). f (2 * i) ∷ f (2 * i + 1) ∷ tab f k r) next)

-- a turn that rounds it, and then the rest
pair_step : (f : ℕ → ℤ) (d q n : ℕ) (l : List ℤ) (i m : ℕ) → i < m → (o : Outcome ℕ (List ℤ)) → o ≡ rounds d (f (2 * i) ∷ f (2 * i + 1) ∷ []) q n l
    → onward d (tab f (2 * (i + 1)) (2 * (m - (i + 1)))) (q + 2) o ≡ rounds d (tab f (2 * i) (2 * (m - i))) q n l
pair_step f d q n l i m h o e =
    let pair = f (2 * i) ∷ f (2 * i + 1) ∷ [] in
    let rest = tab f (2 * (i + 1)) (2 * (m - (i + 1))) in
    ap (onward d rest (q + 2)) e ∙ rounds-append d pair rest q n l ∙ ap (λ sums. rounds d sums q n l) (next-pair f i m h)

-- nothing is left
pair-done : (f : ℕ → ℤ) (d q n : ℕ) (l : List ℤ) (i m : ℕ) → m ≤ i → rounds d (tab f (2 * i) (2 * (m - i))) q n l ≡ outcome n l
unfolding tab
pair-done f d q n l i m h = let e : 2 * (m - i) ≡ 0 = omega arith in ap (λ (k : ℕ). rounds d (tab f (2 * i) k) q n l) e ∙ rounds-none d q n l

-- the sums of a step
pub paired-x : (left : ℕ) (x y : Four) (i : ℕ) → paired left x y (2 * i) ≡ weighted x (pos i) (pos (2 ^ left))
unfolding paired
paired-x left x y i =
    let e : 2 * i % 2 ≡ 0 = omega arith in
    let f : 2 * i / 2 ≡ i = omega arith in
    rw (e, f)

pub paired-y : (left : ℕ) (x y : Four) (i : ℕ) → paired left x y (2 * i + 1) ≡ weighted y (pos i) (pos (2 ^ left))
unfolding paired
paired-y left x y i =
    let e : (2 * i + 1) % 2 ≡ 1 = omega arith in
    let f : (2 * i + 1) / 2 ≡ i = omega arith in
    rw (e, f)

-- ---- a loop over the steps of a span

-- After i steps n numbers are exact, and the pairs still to come, rounded to what is held, make the whole.
pub record Filling (k d at : ℕ) (x y : Four) (start : List ℤ) (i n : ℕ) (held : List ℤ) : Type 0 where
  pub few : n ≤ 2 * i
  pub long : length held ≡ length start
  pub rest : rounds d (tab (paired k x y) (2 * i) (2 * (2 ^ k - i))) (at + 2 * i) n held ≡ rounds d (tab (paired k x y) 0 (per_span k)) at 0 start

pub filling-none : (k d at : ℕ) (x y : Four) (l : List ℤ) → Filling k d at x y l 0 0 l
filling-none k d at x y l =
    let f = paired k x y in
    let here : at + 2 * 0 ≡ at = omega arith in
    record {
      few = omega arith;
      long = refl;
      rest = ap (λ (q : ℕ). rounds d (tab f (2 * 0) (2 * (2 ^ k - 0))) q 0 l) here ∙ pair-none f d at 0 l 0 (2 ^ k) refl;
    }

-- a step rounds the two sums of its pair
pub filling-step : (k d at : ℕ) (x y : Four) (start : List ℤ) (i n : ℕ) (held : List ℤ) → Filling k d at x y start i n held → i < 2 ^ k
    → (u v : ℤ) → u ≡ weighted x (pos i) (pos (2 ^ k)) → v ≡ weighted y (pos i) (pos (2 ^ k))
    → (m : ℕ) (new : List ℤ) → length new ≡ length held → outcome m new ≡ rounds d (u ∷ v ∷ []) (at + 2 * i) n held
    → Filling k d at x y start (i + 1) m new
filling-step k d at x y start i n held so_far below u v is-u is-v m new same done =
    let f = paired k x y in
    let on : at + 2 * (i + 1) ≡ at + 2 * i + 2 = omega arith in
    let pair = done ∙ (λ j. rounds d ((is-u ∙ sym (paired-x k x y i)) j ∷ (is-v ∙ sym (paired-y k x y i)) j ∷ []) (at + 2 * i) n held) in
    record {
      few = omega (arith, so_far.few, rounds-most d (u ∷ v ∷ []) (at + 2 * i) n held (outcome m new) done);
      long = same ∙ so_far.long;
      rest = ap (λ (q : ℕ). rounds d (tab f (2 * (i + 1)) (2 * (2 ^ k - (i + 1)))) q m new) on
          ∙ pair_step f d (at + 2 * i) n held i (2 ^ k) below (outcome m new) pair
          ∙ so_far.rest;
    }

pub filling-done : (k d at : ℕ) (x y : Four) (start : List ℤ) (i n : ℕ) (held : List ℤ) → Filling k d at x y start i n held → 2 ^ k ≤ i
    → outcome n held ≡ rounds d (tab (paired k x y) 0 (per_span k)) at 0 start
filling-done k d at x y start i n held so_far past = sym (pair-done (paired k x y) d (at + 2 * i) n held i (2 ^ k) past) ∙ so_far.rest
