-- Exact values rounded one after another into a list: two lists of them, one after the other, are one list; so what a recursion or a loop still has to write, after what it has written, makes the whole.
use mathlib.Core.Path.{◌≡◌, sym, ap, ◌∙◌}
use mathlib.Core.List.{List, [], ◌∷◌, ◌++◌, map, map-append}
use Prim.Native.Nat.{ℕ, ◌+◌, ◌≤◌}
use native.Mathlib.Nat.{add-zero, add_assoc}
use native.Mathlib.Omega.{arith}
use lib.IntN.{ℤ}
use lib.ListN.{length, length-map, length-append}
use lib.Seq.{sets}
use Rattle.whole.specs.Nearest.{nearest, remainder}
use Rattle.whole.specs.Outcome.{Outcome, outcome}
use Rattle.whole.proofs.Writes.{sets-append}
use Rattle.spans.specs.Numbers.{noughts}
use Rattle.spans.specs.Inner.{rounds}
use Rattle.spans.proofs.Rounds.{noughts-append, noughts-most}
use Rattle.pieces.specs.declared.Filled.{Filled}
use Rattle.pieces.specs.Values.{Value, both, numbers, exact_of}
use Rattle.pieces.specs.Inner.{writes}

-- more values, after what was written so far
abbrev pub onward : List Value → Outcome Filled (List ℤ) → Outcome Filled (List ℤ)
onward values o = writes values o.answer o.held

pub exact-append : (a b : List Value) → exact_of (a ++ b) ≡ exact_of a + exact_of b
exact-append a b = ap noughts (map-append (λ (v : Value). remainder v.sum v.divisor) a b) ∙ noughts-append _ _

pub numbers-append : (a b : List Value) → numbers (a ++ b) ≡ numbers a ++ numbers b
numbers-append a b = map-append (λ (v : Value). nearest v.sum v.divisor) a b

pub length-numbers : (values : List Value) → length (numbers values) ≡ length values
length-numbers values = length-map values (λ (v : Value). nearest v.sum v.divisor)

pub writes-append : (a b : List Value) (f : Filled) (l : List ℤ) → onward b (writes a f l) ≡ writes (a ++ b) f l
unfolding writes
writes-append a b f l =
    let next : f.next + length a + length b ≡ f.next + length (a ++ b) = add_assoc f.next (length a) (length b) ∙ ap (λ (n : ℕ). f.next + n) (sym (length-append a b)) in
    let exact : f.exact + exact_of a + exact_of b ≡ f.exact + exact_of (a ++ b) = add_assoc f.exact (exact_of a) (exact_of b) ∙ ap (λ (n : ℕ). f.exact + n) (sym (exact-append a b)) in
    let list : sets (sets l f.next (numbers a)) (f.next + length a) (numbers b) ≡ sets l f.next (numbers (a ++ b)) =
    ap (λ (n : ℕ). sets (sets l f.next (numbers a)) (f.next + n) (numbers b)) (sym (length-numbers a))
    ∙ sym (sets-append l f.next (numbers a) (numbers b))
    ∙ ap (sets l f.next) (sym (numbers-append a b)) in
    λ i. outcome (record { next = next i; exact = exact i }) (list i)

-- none written
pub writes-none : (f : Filled) (l : List ℤ) → writes [] f l ≡ outcome f l
unfolding writes noughts
writes-none f l = λ i. outcome (record { next = add-zero f.next i; exact = add-zero f.exact i }) l

-- a point's two sums over one divisor, rounded
pub writes-both : (d : ℕ) (x y : ℤ) (f : Filled) (l : List ℤ) (o : Outcome ℕ (List ℤ)) → o ≡ rounds d (x ∷ y ∷ []) f.next f.exact l
    → outcome (record { next = f.next + 2; exact = o.answer }) o.held ≡ writes (both d x y) f l
unfolding writes
writes-both d x y f l o e = λ i. outcome (record { next = f.next + 2; exact = (e i).answer }) (e i).held

-- the next place, how many are exact at the most, and the list's length
module _ (values : List Value) (f : Filled) (l : List ℤ) (o : Outcome Filled (List ℤ)) (e : o ≡ writes values f l) where
  pub writes-next : o.answer.next ≡ f.next + length values
  unfolding writes
  writes-next = ap (λ (r : Outcome Filled (List ℤ)). r.answer.next) e

  pub writes-most : f.exact ≤ f.next → o.answer.exact ≤ o.answer.next
  unfolding writes
  writes-most h =
      let rs = map (λ (v : Value). remainder v.sum v.divisor) values in
      omega (arith, writes-next, ap (λ (r : Outcome Filled (List ℤ)). r.answer.exact) e, noughts-most rs, length-map values (λ (v : Value). remainder v.sum v.divisor))
