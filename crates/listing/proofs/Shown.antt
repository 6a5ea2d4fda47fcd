-- For a caller that goes on with the text: where the answer is `Some e`, the list's first e bytes are what stood before the place and then the text, since a text that was written and one that did not fit differ.
use Prim.Native.Nat.{ℕ, ◌+◌, ◌*◌, ◌≤◌}
use mathlib.Core.Bool.{Bool, true, false}
use mathlib.Core.List.{List, ◌++◌}
use mathlib.Core.Path.{◌≡◌, refl, ap, ◌∙◌}
use native.Mathlib.Omega.{arith}
use borrow.Author.Tests.{leb-true}
use lib.Dec.{leb}
use lib.IntN.{ℤ}
use lib.ListN.{length, take, drop, length-append}
use lib.Seq.{length-take-le, take_at}
use Rattle.whole.specs.Outcome.{outcome}
use Rattle.std.specs.Prelude.{Some, None}
use Rattle.listing.specs.Listing.{listed_by}
use Rattle.listing.specs.Written.{written}

pub record Shown (l : List ℕ) (at : ℕ) (text : List ℕ) (e : ℕ) (m : List ℕ) : Type 0 where
  pub within : e ≤ length m
  pub front : take e m ≡ take at l ++ text

fits : (l : List ℕ) (at : ℕ) (text : List ℕ) (e : ℕ) (m : List ℕ) → at + length text ≤ length l → outcome (Some e) m ≡ outcome (Some (at + length text)) (take at l ++ text ++ drop (at + length text) l) → Shown l at text e m
fits l at text e m room p =
    let answer-is : Some e ≡ Some (at + length text) = λ i. (p i).answer in
    let e-is : e ≡ at + length text = cc in
    let m-is : m ≡ take at l ++ text ++ drop (at + length text) l = λ i. (p i).held in
    let long : length (take at l ++ text) ≡ at + length text = omega (arith, length-append (take at l) text, length-take-le at l (omega arith)) in
    record {
      within = omega (arith, ap length m-is, length-append (take at l ++ text) (drop (at + length text) l));
      front = (λ i. take (e-is i) (m-is i)) ∙ take_at (take at l ++ text) (drop (at + length text) l) (at + length text) long;
    }

full : {X : Type 0} (e : ℕ) (m l : List ℕ) → outcome (Some e) m ≡ outcome None l → X
full e m l p =
    let q : Some e ≡ None = λ i. (p i).answer in
    let z : ◌≡◌ {A = ℕ} 0 1 = cc in
    absurd (omega arith)

pub shown : (l : List ℕ) (at : ℕ) (text : List ℕ) (e : ℕ) (m : List ℕ) → outcome (Some e) m ≡ written l at text → Shown l at text e m
unfolding written
shown l at text e m = go (leb (at + length text) (length l)) refl
  where
    go : (b : Bool) → leb (at + length text) (length l) ≡ b → outcome (Some e) m ≡ written l at text → Shown l at text e m
    go true h p = fits l at text e m (leb-true (at + length text) (length l) h) (rw h at p)
    go false h p = full e m l (rw h at p)

-- the listing of points: the first e bytes are its text
pub listing-shown : (text : List ℤ → List ℕ) (l : List ℕ) (points : List ℤ) (count e : ℕ) (m : List ℕ) → outcome (Some e) m ≡ listed_by text l points count → (e ≤ length m) × (take e m ≡ text (take (2 * count) points))
unfolding listed_by
listing-shown text l points count e m = go (leb (2 * count) (length points)) refl
  where
    go : (b : Bool) → leb (2 * count) (length points) ≡ b → outcome (Some e) m ≡ listed_by text l points count → (e ≤ length m) × (take e m ≡ text (take (2 * count) points))
    go true h p =
        let s = shown l 0 (text (take (2 * count) points)) e m (rw h at p) in
        (s.within, s.front)
    go false h p = full e m l (rw h at p)
