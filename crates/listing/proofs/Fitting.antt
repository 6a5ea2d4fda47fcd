-- What writing a text comes to: where it fits it stands in the list, and where it does not all is as it was. One text and then another from where it ends are both of them at once.
use Prim.Native.Nat.{ℕ, ◌+◌, ◌≤◌, ◌<◌}
use mathlib.Core.List.{List, [], ◌++◌, append_assoc}
use mathlib.Core.Path.{◌≡◌, sym, ap, ◌∙◌}
use native.Mathlib.Nat.{add-zero}
use native.Mathlib.Omega.{arith}
use borrow.Author.Tests.{le-leb, lt-leb}
use lib.ListN.{length, take, drop, length-append, length-drop}
use lib.Seq.{length-take-le, take_at, drop_at, drop-drop}
use Rattle.std.specs.Prelude.{Option, Some, None}
use Rattle.std.proofs.lemmas.List.{append-nil, take-append-drop}
use Rattle.whole.specs.Outcome.{Outcome, outcome}
use Rattle.listing.specs.Written.{written}

-- the list with the text in it
abbrev pub laid : List ℕ → ℕ → List ℕ → List ℕ
laid l at text = take at l ++ text ++ drop (at + length text) l

pub stands : (l : List ℕ) (at : ℕ) (text : List ℕ) → at + length text ≤ length l → outcome (Some (at + length text)) (laid l at text) ≡ written l at text
unfolding written
stands l at text room = rw (le-leb (at + length text) (length l) room)

pub stays : (l : List ℕ) (at : ℕ) (text : List ℕ) → length l < at + length text → outcome None l ≡ written l at text
unfolding written
stays l at text short = rw (lt-leb (at + length text) (length l) short)

-- nothing, from a place of the list on
pub nothing : (l : List ℕ) (at : ℕ) → at ≤ length l → outcome (Some at) l ≡ written l at []
nothing l at room =
    let none : at + 0 ≡ at = add-zero at in
    let same : laid l at [] ≡ l = ap (λ (t : List ℕ). t ++ drop (at + 0) l) (append-nil (take at l)) ∙ ap (λ (n : ℕ). take at l ++ drop n l) none ∙ take-append-drop at l in
    sym (λ i. outcome (Some (none i)) (same i)) ∙ stands l at [] (omega arith)

-- what a call that wrote a text that fits has answered, and left
pub record Fits (l : List ℕ) (at : ℕ) (text : List ℕ) (r : Option ℕ) (m : List ℕ) : Type 0 where
  pub end : r ≡ Some (at + length text)
  pub held : m ≡ laid l at text
  pub long : length m ≡ length l

length-laid : (l : List ℕ) (at : ℕ) (text : List ℕ) → at + length text ≤ length l → length (laid l at text) ≡ length l
length-laid l at text room =
    omega (arith, length-append (take at l ++ text) (drop (at + length text) l), length-append (take at l) text, length-take-le at l (omega arith), length-drop (at + length text) l)

pub fits : (l : List ℕ) (at : ℕ) (text : List ℕ) {r : Option ℕ} {m : List ℕ} → at + length text ≤ length l → outcome r m ≡ written l at text → Fits l at text r m
fits l at text {r} {m} room e =
    let is : outcome r m ≡ outcome (Some (at + length text)) (laid l at text) = e ∙ sym (stands l at text room) in
    let held : m ≡ laid l at text = ap (λ (o : Outcome (Option ℕ) (List ℕ)). o.held) is in
    record { end = ap (λ (o : Outcome (Option ℕ) (List ℕ)). o.answer) is; held = held; long = ap length held ∙ length-laid l at text room }

-- a text, and another from where it ends
pub then : (l : List ℕ) (at : ℕ) (xs ys : List ℕ) {end : ℕ} {m : List ℕ} → at + length (xs ++ ys) ≤ length l → outcome (Some end) m ≡ written l at xs → written m end ys ≡ written l at (xs ++ ys)
then l at xs ys {end} {m} room e =
    let both = length-append xs ys in
    let first : at + length xs ≤ length l = omega (arith, both) in
    let f = fits l at xs first e in
    let ends : end ≡ at + length xs = let same = f.end in cc in
    let before : length (take at l ++ xs) ≡ at + length xs = omega (arith, length-append (take at l) xs, length-take-le at l (omega arith)) in
    let room : at + length xs + length ys ≤ length m = omega (arith, both, f.long) in
    let past : at + length xs + length ys ≡ at + length (xs ++ ys) = omega (arith, both) in
    let front : take (at + length xs) m ≡ take at l ++ xs = ap (take (at + length xs)) f.held ∙ take_at (take at l ++ xs) (drop (at + length xs) l) (at + length xs) before in
    let back : drop (at + length xs + length ys) m ≡ drop (at + length (xs ++ ys)) l =
    sym (drop-drop (length ys) (at + length xs) m)
    ∙ ap (drop (length ys)) (ap (drop (at + length xs)) f.held ∙ drop_at (take at l ++ xs) (drop (at + length xs) l) (at + length xs) before)
    ∙ drop-drop (length ys) (at + length xs) l
    ∙ ap (λ (n : ℕ). drop n l) past in
    let text : laid m (at + length xs) ys ≡ laid l at (xs ++ ys) =
    (λ i. front i ++ ys ++ back i)
    ∙ ap (λ (t : List ℕ). t ++ drop (at + length (xs ++ ys)) l) (append_assoc (take at l) xs ys) in
    ap (λ (n : ℕ). written m n ys) ends
    ∙ sym (stands m (at + length xs) ys room)
    ∙ (λ i. outcome (Some (past i)) (text i))
    ∙ stands l at (xs ++ ys) (omega arith)

-- a text that fits is not refused
pub never : {X : Type 0} (l : List ℕ) (at : ℕ) (text : List ℕ) {m : List ℕ} → at + length text ≤ length l → outcome None m ≡ written l at text → X
never l at text room e = let f = (fits l at text room e).end in absurd (cc)
