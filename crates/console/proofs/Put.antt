-- What putting a word behind a text's end does to its characters, by whether the word fits.
use Prim.Native.Nat.{ℕ, ◌+◌, ◌≤◌}
use mathlib.Core.Bool.{Bool, true, false}
use mathlib.Core.List.{List, ◌++◌}
use mathlib.Core.Path.{◌≡◌, refl, sym, ap, ◌∙◌}
use native.Mathlib.Omega.{arith}
use borrow.Author.Tests.{leb-true, leb-false}
use lib.Dec.{leb}
use lib.ListN.{length, take, drop, length-append}
use lib.Seq.{length-take-le, take_at}
use Rattle.std.specs.Prelude.{Option, None, unwrap_or}
use Rattle.whole.specs.Outcome.{Outcome, outcome}
use Rattle.listing.specs.Written.{written}
use Rattle.listing.proofs.Fitting.{fits, stays}
use Rattle.console.specs.Text.{with_word}

-- the list m and the new end, after a word was put into l from the old end on
pub record Put (l m : List ℕ) (room before : ℕ) (word : List ℕ) (end : ℕ) : Type 0 where
  pub within : end ≤ room
  pub text : take end m ≡ with_word room (take before l) word

pub put : (l m : List ℕ) (room at : ℕ) (word : List ℕ) (r : Option ℕ) → length l ≡ room → at ≤ room → outcome r m ≡ written l at word → Put l m room at word (unwrap_or r at)
put l m room at word r long within is = go (leb (length (take at l) + length word) room) refl
  where
    here : length (take at l) ≡ at
    here = length-take-le at l (omega (arith, long))

    go : (b : Bool) → leb (length (take at l) + length word) room ≡ b → Put l m room at word (unwrap_or r at)
    go true h =
        let enough = leb-true (length (take at l) + length word) room h in
        let f = fits l at word (omega (arith, here, long, enough)) is in
        let end : unwrap_or r at ≡ at + length word = ap (λ (o : Option ℕ). unwrap_or o at) f.end in
        record {
          within = omega (arith, end, here, enough);
          text =
              (λ i. take (end i) (f.held i))
              ∙ take_at (take at l ++ word) (drop (at + length word) l) (at + length word) (omega (arith, length-append (take at l) word, here))
              ∙ sym (rw h refl);
        }
    go false h =
        let short = leb-false (length (take at l) + length word) room h in
        let same : outcome r m ≡ outcome None l = is ∙ sym (stays l at word (omega (arith, here, long, short))) in
        let end : unwrap_or r at ≡ at = ap (λ (o : Outcome (Option ℕ) (List ℕ)). unwrap_or o.answer at) same in
        record {
          within = omega (arith, end);
          text = (λ i. take (end i) (same i).held) ∙ sym (rw h refl);
        }
