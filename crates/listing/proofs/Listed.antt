-- The reading of a whole listing, by cases: too few points, or all of its text, whose heading counts the points as the caller does.
use Prim.Native.Nat.{ℕ, ◌*◌, ◌/◌, ◌≤◌, ◌<◌}
use mathlib.Core.Bool.{Bool, true, false}
use mathlib.Core.List.{List}
use mathlib.Core.Path.{◌≡◌, refl, sym, ap, ◌∙◌}
use native.Mathlib.Omega.{arith}
use borrow.Author.Tests.{le-leb, lt-leb, leb-true, leb-false}
use lib.Dec.{leb}
use lib.IntN.{ℤ}
use lib.ListN.{length, take}
use lib.Seq.{length-take-le}
use Rattle.whole.specs.Outcome.{outcome}
use Rattle.std.specs.Prelude.{None}
use Rattle.listing.specs.Listing.{text_under, listed_by}
use Rattle.listing.specs.Written.{written}

module _ (l : List ℕ) (points : List ℤ) (count : ℕ) where
  pub too_few : (text : List ℤ → List ℕ) → length points < 2 * count → outcome None l ≡ listed_by text l points count
  unfolding listed_by
  too_few text few = rw (lt-leb (2 * count) (length points) few)

  pub in-full : (text : List ℤ → List ℕ) → 2 * count ≤ length points → written l 0 (text (take (2 * count) points)) ≡ listed_by text l points count
  unfolding listed_by
  in-full text enough = rw (le-leb (2 * count) (length points) enough)

  -- half of 2 · count numbers are the points' x
  pub counted : (numbers : ℕ → List ℕ) → listed_by (text_under (numbers count)) l points count ≡ listed_by (λ (ps : List ℤ). text_under (numbers (length ps / 2)) ps) l points count
  counted numbers = go (leb (2 * count) (length points)) refl
    where
      go : (b : Bool) → leb (2 * count) (length points) ≡ b → listed_by (text_under (numbers count)) l points count ≡ listed_by (λ (ps : List ℤ). text_under (numbers (length ps / 2)) ps) l points count
      go true h =
          let enough = leb-true (2 * count) (length points) h in
          let half : count ≡ length (take (2 * count) points) / 2 = omega (arith, length-take-le (2 * count) points enough) in
          sym (in-full (text_under (numbers count)) enough)
          ∙ ap (λ (n : ℕ). written l 0 (text_under (numbers n) (take (2 * count) points))) half
          ∙ in-full (λ (ps : List ℤ). text_under (numbers (length ps / 2)) ps) enough
      go false h =
          let few = leb-false (2 * count) (length points) h in
          sym (too_few (text_under (numbers count)) few) ∙ too_few (λ (ps : List ℤ). text_under (numbers (length ps / 2)) ps) few
