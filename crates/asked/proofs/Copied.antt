-- Numbers copied inside one list, as the library's `copy_within` leaves it, and such a list as one that was filled by a rule.
use mathlib.Core.Path.{◌≡◌, sym, ap, ◌∙◌}
use mathlib.Core.Logic.{⊎_elim}
use mathlib.Core.List.{List}
use Prim.Native.Nat.{ℕ, ◌+◌, ◌-◌, ◌≤◌, ◌<◌}
use lib.IntN.{ℤ, pos}
use lib.ListN.{get_or, length}
use lib.Seq.{ext_get_or}
use Rattle.std.specs.List.{CopiedTo, SameBelow, SameFrom}
use Rattle.shape.proofs.Tests.{either}
use Rattle.spans.specs.Filled.{filled}
use Rattle.spans.proofs.Filled.{length-filled, in-filled, before-filled, past-filled}

-- The n numbers from place `from` of the old list on stand from place `to` of the new one on, and every other as it was.
abbrev pub Copied : List ℤ → List ℤ → ℕ → ℕ → ℕ → Type 0
Copied old new from to n = CopiedTo old new from to n × SameBelow old new to × SameFrom old new (to + n)

module _ (old new : List ℤ) (from to n : ℕ) where
  -- a copied number, its place told another way
  pub told-at : CopiedTo old new from to n → (q i : ℕ) → to ≤ q → q < to + n → from + (q - to) ≡ i → get_or new q (pos 0) ≡ get_or old i (pos 0)
  told-at copied q i low high is = copied q (pos 0) low high ∙ ap (λ (k : ℕ). get_or old k (pos 0)) is

  -- so the list is the old one filled by a rule that tells the places
  pub copied-filled :
      (place : ℕ → ℕ)
      → to + n ≤ length old
      → length new ≡ length old
      → Copied old new from to n
      → ((q : ℕ) → to ≤ q → from + (q - to) ≡ place q)
      → new ≡ filled (λ q. get_or old (place q) (pos 0)) to n old
  copied-filled place room long (copied, before, past) told =
      let rule : ℕ → ℤ = λ q. get_or old (place q) (pos 0) in
      ext_get_or (pos 0) new (filled rule to n old) (long ∙ sym (length-filled rule to n old))
      (λ q within.
      ⊎_elim (λ (early : q < to). before q (pos 0) early ∙ sym (before-filled rule to n old q early))
      (λ (low : to ≤ q).
      ⊎_elim (λ (high : q < to + n). told-at copied q (place q) low high (told q low) ∙ sym (in-filled rule to n old q low high room))
      (λ (late : to + n ≤ q). past q (pos 0) late ∙ sym (past-filled rule to n old q late))
      (either q (to + n)))
      (either q to))
