-- The four records of a span, as its basis counts them: where the list has all of them, its eight numbers stand one after another, and else there are fewer.
use mathlib.Core.List.{List, [], ◌∷◌, ◌++◌}
use mathlib.Core.Path.{◌≡◌, sym, ap, ◌∙◌}
use Prim.Native.Nat.{ℕ, zero, suc, ◌+◌, ◌*◌, ◌/◌, ◌%◌, ◌≤◌, ◌<◌}
use native.Mathlib.Omega.{arith}
use lib.IntN.{ℤ, pos}
use lib.ListN.{length, get_or, take, drop, length-append, length-take, length-drop}
use lib.Seq.{take_all, drop-cons, sets, length-sets}
use Rattle.curve.specs.declared.Basis.{Basis}
use Rattle.curve.specs.declared.Basis.TheVariants.{Bezier, BSpline, Cardinal, Hermite, Loop}
use Rattle.curve.specs.Span.{coordinate, first_record, record_at}
use Rattle.curve.specs.Tab.{tab}
use Rattle.curve.proofs.Round.{by-round}
use Rattle.curve.proofs.Tab.{length-tab, get_or-tab}
use Rattle.tolerance.proofs.Along.{written-front}
use Rattle.file_list.specs.Parts.{own_record, own_records}
use Rattle.file_list.specs.Inner.{own_numbers}

-- ---- the places are small

pub record-below : (b : Basis) (r : ℕ) → record_at b r ≤ r
record-below Bezier r = omega arith
record-below BSpline r = omega arith
record-below (Cardinal c) r = omega arith
record-below Hermite r = omega arith
record-below (Loop n) r = by-round (λ v. v ≤ r) n r (λ below. omega arith) (λ past. omega arith)

pub first_below : (b : Basis) (i : ℕ) → first_record b i ≤ 3 * i
unfolding first_record
first_below Bezier i = omega arith
first_below BSpline i = omega arith
first_below (Cardinal c) i = omega arith
first_below Hermite i = omega arith
first_below (Loop n) i = omega arith

module _ (b : Basis) (held : List ℤ) (i : ℕ) where
  -- where its record j is, and where its number q is, x and y by turns
  abbrev pub among : ℕ → ℕ
  among j = record_at b (first_record b i + j)

  abbrev pub place : ℕ → ℕ
  place q = 2 * among (q / 2) + q % 2

  abbrev pub own_number : ℕ → ℤ
  own_number q = get_or held (place q) (pos 0)

  -- a record that is there is two numbers
  two : (j : ℕ) → 2 * among j + 2 ≤ length held → own_record b held i j ≡ get_or held (2 * among j + 0) (pos 0) ∷ get_or held (2 * among j + 1) (pos 0) ∷ []
  two j there =
      let at = 2 * among j in
      let here : at ≡ at + 0 = omega arith in
      let next : suc at ≡ at + 1 = omega arith in
      ap (take 2) (drop-cons held at (pos 0) (omega arith) ∙ (λ k. get_or held (here k) (pos 0) ∷ drop (next k) held))
      ∙ ap (λ l. get_or held (at + 0) (pos 0) ∷ take 1 l) (drop-cons held (at + 1) (pos 0) (omega arith))

  -- and all four are eight
  pub own_is : ((q : ℕ) → q < own_numbers → place q < length held) → own_records b held i ≡ tab own_number 0 own_numbers
  unfolding own_records tab
  own_is there =
      let first = two 0 (omega (arith, there 1 (omega arith))) in
      let second = two 1 (omega (arith, there 3 (omega arith))) in
      let third = two 2 (omega (arith, there 5 (omega arith))) in
      let fourth = two 3 (omega (arith, there 7 (omega arith))) in
      λ k. first k ++ (second k ++ (third k ++ fourth k))

  pub own-length : ((q : ℕ) → q < own_numbers → place q < length held) → length (own_records b held i) ≡ own_numbers
  own-length there = ap length (own_is there) ∙ length-tab own_number 0 own_numbers

  -- where one is not, there are fewer
  part_length : (j : ℕ) → length (own_record b held i j) ≤ 2
  part_length j = omega (arith, length-take 2 (drop (2 * among j) held))

  lacking : (j : ℕ) → length held < 2 * among j + 2 → length (own_record b held i j) < 2
  lacking j past = omega (arith, length-take 2 (drop (2 * among j) held), length-drop (2 * among j) held)

  lengths : length (own_records b held i) ≡ length (own_record b held i 0) + (length (own_record b held i 1) + (length (own_record b held i 2) + length (own_record b held i 3)))
  unfolding own_records
  lengths =
      omega (
        arith,
        length-append (own_record b held i 0) (own_record b held i 1 ++ (own_record b held i 2 ++ own_record b held i 3)),
        length-append (own_record b held i 1) (own_record b held i 2 ++ own_record b held i 3),
        length-append (own_record b held i 2) (own_record b held i 3),
      )

  pub own-short : (j : ℕ) → j < 4 → length held < 2 * among j + 2 → length (own_records b held i) < own_numbers
  own-short zero few past = omega (arith, lengths, lacking 0 past, part_length 1, part_length 2, part_length 3)
  own-short (suc zero) few past = omega (arith, lengths, part_length 0, lacking 1 past, part_length 2, part_length 3)
  own-short (suc (suc zero)) few past = omega (arith, lengths, part_length 0, part_length 1, lacking 2 past, part_length 3)
  own-short (suc (suc (suc zero))) few past = omega (arith, lengths, part_length 0, part_length 1, part_length 2, lacking 3 past)
  own-short (suc (suc (suc (suc j)))) few past = absurd (omega arith)

  -- each of them by its axis
  pub own-coordinate : ((q : ℕ) → q < own_numbers → place q < length held) → (axis j : ℕ) → axis < 2 → j < 4 → coordinate (own_records b held i) axis j ≡ coordinate held axis (among j)
  unfolding coordinate
  own-coordinate there axis j two four =
      let q = 2 * j + axis in
      let half : (0 + q) / 2 ≡ j = omega arith in
      let rest : (0 + q) % 2 ≡ axis = omega arith in
      ap (λ l. get_or l q (pos 0)) (own_is there)
      ∙ get_or-tab own_number 0 own_numbers q (omega arith) (pos 0)
      ∙ (λ k. get_or held (2 * among (half k) + rest k) (pos 0))

-- a list that is written over from its start to its end
pub written_over : (l vs : List ℤ) → length l ≡ length vs → sets l 0 vs ≡ vs
written_over l vs same = sym (take_all (length vs) (sets l 0 vs) (omega (arith, length-sets l 0 vs))) ∙ written-front l vs (omega arith)
