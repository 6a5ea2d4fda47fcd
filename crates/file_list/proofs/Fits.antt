-- Each part of every file's listing fits the room for the longest, and so does its listing by any tolerance: a file is refused by a row whose number and place are small, or its outline is drawn,
-- and its points are few and near.
use Rattle.std.specs.Prelude.{Err, Result}
use mathlib.Core.Path.{◌≡◌, refl, sym, ◌∙◌, subst}
use mathlib.Core.List.{List, ◌++◌}
use mathlib.Core.Logic.{⊎_elim}
use Prim.Native.Nat.{ℕ, zero, suc, ◌+◌, ◌*◌, ◌^◌, ◌≤◌, ◌<◌}
use native.Mathlib.Omega.{arith}
use borrow.Author.Rules.{rules}
use borrow.Author.Tests.{ltb-false}
use Rattle.whole.specs.Outcome.{Outcome, refuses}
use lib.Dec.{ltb, eqb}
use lib.IntN.{ℤ}
use lib.ListN.{length, take, length-take}
use Rattle.curve.specs.Tab.{tab}
use Rattle.curve.specs.Ways.{deepest}
use Rattle.curve.proofs.Bits.{reach-most}
use Rattle.curve.proofs.Tab.{length-tab}
use Rattle.shape.specs.declared.Shape.{Shape}
use Rattle.shape.specs.declared.Plan.{Plan}
use Rattle.shape.specs.declared.Refusal.{Refusal}
use Rattle.shape.specs.Inner.{Good}
use Rattle.shape.specs.Shape.{most_records}
use Rattle.shape.specs.Refusals.{Row, First, NoRow, outside}
use Rattle.shape.proofs.Refusals.{judge-first, row-fails, first_either, Each, each_both, each_first, none-sound, verdict}
use Rattle.shape.proofs.Seek.{seek-to}
use Rattle.shape.proofs.Tests.{either, or-false}
use Rattle.spans.specs.Numbers as spans
use Rattle.spans.proofs.Numbers.{per-span}
use Rattle.pieces.specs.Tree.{finest}
use Rattle.tolerance.specs.Reading as steps
use Rattle.tolerance.specs.Reading.{choose_rows, steps_of, accepts, chooses}
use Rattle.tolerance.proofs.Left.{cuts-below}
use Rattle.tolerance.proofs.Exactly.{none-chosen}
use Rattle.tolerance.proofs.Answered.{near}
use Rattle.outline.specs.Outline as outline
use Rattle.outline.proofs.Views.{span-within}
use Rattle.outline.proofs.Within.{number-within}
use Rattle.record_file.specs.Format as format
use Rattle.record_file.specs.Rows.{most_bytes, record_count, length_rows, record_rows, later_rows, file_rows, reading}
use Rattle.record_file.proofs.Exactly.{first-refused, none_read}
use Rattle.file_list.specs.Files.{most_spans, most_listed, controls, points, most_text, refused_text, cut_text, by_tolerance, cut_file_text}
use Rattle.file_list.specs.Parts.{own_points, outline_part, only_part, shape_part, part_text, most_part}
use Rattle.tolerance.specs.declared.Steps.{Steps}
use Rattle.file_list.proofs.Texts.{cut-then, read-text, unread-text}
use Rattle.file_list.proofs.Read.{n, s, p, held, shape, good, lent, few-points}
use Rattle.file_list.proofs.EachPart.{steps-few, own-most, past-parts}
use Rattle.file_list.proofs.Joined.{part-is}
use Rattle.file_list.proofs.Lengths.{refusal-length, heading-length, span-length, chosen-length}
use Rattle.file_list.proofs.Small.{small-tab, small-chosen}

-- ---- a refusal's number and place have at most two digits

record Short (r : Refusal) : Type 0 where
  number : r.number < 10 ^ 2
  place : r.place < 10 ^ 2

module _ (file : List ℕ) where
  records-short : (i m : ℕ) → i + m ≤ most_records → Each Short (record_rows file i m)
  unfolding record_rows
  records-short i zero few = tt
  records-short i (suc m) few =
      (record { number = omega arith; place = omega arith }, (record { number = omega arith; place = omega arith }, records-short (suc i) m (omega arith)))

  later-short : (m : ℕ) → m ≤ most_records → Each Short (later_rows file m controls)
  later-short m few = let found = seek-to (outside (format.numbers file m)) 0 m in search rules

  refused-short : (r : Refusal) → First (file_rows file controls) r → Short r
  refused-short r f =
      let n = record_count file in
      let first = length_rows (length file) in
      let rest = record_rows file 0 n ++ later_rows file n controls in
      ⊎_elim (λ (g : First first r). each_first Short first (search rules) r g)
      (λ (g : NoRow first × First rest r).
      let long = or-false (eqb (length file) 0) (ltb most_bytes (length file)) (row-fails 3 first g.0) in
      let few : n ≤ most_records = omega (arith, ltb-false most_bytes (length file) long.1) in
      each_first Short rest (each_both Short (record_rows file 0 n) (later_rows file n controls) (records-short 0 n (omega (arith, few))) (later-short n few)) r g.1)
      (first_either first rest r f)

  -- the line of any of them
  refused-length : (r : Refusal) → First (file_rows file controls) r → length (refused_text r) ≤ 14
  refused-length r f = let few = refused-short r f in refusal-length r.number r.place few.number few.place

  -- what a file that was read is refused for, if its steps are chosen by tolerance
  chosen-short : (tolerance most : ℕ) (none : NoRow (file_rows file controls)) (r : Refusal) → First (choose_rows (s file none) tolerance most (held file none) (points finest)) r → Short r
  chosen-short tolerance most none r f =
      let found = seek-to (outside (held file none)) 0 (n file none) in
      let few = (good file none).records-most in
      each_first Short (choose_rows (s file none) tolerance most (held file none) (points finest)) (search rules) r f

-- ---- a file that is read

module _ (file : List ℕ) (none : NoRow (file_rows file controls)) where
  abbrev sh : Shape
  sh = s file none

  abbrev q : Plan
  q = p file none

  abbrev c : List ℤ
  c = held file none

  ok : Good sh q
  ok = good file none

  basis-short : sh.basis < 10
  basis-short = omega (arith, ok.basis-most)

  spans-few : q.spans ≤ most_spans
  spans-few = omega (arith, ok.spans-most, ok.records-most)

  -- ---- its parts

  heading-fits : length (outline_part sh q c 0) ≤ most_part
  heading-fits =
      heading-length sh.basis sh.depth q.spans (outline.points q) basis-short (omega (arith, ok.depth, ok.depth-most)) (omega (arith, spans-few)) (omega (arith, few-points file none deepest ok.depth-most))

  span_fits : (t : ℕ) → t < q.spans → length (outline_part sh q c (suc t)) ≤ most_part
  span_fits t there =
      let f = spans.number q c in
      let from = t * spans.per_span q.depth in
      let n = 2 * own_points q t in
      let within = span-within q.depth q.spans t there in
      let few = few-points file none deepest ok.depth-most in
      let first = per-span t q.depth in
      let own = own-most q t in
      subst (λ l. length l ≤ most_part) (sym (part-is sh (shape file none) c (outline.points q) (length (points deepest)) (lent file none) t n there refl))
      (span-length (t * 2 ^ q.depth) (tab f from n) (omega (arith, length-tab f from n)) (omega (arith, length-tab f from n, steps-few q ok.depth-most))
      (small-tab f from n (λ i _ h. omega (arith, reach-most q.basis, number-within sh q ok c (outline.points q) (length (points deepest)) (lent file none) i (omega arith)))))

  parts-fit : (i : ℕ) → length (outline_part sh q c i) ≤ most_part
  parts-fit zero = heading-fits
  parts-fit (suc t) =
      ⊎_elim (span_fits t) (λ (past : q.spans ≤ t). subst (λ l. length l ≤ most_part) (sym (past-parts sh q c (suc t) (λ e. omega (arith, e)) (omega arith))) (omega arith)) (either t q.spans)

  -- ---- by tolerance

  module _ (tolerance most : ℕ) where
    read-cut : (o : Outcome (Result Steps Refusal) (List ℤ)) → chooses sh tolerance most c (points finest) ≡ o → cut_file_text tolerance most file ≡ cut_text sh tolerance o.held o.answer
    read-cut o e = read-text (by_tolerance tolerance most) file sh c (none_read file controls none) ∙ cut-then tolerance most sh c o e

    abbrev rows : List Row
    rows = choose_rows sh tolerance most c (points finest)

    refused-cut-fits : (r : Refusal) → First rows r → length (cut_file_text tolerance most file) ≤ most_text
    unfolding chooses
    refused-cut-fits r f =
        let few = chosen-short file tolerance most none r f in
        let refused = judge-first rows (refuses Err (points finest)) (accepts q tolerance c (points finest)) r f in
        subst (λ t. length t ≤ most_text) (sym (read-cut (refuses Err (points finest) r) refused)) (omega (arith, refusal-length r.number r.place few.number few.place))

    chosen-fits : NoRow rows → length (cut_file_text tolerance most file) ≤ most_text
    chosen-fits free =
        let fs = steps_of q tolerance c in
        let now = steps.chosen q tolerance c (points finest) in
        let done = none-chosen sh tolerance most c (points finest) free in
        let chose = take (2 * fs.points) now in
        let few : fs.cuts ≤ 63 * most_spans = omega (arith, spans-few, cuts-below q tolerance c) in
        let long : length chose ≤ 2 * most_listed finest = omega (arith, length-take (2 * fs.points) now, spans-few, few) in
        subst (λ t. length t ≤ most_text) (sym (read-cut (accepts q tolerance c (points finest)) done))
        (chosen-length sh.basis q.spans chose basis-short (omega (arith, spans-few)) long
        (small-chosen sh c (shape file none) (outline.points q) (length (points deepest)) (lent file none) tolerance most (points finest) fs now done)
        tolerance fs.cuts (omega (arith, near sh tolerance most c (points finest) free)) (omega (arith, few)))

    cut-drawn-fits : length (cut_file_text tolerance most file) ≤ most_text
    cut-drawn-fits = ⊎_elim (λ (v : (r : Refusal) × First rows r). refused-cut-fits v.0 v.1) chosen-fits (verdict rows)

-- So what `list_part` writes into a text of that length is the whole part, for every file, and what `cut_file` writes the whole listing.
pub part-fits : (file : List ℕ) (i : ℕ) → length (part_text (reading file controls).answer (reading file controls).held i) ≤ most_part
part-fits file i = ⊎_elim refused drawn (verdict (file_rows file controls))
  where
    Fits : Outcome (Result Shape Refusal) (List ℤ) → Type 0
    Fits o = length (part_text o.answer o.held i) ≤ most_part

    only : (text : List ℕ) (i : ℕ) → length text ≤ 14 → length (only_part text i) ≤ most_part
    only text zero short = omega arith
    only text (suc i) short = omega arith

    refused : ((r : Refusal) × First (file_rows file controls) r) → Fits (reading file controls)
    refused v = subst Fits (sym (first-refused file controls v.0 v.1)) (only (refused_text v.0) i (refused-length file v.0 v.1))

    drawn : NoRow (file_rows file controls) → Fits (reading file controls)
    drawn none =
        subst Fits (sym (none_read file controls none))
        (subst (λ (j : Result Plan Refusal). length (shape_part (sh file none) (c file none) j i) ≤ most_part) (sym (none-sound (sh file none) (shape file none))) (parts-fit file none i))

pub cut_fits : (tolerance most : ℕ) (file : List ℕ) → length (cut_file_text tolerance most file) ≤ most_text
cut_fits tolerance most file =
    ⊎_elim
    (λ (v : (r : Refusal) × First (file_rows file controls) r).
    subst (λ t. length t ≤ most_text) (sym (unread-text (by_tolerance tolerance most) file v.0 controls (first-refused file controls v.0 v.1))) (omega (arith, refused-length file v.0 v.1)))
    (λ (none : NoRow (file_rows file controls)). cut-drawn-fits file none tolerance most) (verdict (file_rows file controls))
