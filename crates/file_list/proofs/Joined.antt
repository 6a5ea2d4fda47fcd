-- The parts of a file's listing, one after another, are its listing: the first line, and then span after span the points from its start on, each point once.
use Rattle.std.specs.Prelude.{Err, Ok, Result}
use mathlib.Core.Bool.{Bool, cond}
use mathlib.Core.List.{List, [], ◌++◌, append-nil}
use mathlib.Core.Logic.{⊎_elim}
use mathlib.Core.Path.{◌≡◌, refl, sym, ap, ◌∙◌, subst}
use Prim.Native.Nat.{ℕ, zero, suc, ◌+◌, ◌*◌, ◌^◌, ◌/◌, ◌≤◌, ◌<◌}
use native.Mathlib.Nat.{zero-mul, suc-mul}
use native.Mathlib.Numerals.{add-one}
use native.Mathlib.Omega.{arith}
use borrow.Author.Tests.{lt-ltb}
use lib.IntN.{ℤ}
use lib.ListN.{length, length-append}
use Rattle.whole.specs.Outcome.{Outcome}
use Rattle.curve.specs.Tab.{tab}
use Rattle.curve.proofs.Tab.{length-tab, tab-append}
use Rattle.shape.specs.declared.Shape.{Shape}
use Rattle.shape.specs.declared.Plan.{Plan}
use Rattle.shape.specs.declared.Refusal.{Refusal}
use Rattle.shape.specs.Inner.{Lent}
use Rattle.shape.specs.Refusals.{First, NoRow, shape_rows, plan_of}
use Rattle.shape.specs.Shape.{most_records}
use Rattle.shape.proofs.Refusals.{good-plan, none-sound, first-unsound, verdict}
use Rattle.spans.specs.Numbers.{number, per_span}
use Rattle.outline.specs.Outline as outline
use Rattle.outline.specs.Outline.{accepts}
use Rattle.outline.proofs.Draws.{all-numbers}
use Rattle.record_file.specs.Rows.{file_rows, reading}
use Rattle.record_file.proofs.Exactly.{first-refused, none_read}
use Rattle.listing.specs.Listing.{heading_text, point_lines, outline_text}
use Rattle.listing.proofs.Points.{lines-append}
use Rattle.curve.specs.Ways.{deepest}
use Rattle.file_list.specs.Files.{controls, points, refused_text, even_text, file_text}
use Rattle.file_list.specs.Parts.{own_points, span_text, outline_part, only_part, shape_part, shape_parts, part_text, parts_of, joined}
use Rattle.file_list.proofs.Texts.{text-then, read-text, unread-text}
use Rattle.file_list.proofs.Read as file
use Rattle.file_list.proofs.EachPart.{own-last, own-other}
use Rattle.file_list.proofs.OneSpan.{span_lines}

-- ---- an outline

module _ (s : Shape) (sound : NoRow (shape_rows s)) (c : List ℤ) (m len : ℕ) (lent : Lent s.count c m len) where
  abbrev p : Plan
  p = plan_of s

  abbrev f : ℕ → ℤ
  f = number p c

  abbrev steps : ℕ
  steps = 2 ^ p.depth

  abbrev w : ℕ
  w = per_span p.depth

  -- the lines of span t, by the points that it lists
  pub part-is : (t n : ℕ) → t < p.spans → 2 * own_points p t ≡ n → outline_part s p c (suc t) ≡ point_lines (t * steps) (tab f (t * w) n)
  part-is t n there many =
      ap (λ (b : Bool). cond b (span_text s p c t) []) (lt-ltb t p.spans there)
      ∙ span_lines s sound c m len lent t there
      ∙ ap (λ (n : ℕ). point_lines (t * steps) (tab f (t * w) n)) many

  -- from span t to the end, which is n spans further
  from-span : (n t : ℕ) → t + suc n ≡ p.spans → joined (outline_part s p c) (suc t) (suc n) ≡ point_lines (t * steps) (tab f (t * w) (suc n * w + 2))
  unfolding joined
  from-span zero t e =
      let last : t + 1 ≡ p.spans = omega arith in
      let many : 2 * own_points p t ≡ 1 * w + 2 = omega (arith, own-last p t last) in
      append-nil (outline_part s p c (suc t)) ∙ part-is t (1 * w + 2) (omega arith) many
  from-span (suc n) t e =
      let rest = suc n * w + 2 in
      let many : 2 * own_points p t ≡ w = omega (arith, own-other p t (λ last. omega (arith, last))) in
      let number-on : suc t * steps ≡ t * steps + steps = suc-mul t steps in
      let on : suc t * w ≡ t * w + w = suc-mul t w in
      let all : w + rest ≡ suc (suc n) * w + 2 = omega (arith, suc-mul (suc n) w) in
      ap (λ (l : List ℕ). l ++ joined (outline_part s p c) (suc (suc t)) (suc n)) (part-is t w (omega arith) many)
      ∙ ap (λ (l : List ℕ). point_lines (t * steps) (tab f (t * w) w) ++ l)
      (from-span n (suc t) (omega arith) ∙ (λ i. point_lines (number-on i) (tab f (on i) rest)))
      ∙ sym (lines-append (t * steps) steps (tab f (t * w) w) (tab f (t * w + w) rest) (length-tab f (t * w) w))
      ∙ ap (point_lines (t * steps)) (sym (tab-append f (t * w) w rest) ∙ ap (tab f (t * w)) all)

  -- all of them
  abbrev all-points : List ℤ
  all-points = tab f 0 (2 * outline.points p)

  spans-joined : (n : ℕ) → n ≡ p.spans → 1 ≤ n → joined (outline_part s p c) 1 n ≡ point_lines 0 all-points
  spans-joined zero e some = absurd (omega arith)
  spans-joined (suc n) e some =
      let many : suc n * w + 2 ≡ 2 * outline.points p = ap (λ (m : ℕ). m * w + 2) e ∙ sym (all-numbers p.depth p.spans) in
      from-span n 0 (omega arith) ∙ (λ i. point_lines (zero-mul steps i) (tab f (zero-mul w i) (many i)))

  pub outline-joined : joined (outline_part s p c) 0 (p.spans + 1) ≡ outline_text s.basis s.depth p.spans all-points
  unfolding joined outline_text
  outline-joined =
      let count : outline.points p ≡ length all-points / 2 = omega (arith, length-tab f 0 (2 * outline.points p)) in
      ap (joined (outline_part s p c) 0) (add-one p.spans)
      ∙ (λ i. heading_text s.basis s.depth p.spans (count i) ++ spans-joined p.spans refl (good-plan s sound).spans-least i)

-- ---- a file

-- a part that is the only one
only-joined : (text : List ℕ) → joined (only_part text) 0 1 ≡ text
unfolding joined
only-joined text = append-nil text

-- what the parts come to, by what reading came to
abbrev whole : Outcome (Result Shape Refusal) (List ℤ) → List ℕ
whole o = joined (part_text o.answer o.held) 0 (parts_of o.answer)

-- the listing of a file that is read
pub drawn-text : (bytes : List ℕ) (none : NoRow (file_rows bytes controls))
    → let s = file.s bytes none in let p = file.p bytes none in
    file_text bytes ≡ outline_text s.basis s.depth p.spans (tab (number p (file.held bytes none)) 0 (2 * outline.points p))
drawn-text bytes none =
    let s = file.s bytes none in
    let p = file.p bytes none in
    let c = file.held bytes none in
    let vs = tab (number p c) 0 (2 * outline.points p) in
    read-text even_text bytes s c (none_read bytes controls none)
    ∙ text-then s c (accepts p c (points deepest)) (file.read-drawn bytes none)
    ∙ ap (outline_text s.basis s.depth p.spans) (file.front bytes none deepest (file.good bytes none).depth-most vs (length-tab (number p c) 0 (2 * outline.points p)))

pub file-joined : (bytes : List ℕ) → whole (reading bytes controls) ≡ file_text bytes
file-joined bytes = ⊎_elim refused drawn (verdict (file_rows bytes controls))
  where
    refused : ((r : Refusal) × First (file_rows bytes controls) r) → whole (reading bytes controls) ≡ file_text bytes
    refused v =
        let is = first-refused bytes controls v.0 v.1 in
        ap whole is ∙ only-joined (refused_text v.0) ∙ sym (unread-text even_text bytes v.0 controls is)

    drawn : NoRow (file_rows bytes controls) → whole (reading bytes controls) ≡ file_text bytes
    drawn none =
        let s = file.s bytes none in
        let c = file.held bytes none in
        let shape = file.shape bytes none in
        ap whole (none_read bytes controls none)
        ∙ ap (λ (j : Result Plan Refusal). joined (shape_part s c j) 0 (shape_parts j)) (none-sound s shape)
        ∙ outline-joined s shape c (outline.points (plan_of s)) (length (points deepest)) (file.lent bytes none)
        ∙ sym (drawn-text bytes none)

-- ---- for a program that writes the parts one after another

-- one part more
pub joined-next : (part : ℕ → List ℕ) (n i : ℕ) → length (joined part i (n + 1)) ≡ length (joined part i n) + length (part (i + n))
unfolding joined
joined-next part zero i =
    let here : i + 0 ≡ i = omega arith in
    omega (arith, length-append (part i) [], ap (λ (k : ℕ). length (part k)) here)
joined-next part (suc n) i =
    let on : suc n + 1 ≡ suc (n + 1) = omega arith in
    let there : i + suc n ≡ suc i + n = omega arith in
    omega (
      arith,
      ap (λ (k : ℕ). length (joined part i k)) on,
      length-append (part i) (joined part (suc i) (n + 1)),
      joined-next part n (suc i),
      length-append (part i) (joined part (suc i) n),
      ap (λ (k : ℕ). length (part k)) there,
    )

-- there are no more parts than records, and the first line
pub parts-few : (r : Result Shape Refusal) → parts_of r ≤ most_records + 1
parts-few (Err r) = omega arith
parts-few (Ok s) =
    ⊎_elim (λ (v : (r : Refusal) × First (shape_rows s) r). subst (λ (j : Result Plan Refusal). shape_parts j ≤ most_records + 1) (sym (first-unsound s v.0 v.1)) (omega arith))
    (λ (none : NoRow (shape_rows s)).
    let ok = good-plan s none in
    subst (λ (j : Result Plan Refusal). shape_parts j ≤ most_records + 1) (sym (none-sound s none)) (omega (arith, ok.spans-most, ok.records-most)))
    (verdict (shape_rows s))
