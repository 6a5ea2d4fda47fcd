-- What the deepest depth is a part of, and what it is not (document 02, request 10). A point of depth k, and what is left over of it, are the same by the table of any depth from k on; a call whose shape is no
-- deeper than two builds allow answers the same in both, refusals among them; and what is deeper than a build allows it refuses with 2. So outlines and files up to depth 6 are what they were.
use Rattle.std.specs.Prelude.{Err, Ok, Result}
use mathlib.Core.Bool.{Bool, false, cond}
use mathlib.Core.List.{List, [], ◌∷◌, ◌++◌}
use mathlib.Core.Logic.{⊎_elim}
use mathlib.Core.Path.{◌≡◌, sym, ap, ◌∙◌}
use Prim.Native.Nat.{ℕ, ◌+◌, ◌*◌, ◌-◌, ◌^◌, ◌≤◌, ◌<◌}
use native.Mathlib.Omega.{arith}
use borrow.Author.Tests.{le-ltb, lt-ltb}
use lib.IntN.{ℤ}
use lib.ListN.{length}
use lib.Pow.{pow_pos}
use lib.Ieee.{Float}
use Rattle.whole.specs.Outcome.{Outcome, outcome, refuses}
use Rattle.whole.specs.Nearest.{nearest, remainder}
use Rattle.whole.proofs.Nearest.{nearest-scale}
use Rattle.whole.proofs.Remainder.{remainder-scale}
use Rattle.curve.specs.declared.Four.{Four}
use Rattle.curve.specs.declared.Basis.{Basis}
use Rattle.curve.specs.Span.{divisor, sum_at, point}
use Rattle.curve.specs.Tab.{tab}
use Rattle.curve.specs.Ways.{deepest}
use Rattle.curve.proofs.Bits.{divisor-again}
use Rattle.curve.proofs.Span.{divisor-pos}
use Rattle.curve.proofs.Tab.{length-tab}
use Rattle.shape.specs.declared.Shape.{Shape}
use Rattle.shape.specs.declared.Refusal.{Refusal}
use Rattle.shape.specs.Refusals.{Row, row, First, NoRow, judge, basis_row, parameter_row, count_row, shape_rows, plan_of}
use Rattle.shape.proofs.Refusals.{judge-append, judge-none, none_both, row-fails, none-earlier, none-later, verdict}
use Rattle.outline.specs.declared.Figures.{Figures}
use Rattle.spans.specs.Numbers.{number}
use Rattle.outline.specs.Outline as outline
use Rattle.outline.specs.Outline.{draws}
use Rattle.outline.specs.View.{empty_part, out_of_sight, part_of}
use Rattle.outline.proofs.Views.{span_part}
use Rattle.outline.proofs.Exactly.{done_none}
use Rattle.tolerance.specs.Reading as choice
use Rattle.tolerance.specs.Reading.{chooses}
use Rattle.asked.specs.declared.Edit.{Edit}
use Rattle.edit.specs.Reading as edit
use Rattle.edit.specs.Reading.{shape_after, edit_rows, edits}
use Rattle.preview.specs.Preview as preview
use Rattle.preview.specs.Preview.{previewing}
use Rattle.record_file.specs.Rows as rows
use Rattle.record_file.specs.Rows.{record_count, length_rows, record_rows, shape_of, file_rows, reading}
use Rattle.record_file.proofs.Exactly.{first-refused, none_read}
use Rattle.listing.specs.Listing.{outline_text}
use Rattle.file_list.specs.Files.{controls, points, drawn_text, read_text, even_text, file_text}
use Rattle.file_list.proofs.Texts.{unread-text}
use Rattle.file_list.proofs.Read as file-read
use Rattle.file_list.proofs.Joined.{drawn-text}
use Rattle.stray.specs.Chord.{finer}
use Rattle.stray.proofs.Again.{sum-again}
use Rattle.promises.specs.Depths.{sum_by, number_by, remainder_by, shape_rows_of, call_of, reading_of, even_text_of, file_text_of}

-- ---- the table

module _ (d : ℕ) (b : Basis) (k : ℕ) (within : k ≤ d) (p : Four) (i : ℕ) where
  all : d ≡ k + (d - k)
  all = omega arith

  table-divisor : divisor b d ≡ 2 ^ (3 * (d - k)) * divisor b k
  table-divisor = ap (divisor b) all ∙ divisor-again b k (d - k)

  -- the sum, the cube of 2^(d-k) times as large and exactly so
  pub table-sum : sum_by d b k p i ≡ finer (d - k) (sum_at b k p i)
  table-sum = ap (λ (n : ℕ). sum_at b n p (i * 2 ^ (d - k))) all ∙ sum-again b k (d - k) p i

  -- rounded over the table's divisor, the point itself
  pub table-number : number_by d b k p i ≡ point b k p i
  unfolding point
  table-number =
      (λ x. nearest (table-sum x) (table-divisor x)) ∙ nearest-scale (2 ^ (3 * (d - k))) (sum_at b k p i) (divisor b k) (pow_pos (3 * (d - k))) (divisor-pos b k)

  -- and as many times as much is left over, so that it is nothing where it was nothing
  pub table-remainder : remainder_by d b k p i ≡ finer (d - k) (remainder (sum_at b k p i) (divisor b k))
  table-remainder =
      (λ x. remainder (table-sum x) (table-divisor x)) ∙ remainder-scale (2 ^ (3 * (d - k))) (sum_at b k p i) (divisor b k) (pow_pos (3 * (d - k))) (divisor-pos b k)

-- So the table of document 01, and this one, give the same point and the same that is left over, at every depth that both have.
pub tables_agree : (d e : ℕ) (b : Basis) (k : ℕ) → k ≤ d → k ≤ e → (p : Four) (i : ℕ) → number_by d b k p i ≡ number_by e b k p i
tables_agree d e b k in-d in_e p i = table-number d b k in-d p i ∙ sym (table-number e b k in_e p i)

-- ---- a call

-- two builds that both allow the depth
pub same-call : {A : Type 0} (d e : ℕ) (s : Shape) → s.depth ≤ d → s.depth ≤ e → (own : List Row) (refused : Refusal → A) (accepted : A) → call_of d s own refused accepted ≡ call_of e s own refused accepted
same-call d e s below within own refused accepted =
    ap (λ (t : Bool). judge (basis_row s ∷ row t 2 0 ∷ parameter_row s ∷ count_row s ∷ own) refused accepted) (le-ltb d s.depth below ∙ sym (le-ltb e s.depth within))

-- and one that does not, where the basis is one of those that there are
pub refused-call : {A : Type 0} (d : ℕ) (s : Shape) → d < s.depth → (basis_row s).holds ≡ false → (own : List Row) (refused : Refusal → A) (accepted : A) → call_of d s own refused accepted ≡ refused (record { number = 2; place = 0 })
unfolding judge
refused-call d s deeper basis own refused accepted = rw (basis, lt-ltb d s.depth deeper)

-- This build's calls are those at `deepest`; so each of them answers as that of a build with less did, where the shape is no deeper than that: the same refusal, or the same points, controls and figures.
module _ (d : ℕ) (less : d ≤ deepest) (s : Shape) (below : s.depth ≤ d) where
  now : s.depth ≤ deepest
  now = omega arith

  pub drawn-as-before : (controls lent : List ℤ) → call_of d s (outline.plan_rows s.count (plan_of s) controls lent) (refuses Err lent) (outline.accepts (plan_of s) controls lent) ≡ draws s controls lent
  unfolding draws
  drawn-as-before controls lent = same-call d deepest s below now (outline.plan_rows s.count (plan_of s) controls lent) (refuses Err lent) (outline.accepts (plan_of s) controls lent)

  pub chosen-as-before : (tolerance most : ℕ) (controls lent : List ℤ)
      → call_of d s (choice.plan_rows s.count (plan_of s) tolerance most controls lent) (refuses Err lent) (choice.accepts (plan_of s) tolerance controls lent) ≡ chooses s tolerance most controls lent
  unfolding chooses
  chosen-as-before tolerance most controls lent =
      same-call d deepest s below now (choice.plan_rows s.count (plan_of s) tolerance most controls lent) (refuses Err lent) (choice.accepts (plan_of s) tolerance controls lent)

  pub edited-as-before : (e : Edit) (j : ℕ) (controls lent : List ℤ) → let q = plan_of (shape_after e s) in
      call_of d s (edit_rows e s (plan_of s) q j controls lent) (refuses Err (controls, lent)) (edit.accepts e s q j controls lent) ≡ edits e s j controls lent
  unfolding edits
  edited-as-before e j controls lent =
      let q = plan_of (shape_after e s) in
      same-call d deepest s below now (edit_rows e s (plan_of s) q j controls lent) (refuses Err (controls, lent)) (edit.accepts e s q j controls lent)

  pub previewed-as-before : (controls : List ℤ) (points : List Float)
      → call_of d s (preview.later_rows s (plan_of s) controls (length points)) (refuses Err points) (preview.accepts (plan_of s) controls points) ≡ previewing s controls points
  unfolding previewing
  previewed-as-before controls points = same-call d deepest s below now (preview.later_rows s (plan_of s) controls (length points)) (refuses Err points) (preview.accepts (plan_of s) controls points)

  pub viewed-as-before : (t : ℕ) (lent : List ℤ)
      → call_of d s [] (λ (r : Refusal). empty_part) (cond (out_of_sight (plan_of s) t lent) empty_part (span_part (plan_of s) t)) ≡ part_of s t lent
  unfolding part_of
  viewed-as-before t lent = same-call d deepest s below now [] (λ (r : Refusal). empty_part) (cond (out_of_sight (plan_of s) t lent) empty_part (span_part (plan_of s) t))

-- What this build draws at a greater depth, one with less refuses with 2, and keeps the lent points.
pub older-refuses : (d : ℕ) (s : Shape) (controls lent : List ℤ) (fs : Figures) (held : List ℤ) → draws s controls lent ≡ outcome (Ok fs) held → d < s.depth
    → call_of d s (outline.plan_rows s.count (plan_of s) controls lent) (refuses Err lent) (outline.accepts (plan_of s) controls lent) ≡ outcome (Err (record { number = 2; place = 0 })) lent
older-refuses d s controls lent fs held done deeper =
    refused-call d s deeper (done_none s controls lent fs held done).0 (outline.plan_rows s.count (plan_of s) controls lent) (refuses Err lent) (outline.accepts (plan_of s) controls lent)

-- ---- a file

module _ (d : ℕ) (file : List ℕ) where
  abbrev n : ℕ
  n = record_count file

  abbrev s : Shape
  s = shape_of file n

  -- what is read, or refused, where the file's depth is no deeper
  pub read-as-before : d ≤ deepest → s.depth ≤ d → (lent : List ℤ) → reading_of d file lent ≡ reading file lent
  unfolding reading
  read-as-before less below lent =
      ap (λ (t : Bool). judge (length_rows (length file) ++ (record_rows file 0 n ++ (basis_row s ∷ row t 2 0 ∷ parameter_row s ∷ count_row s ∷ rows.list_rows file n lent))) (refuses Err lent) (rows.accepts file n lent))
      (le-ltb d s.depth below ∙ sym (le-ltb deepest s.depth (omega arith)))

  -- a file that this build reads, of a greater depth, one with less refuses with 2
  pub file-refused : (lent : List ℤ) → NoRow (file_rows file lent) → d < s.depth → reading_of d file lent ≡ outcome (Err (record { number = 2; place = 0 })) lent
  file-refused lent none deeper =
      let before = length_rows (length file) in
      let records = record_rows file 0 n in
      let later = rows.later_rows file n lent in
      let own = rows.list_rows file n lent in
      let refused = refuses Err lent in
      let accepted = rows.accepts file n lent in
      let rest = none-later before (records ++ later) none in
      judge-append before (records ++ (shape_rows_of d s ++ own)) refused accepted
      ∙ judge-none before refused (judge (records ++ (shape_rows_of d s ++ own)) refused accepted) (none-earlier before (records ++ later) none)
      ∙ judge-append records (shape_rows_of d s ++ own) refused accepted
      ∙ judge-none records refused (call_of d s own refused accepted) (none-earlier records later rest)
      ∙ refused-call d s deeper (none-later records later rest).0 own refused accepted

  -- the listing of a file that is no deeper is what it was
  pub listed-as-before : d ≤ deepest → s.depth ≤ d → file_text_of d file ≡ file_text file
  listed-as-before less below = ⊎_elim refused read-and-drawn (verdict (file_rows file controls))
    where
      text : Outcome (Result Shape Refusal) (List ℤ) → List ℕ
      text o = read_text (even_text_of d) o.held o.answer

      refused : ((r : Refusal) × First (file_rows file controls) r) → file_text_of d file ≡ file_text file
      refused v =
          let is = first-refused file controls v.0 v.1 in
          ap text (read-as-before less below controls ∙ is) ∙ sym (unread-text even_text file v.0 controls is)

      read-and-drawn : NoRow (file_rows file controls) → file_text_of d file ≡ file_text file
      read-and-drawn none =
          let held = file-read.held file none in
          let p = plan_of s in
          let lent = points d in
          let sound = file-read.shape file none in
          let mine = shape_rows s in
          let shallow : p.depth ≤ d = omega (arith, (file-read.good file none).depth) in
          let vs = tab (number p held) 0 (2 * outline.points p) in
          ap text (read-as-before less below controls ∙ none_read file controls none)
          ∙ ap (λ (o : Outcome (Result Figures Refusal) (List ℤ)). drawn_text s o.held o.answer)
          (judge-none (shape_rows_of d s ++ outline.plan_rows n p held lent) (refuses Err lent) (outline.accepts p held lent) (none_both (shape_rows_of d s) (outline.plan_rows n p held lent) (row-fails 1 mine sound, (le-ltb d s.depth below, (row-fails 24 mine sound, (row-fails 3 mine sound, tt)))) (file-read.lists file none d shallow)))
          ∙ ap (outline_text s.basis s.depth p.spans) (file-read.front file none d shallow vs (length-tab (number p held) 0 (2 * outline.points p)))
          ∙ sym (drawn-text file none)
