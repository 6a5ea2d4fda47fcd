-- The parameter of a cardinal curve (document 02, request 7). At 0 and at 32 every point, and how many coordinates are exact, is what document 01 gives at one half; of another basis any parameter answers alike;
-- one above 64 is refused with 24 by every call that has a shape of basis 3; edits hand it on; and a file without parameters is read as document 01 reads it.
use Rattle.std.specs.Prelude.{Err, Ok, Result}
use mathlib.Core.Bool.{Bool, true, false, not, cond, ◌&&◌, ◌||◌}
use mathlib.Core.List.{List, [], ◌∷◌, ◌++◌}
use mathlib.Core.Logic.{◌⊎◌, inl, inr, ⊎_elim}
use mathlib.Core.Path.{◌≡◌, refl, sym, ap, ◌∙◌}
use Prim.Native.Nat.{ℕ, zero, suc, ◌+◌, ◌*◌, ◌-◌, ◌/◌, ◌%◌, ◌^◌, min, ◌≤◌, ◌<◌}
use native.Mathlib.Nat.{mul_assoc, mul-pos}
use native.Mathlib.Omega.{arith}
use borrow.Author.Tests.{eq-eqb, ne_eqb, le-leb, lt-ltb, le-ltb}
use lib.Dec.{eqb, ltb, lit<}
use lib.Ieee.{Float}
use lib.IntN.{ℤ, pos, ◌*ℤ◌}
use lib.ListN.{length, get_or}
use lib.Pow.{pow_pos}
use lib.Seq.{sets}
use Rattle.whole.specs.Nearest.{nearest, remainder}
use Rattle.whole.specs.Outcome.{Outcome, outcome, refuses}
use Rattle.whole.proofs.Nearest.{nearest-scale}
use Rattle.whole.proofs.Remainder.{remainder-scale}
use Rattle.whole.proofs.Ring.{◌⊕◌, ◌⊖◌, ◌⊗◌, solve}
use Rattle.curve.specs.declared.Four.{Four}
use Rattle.curve.specs.declared.Basis.{Basis}
use Rattle.curve.specs.declared.Basis.TheVariants.{Cardinal}
use Rattle.curve.specs.Four.{dot}
use Rattle.curve.specs.Published.{most_parameter, weights}
use Rattle.curve.specs.Span.{coordinate, records_from, records, whole_controls, weighted, divisor, sum_at}
use Rattle.curve.specs.Tab.{tab}
use Rattle.curve.specs.Ways.{deepest}
use Rattle.curve.proofs.Reflect.{fourᵉ, num, p, i, h, values, weightedᵉ}
use Rattle.curve.proofs.Stride.{unit-first}
use Rattle.shape.specs.declared.Shape.{Shape}
use Rattle.shape.specs.declared.Plan.{Plan}
use Rattle.shape.specs.declared.Refusal.{Refusal}
use Rattle.shape.specs.Shape.{last_basis, cardinal, sixty_fourths, basis_of, spans_of, allowed}
use Rattle.shape.specs.Refusals.{Row, row, judge, basis_row, depth_row, parameter_row, count_row, shape_rows, plan_of, judge_shape}
use Rattle.shape.proofs.Refusals.{judge-append, unsound, first-unsound}
use Rattle.spans.specs.Numbers.{sum_of, number, remainder_of, nought, noughts, exact_in}
use Rattle.pieces.proofs.Even.{nought-times}
use Rattle.outline.specs.declared.Figures.{Figures}
use Rattle.outline.specs.Outline as outline
use Rattle.outline.specs.Outline.{draws}
use Rattle.outline.specs.View.{empty_part, out_of_sight, part_of}
use Rattle.outline.proofs.Draws.{draws-unsound}
use Rattle.outline.proofs.Exactly.{done-figures}
use Rattle.outline.proofs.Held.{held_number}
use Rattle.outline.proofs.Views.{span_part, part-unsound}
use Rattle.tolerance.specs.Reading as choice
use Rattle.tolerance.specs.Reading.{chooses}
use Rattle.tolerance.proofs.Chooses.{chooses-unsound}
use Rattle.asked.specs.declared.Edit.{Edit}
use Rattle.edit.specs.Reading as reading
use Rattle.edit.specs.Reading.{shape_after, edits}
use Rattle.edit.proofs.Rows.{shape-bad}
use Rattle.sequences.specs.Played.{State, Call, played}
use Rattle.sequences.proofs.Played.{played-leaves}
use Rattle.preview.specs.Preview as preview
use Rattle.preview.specs.Preview.{previewing}
use Rattle.record_file.specs.Format.{byte, numbers}
use Rattle.record_file.specs.Rows.{zeros_row, alike_row, record_rows, length_rows, list_rows, record_count, shape_of, reading as reading_file}
use Rattle.promises.specs.Parameters.{with_parameter, but_parameter, half_controls, half_sum, half_number, half_remainder, old_zeros_row, old_alike_row, old_record_rows, old_shape, old_reading}
use Rattle.edit.specs.declared.Change.{Change}

-- ---- at one half

-- the controls 192-fold are 32 times those that document 01 takes sixfold, and so is the sum
half-weighted : (q : Four) (x y : ℤ) → weighted (whole_controls (Cardinal 32) q) x y ≡ pos 32 *ℤ weighted (half_controls q) x y
unfolding weighted weights dot whole_controls half_controls
half-weighted q x y =
    solve (values q x y)
    (weightedᵉ (fourᵉ (num 192 ⊗ p.b) (num 192 ⊗ p.b ⊕ num 32 ⊗ (p.c ⊖ p.a)) (num 192 ⊗ p.c ⊖ num 32 ⊗ (p.d ⊖ p.b)) (num 192 ⊗ p.c)) i h)
    (num 32 ⊗ weightedᵉ (fourᵉ (num 6 ⊗ p.b) (num 6 ⊗ p.b ⊕ p.c ⊖ p.a) (num 6 ⊗ p.c ⊖ p.d ⊕ p.b) (num 6 ⊗ p.c)) i h)
    tt

half-divisor : (k : ℕ) → divisor (Cardinal 32) k ≡ 32 * (6 * 2 ^ (3 * k))
half-divisor k = mul_assoc 32 6 (2 ^ (3 * k))

six-pos : (k : ℕ) → 0 < 6 * 2 ^ (3 * k)
six-pos k = mul-pos (lit< tt) (pow_pos (3 * k))

module _ (pl : Plan) (its : pl.basis ≡ Cardinal 32) (controls : List ℤ) where
  abbrev k : ℕ
  k = pl.depth

  abbrev m : ℕ
  m = pl.spans

  half-sum : (q : ℕ) → sum_of pl controls q ≡ pos 32 *ℤ half_sum k m controls q
  unfolding sum_of half_sum
  half-sum q =
      let g = q / 2 in
      let s = min (g / 2 ^ k) (m - 1) in
      let at = coordinate controls (q % 2) in
      let j = g - s * 2 ^ k in
      ap (λ (b : Basis). sum_at b k (records b s at) j) its
      ∙ ap (λ (r : ℕ). sum_at (Cardinal 32) k (records_from r at) j) (unit-first (Cardinal 32) refl s)
      ∙ half-weighted (records_from s at) (pos j) (pos (2 ^ k))

  over : divisor pl.basis k ≡ 32 * (6 * 2 ^ (3 * k))
  over = ap (λ (b : Basis). divisor b k) its ∙ half-divisor k

  -- each number is document 01's
  pub half-number : (q : ℕ) → number pl controls q ≡ half_number k m controls q
  unfolding number
  half-number q = (λ x. nearest (half-sum q x) (over x)) ∙ nearest-scale 32 (half_sum k m controls q) (6 * 2 ^ (3 * k)) (lit< tt) (six-pos k)

  -- what is left over is the same part of its divisor, 32 times as large as that is
  pub half-remainder : (q : ℕ) → remainder_of pl controls q ≡ pos 32 *ℤ half_remainder k m controls q
  unfolding remainder_of
  half-remainder q = (λ x. remainder (half-sum q x) (over x)) ∙ remainder-scale 32 (half_sum k m controls q) (6 * 2 ^ (3 * k)) (lit< tt) (six-pos k)

  -- so as many are exact
  pub half-exact : (q n : ℕ) → exact_in pl controls q n ≡ noughts (tab (half_remainder k m controls) q n)
  unfolding noughts tab
  half-exact q zero = refl
  half-exact q (suc n) =
      let here = ap nought (half-remainder q) ∙ nought-times 32 (half_remainder k m controls q) (lit< tt) in
      λ x. here x + half-exact (suc q) n x

-- a shape of basis 3 at parameter 0 or 32 is one at one half
half-basis : (s : Shape) → s.basis ≡ cardinal → (s.parameter ≡ 0) ⊎ (s.parameter ≡ 32) → (plan_of s).basis ≡ Cardinal 32
unfolding plan_of basis_of sixty_fourths
half-basis s three half =
    ⊎_elim (λ (none : s.parameter ≡ 0). λ x. basis_of (three x) (none x) s.count) (λ (some : s.parameter ≡ 32). λ x. basis_of (three x) (some x) s.count) half

-- After an accepted drawing of it, each coordinate is document 01's, and so is the figure of exact ones.
pub drawn-at-half : (s : Shape) → s.basis ≡ cardinal → (s.parameter ≡ 0) ⊎ (s.parameter ≡ 32)
    → (controls lent : List ℤ) (fs : Figures) (held : List ℤ) → draws s controls lent ≡ outcome (Ok fs) held
    → ((q : ℕ) → q < 2 * fs.points → get_or held q (pos 0) ≡ half_number s.depth (plan_of s).spans controls q)
    × (fs.exact ≡ noughts (tab (half_remainder s.depth (plan_of s).spans controls) 0 (2 * fs.points)))
unfolding plan_of
drawn-at-half s three half controls lent fs held answered =
    let pl = plan_of s in
    let its = half-basis s three half in
    let figures = done-figures s controls lent fs held answered in
    let many : outline.points pl ≡ fs.points = ap (λ (f : Figures). f.points) figures in (
      (λ q h. held_number s controls lent fs held answered q (omega (arith, many)) ∙ half-number pl its controls q),
      sym (ap (λ (f : Figures). f.exact) figures) ∙ half-exact pl its controls 0 (2 * outline.points pl) ∙ ap (λ (n : ℕ). noughts (tab (half_remainder s.depth pl.spans controls) 0 (2 * n))) many,
    )

-- ---- parameters that make no difference

-- two of a shape that make the same basis, whatever its count, and that row 24 refuses both or neither
pub record Alike (s : Shape) (c d : ℕ) : Type 0 where
  pub basis : (n : ℕ) → basis_of s.basis c n ≡ basis_of s.basis d n
  pub row : parameter_row (with_parameter c s) ≡ parameter_row (with_parameter d s)

-- 0 and 32
pub zero-is-half : (s : Shape) → Alike s 0 32
unfolding basis_of sixty_fourths
zero-is-half s = record { basis = same s.basis; row = ap (λ t. row t 24 0) (tests s.basis) }
  where
    same : (b n : ℕ) → basis_of b 0 n ≡ basis_of b 32 n
    same zero n = refl
    same (suc zero) n = refl
    same (suc (suc zero)) n = refl
    same (suc (suc (suc zero))) n = refl
    same (suc (suc (suc (suc zero)))) n = refl
    same (suc (suc (suc (suc (suc b))))) n = refl

    tests : (n : ℕ) → (eqb n cardinal && ltb most_parameter 0) ≡ (eqb n cardinal && ltb most_parameter 32)
    tests n = refl

-- and any two, where the basis is not 3
pub not-looked-at : (s : Shape) → (s.basis ≡ cardinal → ⊥) → (c d : ℕ) → Alike s c d
unfolding basis_of sixty_fourths
not-looked-at s other c d =
    let test : (e : ℕ) → (eqb s.basis cardinal && ltb most_parameter e) ≡ false = λ e. simp (ne_eqb s.basis cardinal other) in
    record { basis = λ n. same s.basis n other; row = ap (λ t. row t 24 0) (test c ∙ sym (test d)) }
  where
    same : (b n : ℕ) → (b ≡ cardinal → ⊥) → basis_of b c n ≡ basis_of b d n
    same zero n apart = refl
    same (suc zero) n apart = refl
    same (suc (suc zero)) n apart = refl
    same (suc (suc (suc zero))) n apart = absurd (apart refl)
    same (suc (suc (suc (suc zero)))) n apart = refl
    same (suc (suc (suc (suc (suc b))))) n apart = refl

-- what is made of a judged answer is judged alike
judged : {A B : Type 0} (g : A → B) (rows : List Row) (f : Refusal → A) (a : A) → g (judge rows f a) ≡ judge rows (λ r. g (f r)) (g a)
unfolding judge
judged g [] f a = refl
judged {A} {B} g (x ∷ rows) f a = chosen x.holds (f x.refusal) (judge rows f a) ∙ ap (cond x.holds (g (f x.refusal))) (judged g rows f a)
  where
    chosen : (t : Bool) (y z : A) → g (cond t y z) ≡ cond t (g y) (g z)
    chosen true y z = refl
    chosen false y z = refl

-- every call answers alike, and leaves the same in every lent list
module _ (s : Shape) (c d : ℕ) (alike : Alike s c d) where
  abbrev one : Shape
  one = with_parameter c s

  abbrev other : Shape
  other = with_parameter d s

  plans : plan_of one ≡ plan_of other
  unfolding plan_of
  plans = λ x. record { basis = alike.basis s.count x; depth = s.depth; spans = spans_of (alike.basis s.count x) s.count }

  rows : shape_rows one ≡ shape_rows other
  rows = λ x. basis_row s ∷ depth_row s ∷ alike.row x ∷ row (not (allowed (alike.basis s.count x) s.count)) 3 0 ∷ []

  pub draws-alike : (controls lent : List ℤ) → draws one controls lent ≡ draws other controls lent
  unfolding draws
  draws-alike controls lent =
      λ x. judge (rows x ++ outline.plan_rows s.count (plans x) controls lent) (refuses Err lent) (outline.accepts (plans x) controls lent)

  pub cuts-alike : (tolerance most : ℕ) (controls lent : List ℤ) → chooses one tolerance most controls lent ≡ chooses other tolerance most controls lent
  unfolding chooses
  cuts-alike tolerance most controls lent =
      λ x. judge (rows x ++ choice.plan_rows s.count (plans x) tolerance most controls lent) (refuses Err lent) (choice.accepts (plans x) tolerance controls lent)

  pub previews-alike : (controls : List ℤ) (points : List Float) → previewing one controls points ≡ previewing other controls points
  unfolding previewing
  previews-alike controls points =
      λ x. judge (rows x ++ preview.later_rows s (plans x) controls (length points)) (refuses Err points) (preview.accepts (plans x) controls points)

  pub views-alike : (t : ℕ) (lent : List ℤ) → part_of one t lent ≡ part_of other t lent
  unfolding part_of
  views-alike t lent = λ x. judge (rows x) (λ r. empty_part) (cond (out_of_sight (plans x) t lent) empty_part (span_part (plans x) t))

  -- an edit's answer but for the parameter, which it hands on as it came
  pub edits-alike : (e : Edit) (j : ℕ) (controls lent : List ℤ) → but_parameter (edits e one j controls lent) ≡ but_parameter (edits e other j controls lent)
  unfolding edits plan_of
  edits-alike e j controls lent =
      let after = shape_after e s in
      let nexts : plan_of (with_parameter c after) ≡ plan_of (with_parameter d after) = λ x. record { basis = alike.basis after.count x; depth = s.depth; spans = spans_of (alike.basis after.count x) after.count } in
      let f : Refusal → Outcome (Result Change Refusal) (List ℤ × List ℤ) = λ r. outcome (Err r) (controls, lent) in
      let came : Shape → Outcome (Result Change Refusal) (List ℤ × List ℤ) = λ t. reading.accepts e t (plan_of (shape_after e t)) j controls lent in
      judged but_parameter (shape_rows one ++ reading.edit_rows e one (plan_of one) (plan_of (shape_after e one)) j controls lent) f (came one)
      ∙ (λ x. judge (rows x ++ reading.edit_rows e s (plans x) (nexts x) j controls lent) (λ r. but_parameter (f r)) (but_parameter (reading.accepts e s (nexts x) j controls lent)))
      ∙ sym (judged but_parameter (shape_rows other ++ reading.edit_rows e other (plan_of other) (plan_of (shape_after e other)) j controls lent) f (came other))

-- ---- above 64

-- every call that has a shape of basis 3 and a depth that is offered answers 24, whatever else is wrong past it; and the view is empty
module _ (s : Shape) (three : s.basis ≡ cardinal) (shallow : s.depth ≤ deepest) (past : most_parameter < s.parameter) where
  abbrev above : Refusal
  above = record { number = 24; place = 0 }

  refused : judge_shape s ≡ Err above
  refused =
      let no-basis : (basis_row s).holds ≡ false = simp (le-leb 1 s.basis (omega (arith, three)), le-leb s.basis last_basis (omega (arith, three))) in
      first-unsound s above (inr (no-basis, inr (le-ltb deepest s.depth shallow, inl (simp (eq-eqb s.basis cardinal three, lt-ltb most_parameter s.parameter past), refl))))

  pub drawing-refused : (controls lent : List ℤ) → draws s controls lent ≡ refuses Err lent above
  drawing-refused controls lent = draws-unsound s above refused controls lent

  pub cutting-refused : (tolerance most : ℕ) (controls lent : List ℤ) → chooses s tolerance most controls lent ≡ refuses Err lent above
  cutting-refused tolerance most controls lent = chooses-unsound s tolerance most controls lent above refused

  pub edit-refused : (e : Edit) (j : ℕ) (controls lent : List ℤ) → edits e s j controls lent ≡ refuses Err (controls, lent) above
  edit-refused e j controls lent = shape-bad e s j controls lent above refused

  -- the preview too, which basis 3 does not have
  pub preview-refused : (controls : List ℤ) (points : List Float) → previewing s controls points ≡ refuses Err points above
  unfolding previewing
  preview-refused controls points = unsound s above refused (preview.later_rows s (plan_of s) controls (length points)) (refuses Err points) (preview.accepts (plan_of s) controls points)

  pub view-empty : (t : ℕ) (lent : List ℤ) → part_of s t lent ≡ empty_part
  view-empty t lent = part-unsound s above t lent refused

-- ---- handed on

-- after any sequence of edits, refused ones among them, the shape's parameter is the one it came with
pub handed-on : (t : State) (calls : List Call) → (played t calls).shape.parameter ≡ t.shape.parameter
handed-on t calls = played-leaves (λ s. s.parameter) (λ e s. refl) t calls

-- ---- files without parameters

or-none : (t : Bool) → (t || false) ≡ t
or-none true = refl
or-none false = refl

and-all : (t : Bool) → (t && true) ≡ t
and-all true = refl
and-all false = refl

and_none : (t : Bool) → (t && false) ≡ false
and_none true = refl
and_none false = refl

module _ (file : List ℕ) (none : (r : ℕ) → byte file r 2 ≡ 0) where
  zeros-before : (r : ℕ) → zeros_row file r ≡ old_zeros_row file r
  zeros-before r =
      let t = eqb (byte file r 3) 0 in
      let at : eqb (byte file r 2) 0 ≡ true = eq-eqb (byte file r 2) 0 (none r) in
      (λ x. row (not t || (not (at x) && not (eqb (byte file r 0) cardinal))) 14 r) ∙ ap (λ b. row b 14 r) (or-none (not t)) ∙ sym (λ x. row (not (at x && t)) 14 r)

  alike-before : (r : ℕ) → alike_row file r ≡ old_alike_row file r
  alike-before r =
      let t = eqb (byte file r 0) (byte file 0 0) in
      let u = eqb (byte file r 1) (byte file 0 1) in
      let at : eqb (byte file r 2) (byte file 0 2) ≡ true = eq-eqb (byte file r 2) (byte file 0 2) (none r ∙ sym (none 0)) in
      (λ x. row (not (t && (u && at x))) 15 r) ∙ ap (λ b. row (not (t && b)) 15 r) (and-all u)

  records-before : (r n : ℕ) → record_rows file r n ≡ old_record_rows file r n
  unfolding record_rows old_record_rows
  records-before r zero = refl
  records-before r (suc n) = λ x. zeros-before r x ∷ alike-before r x ∷ records-before (suc r) n x

  shape-before : (n : ℕ) → shape_of file n ≡ old_shape file n
  shape-before n = λ x. record { basis = byte file 0 0; depth = byte file 0 1; count = n; parameter = none 0 x }

  -- Any bytes whose third bytes are nought are read as document 01 reads them: the same refusal and place, or the same shape, with parameter 0, and the same controls.
  pub read-as-before : (controls : List ℤ) → reading_file file controls ≡ old_reading file controls
  unfolding reading_file judge
  read-as-before controls =
      let n = record_count file in
      let s = old_shape file n in
      let f = refuses Err controls in
      let a : Outcome (Result Shape Refusal) (List ℤ) = outcome (Ok s) (sets controls 0 (numbers file n)) in
      let lists = list_rows file n controls in
      let later : judge (shape_rows s ++ lists) f a ≡ judge (basis_row s ∷ depth_row s ∷ count_row s ∷ lists) f a =
      ap (λ (t : Bool). judge (basis_row s ∷ depth_row s ∷ row t 24 0 ∷ count_row s ∷ lists) f a) (and_none (eqb s.basis cardinal)) in
      (λ x. judge (length_rows (length file) ++ (records-before 0 n x ++ (shape_rows (shape-before n x) ++ lists))) f (outcome (Ok (shape-before n x)) (sets controls 0 (numbers file n))))
      ∙ judge-append (length_rows (length file)) (old_record_rows file 0 n ++ (shape_rows s ++ lists)) f a
      ∙ ap (judge (length_rows (length file)) f) (judge-append (old_record_rows file 0 n) (shape_rows s ++ lists) f a ∙ ap (judge (old_record_rows file 0 n) f) later ∙ sym (judge-append (old_record_rows file 0 n) (basis_row s ∷ depth_row s ∷ count_row s ∷ lists) f a))
      ∙ sym (judge-append (length_rows (length file)) (old_record_rows file 0 n ++ (basis_row s ∷ depth_row s ∷ count_row s ∷ lists)) f a)
