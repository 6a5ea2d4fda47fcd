-- A table of rows is read from the top: either some row holds first, and its refusal is the answer, or none holds. What each call's checks say follows, since an answer
-- that refuses is never one that accepts.
use Rattle.std.specs.Prelude.{Err, Ok, Result}
use mathlib.Core.Path.{◌≡◌, refl, sym, ap, ◌∙◌, subst}
use mathlib.Core.Bool.{Bool, true, false, cond, ◌&&◌}
use mathlib.Core.List.{List, [], ◌∷◌, ◌++◌}
use mathlib.Core.Logic.{◌⊎◌, inl, inr, ⊎_elim}
use Prim.Native.Nat.{ℕ, zero, suc, ◌+◌, ◌*◌, ◌≤◌, ◌<◌}
use native.Mathlib.Nat.{add-zero, le_trans}
use native.Mathlib.Omega.{arith}
use borrow.Author.Tests.{leb-true, ltb-false, not-false, le-ltb, ne_eqb}
use lib.Dec.{leb, ltb, eqb, lit≤, lit<}
use lib.IntN.{ℤ, nat_abs}
use lib.ListN.{length}
use Rattle.curve.specs.Published.{most_parameter}
use Rattle.curve.specs.Limits.{Inside, beyond, limit, parameter_of}
use Rattle.curve.specs.Span.{coordinate, first_record, records_from, record_at, records}
use Rattle.curve.specs.Ways.{deepest}
use Rattle.curve.specs.declared.Basis.{Basis}
use Rattle.shape.specs.declared.Shape.{Shape}
use Rattle.shape.specs.declared.Plan.{Plan}
use Rattle.shape.specs.declared.Refusal.{Refusal}
use Rattle.shape.specs.Depth.{shape_at}
use Rattle.shape.specs.Shape.{last_basis, cardinal, sixty_fourths, basis_of, basis_in, spans_of, allowed, least_records}
use Rattle.shape.specs.Refusals.{Row, judge, First, NoRow, shape_rows, plan_of, judge_shape, outside, first_outside, limits_row, control_rows, judge_controls, list_rows, judge_lists}
use Rattle.shape.specs.Inner.{RunsRound, Good, Lent}
use Rattle.shape.proofs.Tests.{passes, and-true, or-false}
use Rattle.shape.proofs.Spans.{allowed-facts, spans-records, spans-least, spans-at-most, loop-runs, has-record}
use Rattle.shape.proofs.Seek.{seek-fails}

-- ---- any table

judge-here {ℓ} : {A : Type ℓ} (x : Row) (rows : List Row) (f : Refusal → A) (a : A) → x.holds ≡ true → judge (x ∷ rows) f a ≡ f x.refusal
unfolding judge
judge-here x rows f a e = rw e

judge-next {ℓ} : {A : Type ℓ} (x : Row) (rows : List Row) (f : Refusal → A) (a : A) → x.holds ≡ false → judge (x ∷ rows) f a ≡ judge rows f a
unfolding judge
judge-next x rows f a e = rw e

pub judge-first {ℓ} : {A : Type ℓ} (rows : List Row) (f : Refusal → A) (a : A) (r : Refusal) → First rows r → judge rows f a ≡ f r
judge-first [] f a r h = absurd h
judge-first (x ∷ rows) f a r (inl h) = judge-here x rows f a h.0 ∙ ap f h.1
judge-first (x ∷ rows) f a r (inr h) = judge-next x rows f a h.0 ∙ judge-first rows f a r h.1

pub judge-none {ℓ} : {A : Type ℓ} (rows : List Row) (f : Refusal → A) (a : A) → NoRow rows → judge rows f a ≡ a
unfolding judge
judge-none [] f a h = refl
judge-none (x ∷ rows) f a h = judge-next x rows f a h.0 ∙ judge-none rows f a h.1

-- a longer table: its first part decides, or the rest does
pub judge-append {ℓ} : {A : Type ℓ} (rows rest : List Row) (f : Refusal → A) (a : A) → judge (rows ++ rest) f a ≡ judge rows f (judge rest f a)
unfolding judge
judge-append [] rest f a = refl
judge-append (x ∷ rows) rest f a = ap (cond x.holds (f x.refusal)) (judge-append rows rest f a)

-- no row of a longer table holds exactly when none of its first part does, and none of the rest
pub none_both : (rows rest : List Row) → NoRow rows → NoRow rest → NoRow (rows ++ rest)
none_both [] rest h k = k
none_both (x ∷ rows) rest h k = (h.0, none_both rows rest h.1 k)

pub none-earlier : (rows rest : List Row) → NoRow (rows ++ rest) → NoRow rows
none-earlier [] rest h = tt
none-earlier (x ∷ rows) rest h = (h.0, none-earlier rows rest h.1)

pub none-later : (rows rest : List Row) → NoRow (rows ++ rest) → NoRow rest
none-later [] rest h = h
none-later (x ∷ rows) rest h = none-later rows rest h.1

-- the test of the first row with a number: readers name a row by its number in document 01, wherever it stands in the table
abbrev pub test_of : ℕ → List Row → Bool
test_of n [] = false
test_of n (x ∷ rows) = cond (eqb x.refusal.number n) x.holds (test_of n rows)

pub row-fails : (n : ℕ) (rows : List Row) → NoRow rows → test_of n rows ≡ false
row-fails n [] h = refl
row-fails n (x ∷ rows) h = ⊎_elim (λ t. rw t h.0) (λ f. rw f (row-fails n rows h.1)) (passes (eqb x.refusal.number n))

-- the first row of a longer table that holds: in its first part, or where none of that holds, in the rest
pub first_either : (rows rest : List Row) (r : Refusal) → First (rows ++ rest) r → First rows r ⊎ (NoRow rows × First rest r)
first_either [] rest r f = inr (tt, f)
first_either (x ∷ rows) rest r (inl f) = inl (inl f)
first_either (x ∷ rows) rest r (inr f) =
    ⊎_elim (λ (g : First rows r). inl (inr (f.0, g))) (λ (g : NoRow rows × First rest r). inr ((f.0, g.0), g.1)) (first_either rows rest r f.1)

-- what every row of a table would answer
abbrev pub Each : (Refusal → Type 0) → List Row → Type 0
Each P [] = Unit {0}
Each P (x ∷ rows) = P x.refusal × Each P rows

pub each_both : (P : Refusal → Type 0) (rows rest : List Row) → Each P rows → Each P rest → Each P (rows ++ rest)
each_both P [] rest h k = k
each_both P (x ∷ rows) rest h k = (h.0, each_both P rows rest h.1 k)

-- the first that holds answers so too
pub each_first : (P : Refusal → Type 0) (rows : List Row) → Each P rows → (r : Refusal) → First rows r → P r
each_first P [] h r f = absurd f
each_first P (x ∷ rows) h r (inl f) = subst P f.1 h.0
each_first P (x ∷ rows) h r (inr f) = each_first P rows h.1 r f.1

pub verdict : (rows : List Row) → ((r : Refusal) × First rows r) ⊎ NoRow rows
verdict [] = inr tt
verdict (x ∷ rows) =
    ⊎_elim (λ e. inl (x.refusal, inl (e, refl)))
    (λ e. ⊎_elim (λ (v : (r : Refusal) × First rows r). inl (v.0, inr (e, v.1))) (λ h. inr (e, h)) (verdict rows))
    (passes x.holds)

-- an answer that refuses is given exactly when its row is the first that holds (the other way is `judge-first`)
pub only-first {ℓ} :
    {A : Type ℓ} (rows : List Row) (f : Refusal → A) (a : A)
    → ((q r : Refusal) → f q ≡ f r → q ≡ r)
    → ((q : Refusal) → f q ≡ a → ⊥)
    → (r : Refusal)
    → judge rows f a ≡ f r
    → First rows r
only-first rows f a same apart r e =
    ⊎_elim (λ (v : (r : Refusal) × First rows r). subst (λ q. First rows q) (same v.0 r (sym (judge-first rows f a v.0 v.1) ∙ e)) v.1)
    (λ h. absurd (apart r (sym e ∙ judge-none rows f a h)))
    (verdict rows)

-- an answer that does not refuse is given exactly when no row holds (the other way is `judge-none`)
pub only_none {ℓ} : {A : Type ℓ} (rows : List Row) (f : Refusal → A) (a b : A) → ((q : Refusal) → f q ≡ b → ⊥) → judge rows f a ≡ b → NoRow rows
only_none rows f a b apart e =
    ⊎_elim (λ (v : (r : Refusal) × First rows r). absurd (apart v.0 (sym (judge-first rows f a v.0 v.1) ∙ e))) (λ h. h) (verdict rows)

-- ---- a table that is judged to a Result

-- an answer is refused or accepted, never both, and tells which refusal and which value
module _ {T : Type 0} where
  pub err-same : (q r : Refusal) → ◌≡◌ {A = Result T Refusal} (Err q) (Err r) → q ≡ r
  err-same q r e = cc

  pub ok-same : (v w : T) → ◌≡◌ {A = Result T Refusal} (Ok v) (Ok w) → v ≡ w
  ok-same v w e = cc

  pub err-apart : (v : T) (q : Refusal) → ◌≡◌ {A = Result T Refusal} (Err q) (Ok v) → ⊥
  err-apart v q e = let z : ◌≡◌ {A = ℕ} 0 1 = cc in omega arith

-- rows that are judged so, where the value is accepted if none holds, and a call whose table starts with them
module _ {T : Type 0} (rows : List Row) (v : T) where
  abbrev judged : Result T Refusal
  judged = judge rows Err (Ok v)

  pub rows-first : (r : Refusal) → judged ≡ Err r → First rows r
  rows-first r e = only-first rows Err (Ok v) err-same (err-apart v) r e

  pub rows_none : {w : T} → judged ≡ Ok w → NoRow rows
  rows_none {w = w} e = only_none rows Err (Ok v) (Ok w) (err-apart w) e

  pub rows-value : {w : T} → judged ≡ Ok w → w ≡ v
  rows-value {w = w} e = ok-same w v (sym e ∙ judge-none rows Err (Ok v) (rows_none e))

  pub rows-bad {ℓ} : {A : Type ℓ} (r : Refusal) → judged ≡ Err r → (rest : List Row) (f : Refusal → A) (a : A) → judge (rows ++ rest) f a ≡ f r
  rows-bad r e rest f a = judge-append rows rest f a ∙ judge-first rows f (judge rest f a) r (rows-first r e)

  pub rows-fine {ℓ} : {A : Type ℓ} {w : T} → judged ≡ Ok w → (rest : List Row) (f : Refusal → A) (a : A) → judge (rows ++ rest) f a ≡ judge rest f a
  rows-fine e rest f a = judge-append rows rest f a ∙ judge-none rows f (judge rest f a) (rows_none e)

-- ---- rows 1, 2, 24, 3

pub unsound-first : (s : Shape) (r : Refusal) → judge_shape s ≡ Err r → First (shape_rows s) r
unfolding judge_shape
unsound-first s r e = rows-first (shape_rows s) (plan_of s) r e

pub first-unsound : (s : Shape) (r : Refusal) → First (shape_rows s) r → judge_shape s ≡ Err r
unfolding judge_shape
first-unsound s r h = judge-first (shape_rows s) Err (Ok (plan_of s)) r h

pub sound_none : (s : Shape) (p : Plan) → judge_shape s ≡ Ok p → NoRow (shape_rows s)
unfolding judge_shape
sound_none s p e = rows_none (shape_rows s) (plan_of s) e

pub none-sound : (s : Shape) → NoRow (shape_rows s) → judge_shape s ≡ Ok (plan_of s)
unfolding judge_shape
none-sound s h = judge-none (shape_rows s) Err (Ok (plan_of s)) h

pub sound-plan : (s : Shape) (p : Plan) → judge_shape s ≡ Ok p → p ≡ plan_of s
unfolding judge_shape
sound-plan s p e = rows-value (shape_rows s) (plan_of s) e

-- a sound shape has the spans of its plan
pub good-spans : (s : Shape) (p : Plan) → Good s p → p.spans ≡ (plan_of s).spans
unfolding plan_of
good-spans s p good = sym (spans-records p.basis p.spans) ∙ (λ i. spans_of (good.basis i) (good.records i))

-- a call whose table starts with these rows
pub unsound {ℓ} : {A : Type ℓ} (s : Shape) (r : Refusal) → judge_shape s ≡ Err r → (rest : List Row) (f : Refusal → A) (a : A) → judge (shape_rows s ++ rest) f a ≡ f r
unfolding judge_shape
unsound s r e rest f a = rows-bad (shape_rows s) (plan_of s) r e rest f a

pub sound {ℓ} : {A : Type ℓ} (s : Shape) (p : Plan) → judge_shape s ≡ Ok p → (rest : List Row) (f : Refusal → A) (a : A) → judge (shape_rows s ++ rest) f a ≡ judge rest f a
unfolding judge_shape
sound s p e rest f a = rows-fine (shape_rows s) (plan_of s) e rest f a

-- a basis whose row 24 fails has a parameter that is offered
offered : (b c n : ℕ) → (eqb b cardinal && ltb most_parameter c) ≡ false → parameter_of (basis_of b c n) ≤ most_parameter
unfolding basis_of sixty_fourths
offered zero c n e = lit≤ tt
offered (suc zero) c n e = lit≤ tt
offered (suc (suc zero)) c n e = lit≤ tt
offered (suc (suc (suc zero))) zero n e = lit≤ tt
offered (suc (suc (suc zero))) (suc c) n e = ltb-false most_parameter (suc c) e
offered (suc (suc (suc (suc zero)))) c n e = lit≤ tt
offered (suc (suc (suc (suc (suc b))))) c n e = lit≤ tt

-- and the other way round
pub offered-row : (b c n : ℕ) → parameter_of (basis_of b c n) ≤ most_parameter → (eqb b cardinal && ltb most_parameter c) ≡ false
unfolding basis_of sixty_fourths
offered-row zero c n h = refl
offered-row (suc zero) c n h = refl
offered-row (suc (suc zero)) c n h = refl
offered-row (suc (suc (suc zero))) zero n h = refl
offered-row (suc (suc (suc zero))) (suc c) n h = le-ltb most_parameter (suc c) h
offered-row (suc (suc (suc (suc b)))) c n h = simp (ne_eqb (suc (suc (suc (suc b)))) cardinal (λ e. omega arith))

-- a loop of a shape is counted round the shape's own count
pub runs-round : (b c n : ℕ) → least_records ≤ n → RunsRound (basis_of b c n) (spans_of (basis_of b c n) n)
unfolding basis_of
runs-round zero c n h = loop-runs n h
runs-round (suc zero) c n h = tt
runs-round (suc (suc zero)) c n h = tt
runs-round (suc (suc (suc zero))) c n h = tt
runs-round (suc (suc (suc (suc zero)))) c n h = tt
runs-round (suc (suc (suc (suc (suc b))))) c n h = loop-runs n h

pub good-plan : (s : Shape) → NoRow (shape_rows s) → Good s (plan_of s)
unfolding plan_of
good-plan s h =
    let b = basis_in s in
    let (least, most) = and-true (leb 1 s.basis) (leb s.basis last_basis) (not-false (leb 1 s.basis && leb s.basis last_basis) (row-fails 1 (shape_rows s) h)) in
    let (records-least, records-most, records) = allowed-facts b s.count (not-false (allowed b s.count) (row-fails 3 (shape_rows s) h)) in
    record {
      basis = refl;
      basis-least = leb-true 1 s.basis least;
      basis-most = leb-true s.basis last_basis most;
      depth = refl;
      depth-most = ltb-false deepest s.depth (row-fails 2 (shape_rows s) h);
      offered = offered s.basis s.parameter s.count (row-fails 24 (shape_rows s) h);
      spans-least = spans-least b s.count records-least;
      spans-most = spans-at-most b s.count;
      round = runs-round s.basis s.parameter s.count records-least;
      records = records;
      records-least = records-least;
      records-most = records-most;
    }

pub sound-facts : (s : Shape) (p : Plan) → judge_shape s ≡ Ok p → Good s p
sound-facts s p e = subst (λ q. Good s q) (sym (sound-plan s p e)) (good-plan s (sound_none s p e))

-- no row holds of the same shape at another depth that is offered
pub none-at : (s : Shape) (k : ℕ) → k ≤ deepest → NoRow (shape_rows s) → NoRow (shape_rows (shape_at k s))
none-at s k h none = let rows = shape_rows s in (row-fails 1 rows none, (le-ltb deepest k h, (row-fails 24 rows none, (row-fails 3 rows none, tt))))

-- every span of a sound shape has its four records
pub good-records : (s : Shape) (p : Plan) → Good s p → (t i : ℕ) → t < p.spans → i < 4 → record_at p.basis (first_record p.basis t + i) < s.count
good-records s p g t i h few = subst (λ n. record_at p.basis (first_record p.basis t + i) < n) g.records (has-record p.basis p.spans t i g.round h few)

-- ---- rows 7, 8, 9

-- ---- the controls, in a call whose table goes on from them

module _ (n : ℕ) (controls : List ℤ) where
  pub controls-bad {ℓ} : {A : Type ℓ} (r : Refusal) → judge_controls n controls ≡ Err r → (rest : List Row) (f : Refusal → A) (a : A) → judge (control_rows n n controls ++ rest) f a ≡ f r
  unfolding judge_controls
  controls-bad r e rest f a = rows-bad (control_rows n n controls) tt r e rest f a

  pub controls-fine {ℓ} : {A : Type ℓ} → judge_controls n controls ≡ Ok tt → (rest : List Row) (f : Refusal → A) (a : A) → judge (control_rows n n controls ++ rest) f a ≡ judge rest f a
  unfolding judge_controls
  controls-fine e rest f a = rows-fine (control_rows n n controls) tt e rest f a

  pub controls-none : judge_controls n controls ≡ Ok tt → NoRow (control_rows n n controls)
  unfolding judge_controls
  controls-none e = rows_none (control_rows n n controls) tt e

module _ (n : ℕ) (controls : List ℤ) (points len : ℕ) where
  pub bad-first : (r : Refusal) → judge_lists n controls points len ≡ Err r → First (list_rows n controls points len) r
  unfolding judge_lists
  bad-first r e = rows-first (list_rows n controls points len) tt r e

  pub first-bad : (r : Refusal) → First (list_rows n controls points len) r → judge_lists n controls points len ≡ Err r
  unfolding judge_lists
  first-bad r h = judge-first (list_rows n controls points len) Err (Ok tt) r h

  pub fine-none : judge_lists n controls points len ≡ Ok tt → NoRow (list_rows n controls points len)
  unfolding judge_lists
  fine-none e = rows_none (list_rows n controls points len) tt e

  pub none-fine : NoRow (list_rows n controls points len) → judge_lists n controls points len ≡ Ok tt
  unfolding judge_lists
  none-fine h = judge-none (list_rows n controls points len) Err (Ok tt) h

  -- room for n records, none of them outside, and room for the points
  pub lent-facts : 2 * n ≤ length controls → (limits_row n controls).holds ≡ false → 2 * points ≤ len → Lent n controls points len
  unfolding outside
  lent-facts room inside points-room =
      let all : n ≤ first_outside controls n = ltb-false (first_outside controls n) n inside in
      let both : (r : ℕ) → r < n → (beyond limit (coordinate controls 0 r) ≡ false) × (beyond limit (coordinate controls 1 r) ≡ false) =
      λ r l. or-false (beyond limit (coordinate controls 0 r)) (beyond limit (coordinate controls 1 r)) (seek-fails (outside controls) 0 n r (omega arith) (le_trans l all)) in
      record {
        room = room;
        x = λ r l. ltb-false limit (nat_abs (coordinate controls 0 r)) (both r l).0;
        y = λ r l. ltb-false limit (nat_abs (coordinate controls 1 r)) (both r l).1;
        points-room = points-room;
      }

  pub none-facts : NoRow (list_rows n controls points len) → Lent n controls points len
  none-facts none =
      let rows = list_rows n controls points len in
      lent-facts (ltb-false (length controls) (2 * n) (row-fails 7 rows none)) (row-fails 8 rows none) (ltb-false len (2 * points) (row-fails 9 rows none))

  -- the controls' rows alone, where the points are known to have room
  pub controls-facts : NoRow (control_rows n n controls) → 2 * points ≤ len → Lent n controls points len
  controls-facts none points-room =
      let rows = control_rows n n controls in
      lent-facts (ltb-false (length controls) (2 * n) (row-fails 7 rows none)) (row-fails 8 rows none) points-room

  pub fine-facts : judge_lists n controls points len ≡ Ok tt → Lent n controls points len
  fine-facts e = none-facts (fine-none e)

-- the four records of a span that are among the n are inside the limits, on either axis
pub lent-inside : (n : ℕ) (controls : List ℤ) (points len : ℕ) → Lent n controls points len → (b : Basis) (s axis : ℕ) → axis < 2
    → ((i : ℕ) → i < 4 → record_at b (first_record b s + i) < n)
    → Inside limit (records b s (coordinate controls axis))
unfolding records_from
lent-inside n controls points len h b s axis two among =
    let f = first_record b s in
    let first : record_at b f < n = subst (λ (r : ℕ). record_at b r < n) (add-zero f) (among 0 (lit< tt)) in
    record {
      a = near axis (record_at b f) two first;
      b = near axis (record_at b (f + 1)) two (among 1 (lit< tt));
      c = near axis (record_at b (f + 2)) two (among 2 (lit< tt));
      d = near axis (record_at b (f + 3)) two (among 3 (lit< tt));
    }
  where
    near : (axis r : ℕ) → axis < 2 → r < n → nat_abs (coordinate controls axis r) ≤ limit
    near zero r two l = h.x r l
    near (suc zero) r two l = h.y r l
    near (suc (suc axis)) r two l = absurd (omega arith)
