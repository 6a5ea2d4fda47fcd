-- What the rows of an edit that passed give: a sound new shape, its plan, and controls and points that it can be worked from.
use Rattle.std.specs.Prelude.{Err, Ok, Result}
use mathlib.Core.Path.{◌≡◌, refl, sym, ap, ◌∙◌, subst}
use mathlib.Core.Bool.{Bool, true, false, cond, ◌||◌}
use mathlib.Core.Logic.{⊎_elim}
use mathlib.Core.List.{List, ◌++◌}
use Prim.Native.Nat.{ℕ, zero, suc, ◌+◌, ◌*◌, ◌-◌, ◌/◌, ◌%◌, ◌≤◌, ◌<◌, max}
use native.Mathlib.Nat.{le-max_left, le-max_right, suc-mul}
use native.Mathlib.Omega.{arith}
use borrow.Author.Tests.{not-false, ltb-true, ltb-false, leb-true, leb-false, eqb-true, eqb-false}
use lib.Dec.{ltb, eqb}
use lib.IntN.{ℤ, pos, nat_abs}
use lib.ListN.{get_or, length}
use Rattle.whole.specs.Outcome.{refuses}
use Rattle.curve.specs.declared.Basis.{Basis}
use Rattle.curve.specs.declared.Basis.TheVariants.{Bezier, BSpline, Cardinal, Hermite, Loop}
use Rattle.curve.specs.Published.{most_parameter}
use Rattle.curve.specs.Limits.{beyond, limit, parameter_of}
use Rattle.curve.specs.Span.{coordinate, is_loop, recount}
use Rattle.curve.proofs.Stride.{stride-bounds}
use Rattle.shape.specs.declared.Shape.{Shape}
use Rattle.shape.specs.declared.Plan.{Plan}
use Rattle.shape.specs.declared.Refusal.{Refusal}
use Rattle.shape.specs.Inner.{RunsRound, Good, Lent}
use Rattle.shape.specs.Shape.{basis_of, basis_in, spans_of, records_of, least_records, most_records}
use Rattle.shape.specs.Refusals.{Row, NoRow, judge, judge_shape, plan_of, control_rows, point_rows}
use Rattle.shape.proofs.Tests.{passes, or-false, either}
use Rattle.shape.proofs.Refusals.{judge-first, judge-none, sound, unsound, sound-plan, sound-facts, rows-first, rows_none, rows-bad, rows-fine, none-later, row-fails, lent-facts}
use Rattle.shape.proofs.Spans.{tail-few, spans-records, spans-below, runs-least, round-records, recount-records, recount-spans, recount-round}
use Rattle.spans.specs.Numbers.{per_span}
use Rattle.spans.specs.Filled.{filled}
use Rattle.spans.proofs.Filled.{length-filled, in-filled}
use Rattle.outline.specs.Outline.{points}
use Rattle.spans.proofs.Drawables.{drawable}
use Rattle.outline.proofs.Draws.{all-numbers}
use Rattle.asked.specs.declared.Edit.{Edit}
use Rattle.asked.specs.declared.Edit.TheVariants.{Move, Insert, Remove}
use Rattle.asked.specs.Edits.{count_after, spans_after, offered, in_range, at_the_end, new_outside, choose, control_at, asked, past_fresh, run_of}
use Rattle.asked.specs.Inner.{Askable}
use Rattle.asked.proofs.Runs.{round-first, round-few, open-most}
use Rattle.asked.proofs.Splines.{spline-records}
use Rattle.edit.specs.Inner.{Carriable, Runnable, Editable, Workable, Vetted}
use Rattle.edit.specs.Reading.{shape_after, plan_after, ask_rows, judge_ask, new_rows, room_rows, judge_room, edit_rows, accepts, edits}

-- ---- the new shape

pub records-then : (e : Edit) (b : Basis) (m : ℕ) → offered e b ≡ true → 1 ≤ m → records_of b (spans_after e m) ≡ count_after e (records_of b m)
records-then (Move x y) b m o h = refl
records-then (Insert x y) b m o h = omega (arith, spline-records b o m, spline-records b o (m + 1))
records-then Remove b m o h = omega (arith, spline-records b o m, spline-records b o (m - 1))

spans-then : (e : Edit) (b : Basis) (m : ℕ) → offered e b ≡ true → 1 ≤ m → spans_of b (count_after e (records_of b m)) ≡ spans_after e m
spans-then e b m o h = ap (spans_of b) (sym (records-then e b m o h)) ∙ spans-records b (spans_after e m)

-- more than four records are more than one span
spans-left : (e : Edit) (b : Basis) (m : ℕ) → offered e b ≡ true → 1 ≤ m → at_the_end e (records_of b m) ≡ false → 1 ≤ spans_after e m
spans-left (Move x y) b m o h t = h
spans-left (Insert x y) b m o h t = omega arith
spans-left Remove b m o h t = omega (arith, spline-records b o m, tail-few b, (stride-bounds b).0, leb-false (records_of b m) least_records t)

count-least : (e : Edit) (n : ℕ) → least_records ≤ n → at_the_end e n ≡ false → least_records ≤ count_after e n
count-least (Move x y) n h t = h
count-least (Insert x y) n h t = omega arith
count-least Remove n h t = omega (arith, leb-false n least_records t)

count_most : (e : Edit) (n : ℕ) → n ≤ most_records → at_the_end e n ≡ false → count_after e n ≤ most_records
count_most (Move x y) n h t = h
count_most (Insert x y) n h t = omega (arith, leb-false most_records n t)
count_most Remove n h t = omega arith

pub count-near : (e : Edit) (n : ℕ) → count_after e n ≤ n + 1
count-near (Move x y) n = omega arith
count-near (Insert x y) n = omega arith
count-near Remove n = omega arith

place-most : (e : Edit) (j n : ℕ) → n ≤ most_records → in_range e j n ≡ true → j ≤ most_records
place-most (Move x y) j n h t = omega (arith, ltb-true j n t)
place-most (Insert x y) j n h t = omega (arith, leb-true j n t)
place-most Remove j n h t = omega (arith, ltb-true j n t)

-- no place is past the new count
pub place_after : (e : Edit) (j n : ℕ) → in_range e j n ≡ true → j ≤ count_after e n
place_after (Move x y) j n t = omega (arith, ltb-true j n t)
place_after (Insert x y) j n t = omega (arith, leb-true j n t)
place_after Remove j n t = omega (arith, ltb-true j n t)

-- counts of records and of spans change alike
counts-alike : (e : Edit) (n : ℕ) → spans_after e n ≡ count_after e n
counts-alike (Move x y) n = refl
counts-alike (Insert x y) n = refl
counts-alike Remove n = refl

-- the basis of the new shape: a loop is counted round its new count
basis-after : (e : Edit) (b c n m : ℕ) → RunsRound (basis_of b c n) m → recount (spans_after e m) (basis_of b c n) ≡ basis_of b c (count_after e n)
unfolding basis_of
basis-after e b c n m = go b
  where
    loop : RunsRound (Loop n) m → Loop (spans_after e m) ≡ Loop (count_after e n)
    loop (is, least) = ap Loop (ap (spans_after e) (sym is) ∙ counts-alike e n)

    go : (b : ℕ) → RunsRound (basis_of b c n) m → recount (spans_after e m) (basis_of b c n) ≡ basis_of b c (count_after e n)
    go zero round = loop round
    go (suc zero) round = refl
    go (suc (suc zero)) round = refl
    go (suc (suc (suc zero))) round = refl
    go (suc (suc (suc (suc zero)))) round = refl
    go (suc (suc (suc (suc (suc b))))) round = loop round

-- its parameter stays
parameter-after : (m : ℕ) (b : Basis) → parameter_of (recount m b) ≡ parameter_of b
parameter-after m Bezier = refl
parameter-after m BSpline = refl
parameter-after m (Cardinal c) = refl
parameter-after m Hermite = refl
parameter-after m (Loop n) = refl

module _ (e : Edit) (s : Shape) (p : Plan) (j : ℕ) (ok : Editable e s p j) where
  abbrev good : Good s p
  good = ok.good

  at-end : at_the_end e (records_of p.basis p.spans) ≡ false
  at-end = ap (at_the_end e) good.records ∙ ok.not_at_the_end

  basis-is : recount (spans_after e p.spans) p.basis ≡ basis_in (shape_after e s)
  basis-is =
      let is = good.basis in
      ap (recount (spans_after e p.spans)) is
      ∙ basis-after e s.basis s.parameter s.count p.spans (subst (λ b. RunsRound b p.spans) is good.round)

  pub good-after : Good (shape_after e s) (plan_after e p)
  good-after =
      let b = p.basis in
      let m = p.spans in
      let left = spans-left e b m ok.offered good.spans-least at-end in
      let counted = records-then e b m ok.offered good.spans-least ∙ ap (count_after e) good.records in
      let records = recount-records (spans_after e m) b (spans_after e m) ∙ counted in
      let least = count-least e s.count good.records-least ok.not_at_the_end in
      record {
        basis = basis-is;
        basis-least = good.basis-least;
        basis-most = good.basis-most;
        depth = good.depth;
        offered = subst (λ (n : ℕ). n ≤ most_parameter) (sym (parameter-after (spans_after e m) b)) good.offered;
        depth-most = good.depth-most;
        spans-least = left;
        spans-most = subst (λ n. spans_after e m ≤ n) counted (spans-below b (spans_after e m));
        round = recount-round b (spans_after e m) (subst (λ n. least_records ≤ n) (sym counted) least);
        records = records;
        records-least = least;
        records-most = count_most e s.count good.records-most ok.not_at_the_end;
      }

  pub plan_after_lem : plan_of (shape_after e s) ≡ plan_after e p
  unfolding plan_of
  plan_after_lem =
      let m = p.spans in
      let new = recount (spans_after e m) p.basis in
      let spans : spans_of new (count_after e s.count) ≡ spans_after e m =
      recount-spans (spans_after e m) p.basis (count_after e s.count)
      ∙ ap (λ (n : ℕ). spans_of p.basis (count_after e n)) (sym good.records)
      ∙ spans-then e p.basis m ok.offered good.spans-least in
      ap (λ b. plan b s.depth (spans_of b (count_after e s.count))) (sym basis-is)
      ∙ ap (λ (k : ℕ). plan new k (spans_of new (count_after e s.count))) (sym good.depth)
      ∙ ap (plan new p.depth) spans
    where
      plan : Basis → ℕ → ℕ → Plan
      plan b k m = record { basis = b; depth = k; spans = m }

-- ---- the controls asked for are inside the limits

either_way : (P : ℤ → Type 0) (t : Bool) (x y : ℤ) → (t ≡ true → P x) → (t ≡ false → P y) → P (cond t x y)
either_way P true x y f g = f refl
either_way P false x y f g = g refl

abbrev Small : ℤ → Type 0
Small z = nat_abs z ≤ limit

chosen : (axis : ℕ) (x y : ℤ) → Small x → Small y → Small (choose axis x y)
chosen axis x y h k = either_way Small (eqb axis 0) x y (λ _. h) (λ _. k)

new-small : (x y : ℤ) → (beyond limit x || beyond limit y) ≡ false → Small x × Small y
new-small x y t = let (h, k) = or-false (beyond limit x) (beyond limit y) t in (ltb-false limit (nat_abs x) h, ltb-false limit (nat_abs y) k)

-- each number of the new controls is an old one or the new record's
control-small : (e : Edit) (j n : ℕ) (old : List ℤ) → ((q : ℕ) → q < 2 * n → Small (get_or old q (pos 0))) → new_outside e ≡ false → in_range e j n ≡ true
    → (q : ℕ) → q < 2 * count_after e n → Small (control_at e j old q)
control-small (Move x y) j n old small new range q h =
    let (hx, hy) = new-small x y new in
    either_way Small (eqb (q / 2) j) (choose (q % 2) x y) (get_or old q (pos 0)) (λ _. chosen (q % 2) x y hx hy) (λ _. small q h)
control-small (Insert x y) j n old small new range q h =
    let (hx, hy) = new-small x y new in
    let last = leb-true j n range in
    either_way Small (ltb (q / 2) j) (get_or old q (pos 0)) (cond (eqb (q / 2) j) (choose (q % 2) x y) (get_or old (q - 2) (pos 0)))
    (λ t. let before = ltb-true (q / 2) j t in small q (omega arith))
    (λ f.
    let from = ltb-false (q / 2) j f in
    either_way Small (eqb (q / 2) j) (choose (q % 2) x y) (get_or old (q - 2) (pos 0)) (λ _. chosen (q % 2) x y hx hy) (λ g. let past : j < q / 2 = ⊎_elim (λ (l : j < q / 2). l) (λ (l : q / 2 ≤ j). absurd (eqb-false (q / 2) j g (omega arith))) (either j (q / 2)) in small (q - 2) (omega arith)))
control-small Remove j n old small new range q h =
    let last = ltb-true j n range in
    either_way Small (ltb (q / 2) j) (get_or old q (pos 0)) (get_or old (q + 2) (pos 0)) (λ t. small q (omega arith)) (λ t. small (q + 2) (omega arith))

-- every number of records inside the limits
number_small : (n : ℕ) (controls : List ℤ) (k len : ℕ) → Lent n controls k len → (q : ℕ) → q < 2 * n → Small (get_or controls q (pos 0))
unfolding coordinate
number_small n controls k len lent q h = ⊎_elim (λ t. even (eqb-true (q % 2) 0 t)) (λ t. odd (eqb-false (q % 2) 0 t)) (passes (eqb (q % 2) 0))
  where
    even : q % 2 ≡ 0 → Small (get_or controls q (pos 0))
    even t = let e : 2 * (q / 2) + 0 ≡ q = omega arith in subst (λ (i : ℕ). Small (get_or controls i (pos 0))) e (lent.x (q / 2) (omega arith))

    odd : (q % 2 ≡ 0 → ⊥) → Small (get_or controls q (pos 0))
    odd t = let e : 2 * (q / 2) + 1 ≡ q = ⊎_elim (λ (g : q % 2 < 1). absurd (t (omega arith))) (λ (g : 1 ≤ q % 2). omega arith) (either (q % 2) 1) in subst (λ (i : ℕ). Small (get_or controls i (pos 0))) e (lent.y (q / 2) (omega arith))

-- the list holds the records that an edit reads and writes
askable-by : (e : Edit) (j n len : ℕ) → in_range e j n ≡ true → 2 * max n (count_after e n) ≤ len → Askable e j n len
askable-by (Move x y) j n len range room = (ltb-true j n range, omega (arith, room, le-max_left n n))
askable-by (Insert x y) j n len range room = (leb-true j n range, omega (arith, room, le-max_right n (n + 1)))
askable-by Remove j n len range room = (ltb-true j n range, omega (arith, room, le-max_left n (n - 1)))

-- each carried span has its neighbour in the list
carriable-by : (e : Edit) (p : Plan) (j w len : ℕ) → 1 ≤ p.spans → 1 ≤ spans_after e p.spans → p.spans * w + 2 ≤ len → spans_after e p.spans * w + 2 ≤ len
    → Carriable e (past_fresh e (plan_after e p) j) (spans_after e p.spans) w len
carriable-by (Move x y) p j w len some left old new = tt
carriable-by (Insert x y) p j w len some left old new = (omega arith, new)
carriable-by Remove p j w len some left old new =
    let back : suc (p.spans - 1) ≡ p.spans = omega arith in
    omega (arith, suc-mul (p.spans - 1) w, ap (λ (n : ℕ). n * w) back)

-- ---- rows 7, 8, 9

module _ (e : Edit) (s : Shape) (p : Plan) (j : ℕ) (ok : Editable e s p j) (controls : List ℤ) (len : ℕ)
    (fine : judge_room e s.count controls (max (points p) (points (plan_after e p))) len ≡ Ok tt) where
  abbrev n : ℕ
  n = s.count

  abbrev q : Plan
  q = plan_after e p

  abbrev most : ℕ
  most = max (points p) (points q)

  none : NoRow (room_rows e n controls most len)
  unfolding judge_room
  none = rows_none (room_rows e n controls most len) tt fine

  room : 2 * max n (count_after e n) ≤ length controls
  room = ltb-false (length controls) (2 * max n (count_after e n)) (row-fails 7 (room_rows e n controls most len) none)

  pub new-room : 2 * count_after e n ≤ length controls
  new-room = omega (arith, room, le-max_right n (count_after e n))

  -- the old records, by the shared rows
  old : Lent n controls 0 len
  old = lent-facts n controls 0 len (omega (arith, room, le-max_left n (count_after e n))) (row-fails 8 (room_rows e n controls most len) none) (omega arith)

  -- and row 8 for the new one, which comes after theirs
  new-inside : new_outside e ≡ false
  new-inside =
      let later = new_rows e n ++ point_rows most len in row-fails 8 later (none-later (control_rows (max n (count_after e n)) n controls) later none)

  -- the new ones
  pub new-lent : Lent (count_after e n) (asked e j controls (count_after e n)) 0 len
  unfolding asked coordinate
  new-lent =
      let after = count_after e n in
      let f = control_at e j controls in
      let at : (i : ℕ) → i < 2 * after → Small (get_or (filled f 0 (2 * after) controls) i (pos 0)) =
      λ i h. subst Small (sym (in-filled f 0 (2 * after) controls i (omega arith) (omega arith) (omega (arith, new-room)))) (control-small e j n controls (number_small n controls 0 len old) new-inside ok.in_range i h) in
      record {
        room = omega (arith, new-room, length-filled f 0 (2 * after) controls);
        x = λ r h. at (2 * r + 0) (omega arith);
        y = λ r h. at (2 * r + 1) (omega arith);
        points-room = omega arith;
      }

  points-fit : 2 * max (points p) (points q) ≤ len
  points-fit = ltb-false len (2 * max (points p) (points q)) (row-fails 9 (room_rows e n controls most len) none)

  old-fits : p.spans * per_span p.depth + 2 ≤ len
  old-fits = omega (arith, all-numbers p.depth p.spans, points-fit, le-max_left (points p) (points q))

  new-fits : spans_after e p.spans * per_span p.depth + 2 ≤ len
  new-fits = omega (arith, all-numbers p.depth (spans_after e p.spans), points-fit, le-max_right (points p) (points q))

  -- the run is among the new spans
  runnable-by : Runnable (run_of e q j) q
  runnable-by =
      let after = good-after e s p j ok in
      let in-loop : is_loop q.basis ≡ true → ((run_of e q j).first < q.spans) × ((run_of e q j).count ≤ q.spans) =
      λ loop.
      let least = runs-least q.basis q.spans after.round loop in
      (round-first e q j loop least (omega (arith, place_after e j n ok.in_range, after.records, round-records q.basis q.spans loop)), round-few e q j loop least) in
      ⊎_elim (λ loop. subst (λ t. cond t (((run_of e q j).first < q.spans) × ((run_of e q j).count ≤ q.spans)) ((run_of e q j).first + (run_of e q j).count ≤ q.spans)) (sym loop) (in-loop loop))
      (λ ends. subst (λ t. cond t (((run_of e q j).first < q.spans) × ((run_of e q j).count ≤ q.spans)) ((run_of e q j).first + (run_of e q j).count ≤ q.spans)) (sym ends) (open-most e q j ends))
      (passes (is_loop q.basis))

  pub workable : Workable e s q j controls len
  workable =
      record {
        good = good-after e s p j ok;
        least = omega (arith, ok.good.records-least);
        most = ok.good.records-most;
        place = place-most e j n ok.good.records-most ok.in_range;
        askable = askable-by e j n (length controls) ok.in_range room;
        drawable = drawable (shape_after e s) q (good-after e s p j ok) (asked e j controls (count_after e n)) 0 len new-lent;
        runnable = runnable-by;
        points-room = new-fits;
        carriable = carriable-by e p j (per_span p.depth) len ok.good.spans-least (good-after e s p j ok).spans-least old-fits new-fits;
      }

-- ---- the rows of a call, check by check

pub editable : (e : Edit) (s : Shape) (p : Plan) (j : ℕ) → Good s p → judge_ask e p.basis j s.count ≡ Ok tt → Editable e s p j
unfolding judge_ask
editable e s p j good t =
    let rows = ask_rows e p.basis j s.count in
    let none = rows_none rows tt t in
    record {
      good = good;
      offered = not-false (offered e p.basis) (row-fails 4 rows none);
      in_range = not-false (in_range e j s.count) (row-fails 5 rows none);
      not_at_the_end = row-fails 6 rows none;
    }

module _ (e : Edit) (s : Shape) (j : ℕ) (controls lent : List ℤ) where
  abbrev next : Plan
  next = plan_of (shape_after e s)

  abbrev room_of : Plan → Plan → List Row
  room_of p q = room_rows e s.count controls (max (points p) (points q)) (length lent)

  -- rows 1, 2, 24, 3
  pub shape-bad : (r : Refusal) → judge_shape s ≡ Err r → edits e s j controls lent ≡ refuses Err (controls, lent) r
  unfolding edits
  shape-bad r t = unsound s r t (edit_rows e s (plan_of s) next j controls lent) (refuses Err (controls, lent)) (accepts e s next j controls lent)

  module _ (p : Plan) (good : judge_shape s ≡ Ok p) where
    abbrev asks : List Row
    asks = ask_rows e p.basis j s.count

    from-ask : edits e s j controls lent ≡ judge (asks ++ room_of p next) (refuses Err (controls, lent)) (accepts e s next j controls lent)
    unfolding edits
    from-ask =
        sound s p good (edit_rows e s (plan_of s) next j controls lent) (refuses Err (controls, lent)) (accepts e s next j controls lent)
        ∙ ap (λ r. judge (edit_rows e s r next j controls lent) (refuses Err (controls, lent)) (accepts e s next j controls lent)) (sym (sound-plan s p good))

    -- rows 4, 5, 6
    pub ask-bad : (r : Refusal) → judge_ask e p.basis j s.count ≡ Err r → edits e s j controls lent ≡ refuses Err (controls, lent) r
    unfolding judge_ask
    ask-bad r t = from-ask ∙ rows-bad asks tt r t (room_of p next) (refuses Err (controls, lent)) (accepts e s next j controls lent)

    module _ (fine : judge_ask e p.basis j s.count ≡ Ok tt) where
      pub may-edit : Editable e s p j
      may-edit = editable e s p j (sound-facts s p good) fine

      from-room : edits e s j controls lent ≡ judge (room_of p (plan_after e p)) (refuses Err (controls, lent)) (accepts e s (plan_after e p) j controls lent)
      unfolding judge_ask
      from-room =
          from-ask
          ∙ rows-fine asks tt fine (room_of p next) (refuses Err (controls, lent)) (accepts e s next j controls lent)
          ∙ ap (λ q. judge (room_of p q) (refuses Err (controls, lent)) (accepts e s q j controls lent)) (plan_after_lem e s p j may-edit)

      abbrev Found : Result (Unit {0}) Refusal → Type 0
      Found l = judge_room e s.count controls (max (points p) (points (plan_after e p))) (length lent) ≡ l

      -- rows 7, 8, 9
      pub room-bad : (r : Refusal) → Found (Err r) → edits e s j controls lent ≡ refuses Err (controls, lent) r
      unfolding judge_room
      room-bad r t = from-room ∙ judge-first (room_of p (plan_after e p)) (refuses Err (controls, lent)) _ r (rows-first (room_of p (plan_after e p)) tt r t)

      pub room-fine : Found (Ok tt) → Vetted e s j controls lent (Ok (plan_after e p))
      unfolding judge_room
      room-fine t = (
        workable e s p j may-edit controls (length lent) t,
        from-room ∙ judge-none (room_of p (plan_after e p)) (refuses Err (controls, lent)) _ (rows_none (room_of p (plan_after e p)) tt t),
      )
