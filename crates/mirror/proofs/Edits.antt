-- An edit of a mirrored outline, with the new record mirrored, leaves the mirrored controls and points and answers the same, refusals too.
use Rattle.std.specs.Prelude.{Err, Ok}
use mathlib.Core.Path.{◌≡◌, refl, sym, ap, ◌∙◌}
use mathlib.Core.Bool.{Bool, true, false, cond, ◌||◌}
use mathlib.Core.Logic.{⊎_elim}
use mathlib.Core.List.{List, ◌∷◌, ◌++◌}
use Prim.Native.Nat.{ℕ, ◌+◌, ◌*◌, ◌-◌, ◌/◌, ◌%◌, ◌≤◌, ◌<◌, min, max}
use native.Mathlib.Nat.{div-lt_iff_lt-mul, mul-le-mul_right, one-mul}
use native.Mathlib.Omega.{arith}
use borrow.Author.Tests.{ltb-false, eqb-false}
use lib.Dec.{ltb, eqb}
use lib.IntN.{ℤ, pos, neg_ℤ}
use lib.ListN.{get_or}
use lib.Pow.{pow_pos}
use Rattle.whole.specs.Outcome.{outcome, refuses}
use Rattle.curve.specs.declared.Basis.{Basis}
use Rattle.curve.specs.Limits.{limit}
use Rattle.shape.specs.declared.Shape.{Shape}
use Rattle.shape.specs.declared.Plan.{Plan}
use Rattle.shape.specs.Inner.{RunsRound}
use Rattle.shape.specs.Shape.{points_of}
use Rattle.shape.specs.Refusals.{row, judge, shape_rows, point_rows, plan_of}
use Rattle.shape.proofs.Tests.{either, true-is-not-false}
use Rattle.spans.specs.Numbers.{number, remainder_of, nought, per_span}
use Rattle.spans.specs.Filled.{filled}
use Rattle.spans.proofs.Totals.{total-same}
use Rattle.outline.specs.Outline.{points}
use Rattle.asked.specs.declared.Run.{Run}
use Rattle.asked.specs.declared.Edit.{Edit}
use Rattle.asked.specs.declared.Edit.TheVariants.{Move, Insert, Remove}
use Rattle.asked.specs.Edits.{count_after, new_outside, choose, control_at, asked, run_of, in_run, carried_from, is_fresh, point_at, exact_fresh}
use Rattle.asked.proofs.Runs.{inserted-own}
use Rattle.asked.proofs.Fresh.{stale-own}
use Rattle.edit.specs.Reading.{shape_after, ask_rows, change, controls_after, accepts, edits}
use Rattle.edit.proofs.Exactly.{call_rows}
use Rattle.sequences.proofs.Redrawn.{good-then}
use Rattle.mirror.specs.Mirror.{Axis, mirror_x, mirror_y, across, mirror, mirror_edit, mirror_edited}
use Rattle.mirror.proofs.Lists.{length-mirrored, mirrored-rule, across-beyond, mirror-at, control_rows-mirror, judge-mirror}
use Rattle.mirror.proofs.Points.{number-mirror, nought-mirror}

-- what is carried comes from a number on the same axis: a span has an even number of them, and an insert carries nothing into the first span
carried-axis :
    (e : Edit) (p : Plan) (j q : ℕ)
    → 1 ≤ p.spans
    → RunsRound p.basis p.spans
    → is_fresh (run_of e p j) p q ≡ false
    → ltb (min (q / per_span p.depth) (p.spans - 1)) j ≡ false
    → carried_from e (per_span p.depth) q % 2 ≡ q % 2
carried-axis (Move x y) p j q some round stale from = refl
carried-axis (Insert x y) p j q some round stale from =
    let w = per_span p.depth in
    ⊎_elim
    (λ (first : q < w).
    let none : q / w < 1 = (div-lt_iff_lt-mul {k = w} {x = q} {y = 1} (omega (arith, pow_pos p.depth))).1 (omega arith) in
    let start : j ≡ 0 = omega (arith, ltb-false (min (q / w) (p.spans - 1)) j from) in
    let own : min (q / w) (p.spans - 1) ≡ j = omega arith in
    let within : q < p.spans * w + 2 = omega (arith, one-mul w, mul-le-mul_right {m = 1} {n = p.spans} w some) in
    absurd (true-is-not-false (inserted-own x y p j round (omega arith)) (ap (in_run (run_of (Insert x y) p j) p.spans) (sym own) ∙ stale-own (run_of (Insert x y) p j) p q within some stale)))
    (λ (later : w ≤ q). omega arith)
    (either q w)
carried-axis Remove p j q some round stale from = omega arith

module _ (axis : Axis) where
  -- ---- what does not look at the new record is the same for the mirrored edit

  same : {A : Type 0} (f : Edit → A) → ((x y u v : ℤ) → f (Move x y) ≡ f (Move u v)) → ((x y u v : ℤ) → f (Insert x y) ≡ f (Insert u v)) → (e : Edit) → f (mirror_edit axis e) ≡ f e
  same f moves inserts (Move x y) = moves _ _ x y
  same f moves inserts (Insert x y) = inserts _ _ x y
  same f moves inserts Remove = refl

  same_shape : (e : Edit) (s : Shape) → shape_after (mirror_edit axis e) s ≡ shape_after e s
  same_shape e s = same (λ e. shape_after e s) (λ x y u v. refl) (λ x y u v. refl) e

  same_asked : (e : Edit) (b : Basis) (j n : ℕ) → ask_rows (mirror_edit axis e) b j n ≡ ask_rows e b j n
  same_asked e b j n = same (λ e. ask_rows e b j n) (λ x y u v. refl) (λ x y u v. refl) e

  same-run : (e : Edit) (p : Plan) (j : ℕ) → run_of (mirror_edit axis e) p j ≡ run_of e p j
  unfolding run_of
  same-run e p j = same (λ e. run_of e p j) (λ x y u v. refl) (λ x y u v. refl) e

  same-carried : (e : Edit) (w q : ℕ) → carried_from (mirror_edit axis e) w q ≡ carried_from e w q
  same-carried e w q = same (λ e. carried_from e w q) (λ x y u v. refl) (λ x y u v. refl) e

  -- ---- the checks: the new record is as far from zero

  same-outside : (e : Edit) → new_outside (mirror_edit axis e) ≡ new_outside e
  same-outside (Move x y) = λ i. across-beyond axis 0 limit x i || across-beyond axis 1 limit y i
  same-outside (Insert x y) = λ i. across-beyond axis 0 limit x i || across-beyond axis 1 limit y i
  same-outside Remove = refl

  pub edit_rows-mirror : (e : Edit) (s : Shape) (j : ℕ) (controls lent : List ℤ) → call_rows (mirror_edit axis e) s j (mirror axis controls) (mirror axis lent) ≡ call_rows e s j controls lent
  edit_rows-mirror e s j controls lent =
      let n = s.count in
      let p = plan_of s in
      λ i.
      shape_rows s
      ++ (same_asked e p.basis j n i
      ++ (control_rows-mirror axis controls (max n (same_shape e s i).count) n i
      ++ (row (same-outside e i) 8 n ∷ point_rows (max (points p) (points (plan_of (same_shape e s i)))) (length-mirrored neg_ℤ axis lent i))))

  -- ---- the controls

  -- a choice between two numbers, each of which is mirrored where it is chosen
  cond-mirror : (q : ℕ) (t : Bool) (x y u v : ℤ) → (t ≡ true → u ≡ across neg_ℤ axis q x) → (t ≡ false → v ≡ across neg_ℤ axis q y) → cond t u v ≡ across neg_ℤ axis q (cond t x y)
  cond-mirror q true x y u v first second = first refl
  cond-mirror q false x y u v first second = second refl

  choose-mirror : (q : ℕ) (x y : ℤ) → choose (q % 2) (mirror_x neg_ℤ axis x) (mirror_y neg_ℤ axis y) ≡ across neg_ℤ axis q (choose (q % 2) x y)
  choose-mirror q x y = go (eqb (q % 2) 0)
    where
      go : (t : Bool) → cond t (mirror_x neg_ℤ axis x) (mirror_y neg_ℤ axis y) ≡ cond t (mirror_x neg_ℤ axis (cond t x y)) (mirror_y neg_ℤ axis (cond t x y))
      go true = refl
      go false = refl

  control-mirror : (e : Edit) (j : ℕ) (old : List ℤ) (q : ℕ) → control_at (mirror_edit axis e) j (mirror axis old) q ≡ across neg_ℤ axis q (control_at e j old q)
  control-mirror (Move x y) j old q = cond-mirror q (eqb (q / 2) j) _ _ _ _ (λ _. choose-mirror q x y) (λ _. mirror-at axis old q q refl)
  control-mirror (Insert x y) j old q =
      cond-mirror q (ltb (q / 2) j) _ _ _ _ (λ _. mirror-at axis old q q refl)
      (λ from. cond-mirror q (eqb (q / 2) j) _ _ _ _ (λ _. choose-mirror q x y) (λ past. mirror-at axis old (q - 2) q (omega (arith, ltb-false (q / 2) j from, eqb-false (q / 2) j past))))
  control-mirror Remove j old q = cond-mirror q (ltb (q / 2) j) _ _ _ _ (λ _. mirror-at axis old q q refl) (λ _. mirror-at axis old (q + 2) q (omega arith))

  controls-mirror : (e : Edit) (s : Shape) (j : ℕ) (controls : List ℤ) → controls_after (mirror_edit axis e) s j (mirror axis controls) ≡ mirror axis (controls_after e s j controls)
  unfolding asked
  controls-mirror e s j controls =
      ap (λ (n : ℕ). filled (control_at (mirror_edit axis e) j (mirror axis controls)) 0 (2 * n) (mirror axis controls)) (λ i. (same_shape e s i).count)
      ∙ mirrored-rule neg_ℤ axis controls (control_at e j controls) (control_at (mirror_edit axis e) j (mirror axis controls)) 0 (2 * count_after e s.count) (control-mirror e j controls)

  -- ---- the points

  point-mirror : (e : Edit) (p : Plan) (j : ℕ) (controls lent : List ℤ) → 1 ≤ p.spans → RunsRound p.basis p.spans
      → (q : ℕ) → point_at (mirror_edit axis e) p j (mirror axis controls) (mirror axis lent) q ≡ across neg_ℤ axis q (point_at e p j controls lent q)
  unfolding point_at
  point-mirror e p j controls lent some round q =
      let k = p.depth in
      let w = per_span k in
      let before = ltb (min (q / w) (p.spans - 1)) j in
      (λ i.
      cond (is_fresh (same-run e p j i) p q) (number p (mirror axis controls) q)
      (cond before (get_or (mirror axis lent) q (pos 0)) (get_or (mirror axis lent) (same-carried e w q i) (pos 0))))
      ∙ cond-mirror q (is_fresh (run_of e p j) p q) _ _ _ _ (λ _. number-mirror axis p controls q)
      (λ stale.
      cond-mirror q before _ _ _ _ (λ _. mirror-at axis lent q q refl) (λ from. mirror-at axis lent (carried_from e w q) q (carried-axis e p j q some round stale from)))

  -- ---- the mirrored edit

  fresh-mirror : (run : Run) (p : Plan) (controls : List ℤ) → exact_fresh run p (mirror axis controls) ≡ exact_fresh run p controls
  unfolding exact_fresh
  fresh-mirror run p controls =
      total-same (λ q. cond (is_fresh run p q) (nought (remainder_of p (mirror axis controls) q)) 0) (λ q. cond (is_fresh run p q) (nought (remainder_of p controls q)) 0) 0 (2 * points_of p.depth p.spans)
      (λ q _ _. ap (λ (n : ℕ). cond (is_fresh run p q) n 0) (nought-mirror axis p controls q))

  accepts-mirror : (e : Edit) (s : Shape) (j : ℕ) (controls lent : List ℤ) → 1 ≤ (plan_of (shape_after e s)).spans → RunsRound (plan_of (shape_after e s)).basis (plan_of (shape_after e s)).spans
      → accepts (mirror_edit axis e) s (plan_of (shape_after (mirror_edit axis e) s)) j (mirror axis controls) (mirror axis lent)
      ≡ mirror_edited axis (accepts e s (plan_of (shape_after e s)) j controls lent)
  accepts-mirror e s j controls lent some round =
      let p = plan_of (shape_after e s) in
      let new = controls_after e s j controls in
      ap (λ r. accepts (mirror_edit axis e) s (plan_of r) j (mirror axis controls) (mirror axis lent)) (same_shape e s)
      ∙ (λ i.
      outcome (Ok (record { shape = same_shape e s i; first = (same-run e p j i).first; fresh = (same-run e p j i).count; exact = exact_fresh (same-run e p j i) p (controls-mirror e s j controls i) }))
      (controls-mirror e s j controls i, filled (point_at (mirror_edit axis e) p j (controls-mirror e s j controls i) (mirror axis lent)) 0 (2 * points p) (mirror axis lent)))
      ∙ (let rule = mirrored-rule neg_ℤ axis lent (point_at e p j new lent) (point_at (mirror_edit axis e) p j (mirror axis new) (mirror axis lent)) 0 (2 * points p) (point-mirror e p j new lent some round) in
      λ i. outcome (Ok (change e s p j (fresh-mirror (run_of e p j) p new i))) (mirror axis new, rule i))

  pub mirror-edits :
      (e : Edit) (s : Shape) (j : ℕ) (controls lent : List ℤ)
      → edits (mirror_edit axis e) s j (mirror axis controls) (mirror axis lent) ≡ mirror_edited axis (edits e s j controls lent)
  unfolding edits
  mirror-edits e s j controls lent =
      let there = accepts (mirror_edit axis e) s (plan_of (shape_after (mirror_edit axis e) s)) j (mirror axis controls) (mirror axis lent) in
      ap (λ rows. judge rows (refuses Err (mirror axis controls, mirror axis lent)) there) (edit_rows-mirror e s j controls lent)
      ∙ judge-mirror (mirror_edited axis) (call_rows e s j controls lent) (refuses Err (controls, lent)) (accepts e s (plan_of (shape_after e s)) j controls lent) there
      (λ none. let good = good-then e s j controls lent none in accepts-mirror e s j controls lent good.spans-least good.round)
