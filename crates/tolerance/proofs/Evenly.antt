-- Where every piece above the finest level is cut, 63 cuts to each span, every step has a point: the call leaves and answers what drawing the even outline at the finest depth does.
use Rattle.std.specs.Prelude.{Ok}
use mathlib.Core.Path.{◌≡◌, refl, sym, ap, ◌∙◌, subst}
use mathlib.Core.List.{List, [], ◌∷◌, ◌++◌}
use Prim.Native.Nat.{ℕ, zero, suc, ◌+◌, ◌*◌, ◌^◌, ◌≤◌, ◌<◌}
use native.Mathlib.Nat.{zero-add}
use native.Mathlib.Omega.{arith}
use borrow.Author.Tests.{le-ltb}
use lib.IntN.{ℤ}
use lib.ListN.{length}
use lib.Seq.{sets}
use Rattle.whole.specs.Outcome.{outcome}
use Rattle.curve.specs.Span.{divisor}
use Rattle.curve.specs.Tab.{tab}
use Rattle.curve.proofs.Tab.{tab-append}
use Rattle.shape.specs.declared.Shape.{Shape}
use Rattle.shape.specs.declared.Plan.{Plan}
use Rattle.shape.specs.Refusals.{NoRow, shape_rows, control_rows, point_rows, plan_of}
use Rattle.shape.specs.Shape.{points_of}
use Rattle.shape.proofs.Refusals.{none-earlier, none-later, none_both, none-at}
use Rattle.spans.specs.Numbers.{sum_of, noughts}
use Rattle.spans.specs.Filled.{fills}
use Rattle.spans.specs.Inner.{wholes, remainders}
use Rattle.spans.proofs.Rounds.{rounds-outline}
use Rattle.outline.specs.Outline as outline
use Rattle.outline.specs.Outline.{draws}
use Rattle.outline.proofs.Exactly.{none-drawn}
use Rattle.pieces.specs.Tree.{finest, piece, Tree, cuts, most_cuts, all_cuts}
use Rattle.pieces.specs.Values.{numbers, exact_of}
use Rattle.pieces.proofs.Even.{sums_at}
use Rattle.pieces.proofs.Starts.{cuts-most}
use Rattle.pieces.proofs.Stepped.{itself, steps_all}
use Rattle.tolerance.specs.declared.Steps.{Steps}
use Rattle.tolerance.specs.Reading.{controls_of, tree_of, values_of, cuts_of, tolerance_row, last_rows, plan_rows, chooses}
use Rattle.tolerance.specs.Steps.{steps_from, steps_along, finest_shape, finest_plan}
use Rattle.tolerance.proofs.Exactly.{done_none, done-steps, done_held}
use Rattle.tolerance.proofs.Answered.{good, answered-cuts, answered-points, answered-room}
use Rattle.tolerance.proofs.Along.{on_x, on_y, values-along}

-- ---- all steps

-- a rule's numbers at all steps from g on, two to each, are its numbers from 2g on
sums-of-all : (f : ℕ → ℤ) (g n : ℕ) → sums_at (λ (k : ℕ). f (2 * k)) (λ (k : ℕ). f (2 * k + 1)) (tab itself g n) ≡ tab f (2 * g) (2 * n)
unfolding sums_at tab
sums-of-all f g zero = refl
sums-of-all f g (suc n) =
    let two : 2 * suc n ≡ suc (suc (2 * n)) = omega arith in
    let odd : 2 * g + 1 ≡ suc (2 * g) = omega arith in
    let next : 2 * suc g ≡ suc (suc (2 * g)) = omega arith in
    (λ i. f (2 * g) ∷ f (odd i) ∷ sums-of-all f (suc g) n i)
    ∙ ap (λ (k : ℕ). f (2 * g) ∷ f (suc (2 * g)) ∷ tab f k (2 * n)) next
    ∙ sym (ap (tab f (2 * g)) two)

module _ (p : Plan) (tolerance : ℕ) (controls : List ℤ) where
  abbrev f : ℕ → Tree
  f = tree_of p tolerance controls

  below : (t : ℕ) → cuts (f t) < 2 ^ finest
  unfolding tree_of
  below t = cuts-most (divisor p.basis) tolerance finest (piece 0 (controls_of p controls t 0) (controls_of p controls t 1))

  at_most : (s n : ℕ) → all_cuts (tab f s n) ≤ most_cuts * n
  unfolding all_cuts tab
  at_most s zero = omega arith
  at_most s (suc n) = omega (arith, below s, at_most (suc s) n)

  all-steps-from : (s n : ℕ) → all_cuts (tab f s n) ≡ most_cuts * n → steps_from s (tab f s n) ≡ tab itself (s * 2 ^ finest) (n * 2 ^ finest)
  unfolding all_cuts steps_from tab tree_of
  all-steps-from s zero e = refl
  all-steps-from s (suc n) e =
      let here : cuts (f s) + 1 ≡ 2 ^ finest = omega (arith, e, below s, at_most (suc s) n) in
      let on : suc s * 2 ^ finest ≡ s * 2 ^ finest + 2 ^ finest = omega arith in
      let count : 2 ^ finest + n * 2 ^ finest ≡ suc n * 2 ^ finest = omega arith in
      (λ i. steps_all (divisor p.basis) tolerance finest (s * 2 ^ finest) (piece 0 (controls_of p controls s 0) (controls_of p controls s 1)) here i ++ all-steps-from (suc s) n (omega (arith, e, here)) i)
      ∙ ap (λ (k : ℕ). tab itself (s * 2 ^ finest) (2 ^ finest) ++ tab itself k (n * 2 ^ finest)) on
      ∙ sym (tab-append itself (s * 2 ^ finest) (2 ^ finest) (n * 2 ^ finest))
      ∙ ap (tab itself (s * 2 ^ finest)) count

  -- and the last end
  all-steps : cuts_of p tolerance controls ≡ most_cuts * p.spans → steps_along p tolerance controls ≡ tab itself 0 (points_of finest p.spans)
  unfolding points_of tab
  all-steps e =
      let m = p.spans * 2 ^ finest in
      ap (λ a. a ++ (m ∷ [])) (all-steps-from 0 p.spans e) ∙ ap (λ (k : ℕ). tab itself 0 m ++ (k ∷ [])) (sym (zero-add m)) ∙ sym (tab-append itself 0 m 1)

-- ---- the even outline

module _ (s : Shape) (tolerance most : ℕ) (controls lent : List ℤ) (fs : Steps) (held : List ℤ) (done : chooses s tolerance most controls lent ≡ outcome (Ok fs) held) (full : fs.cuts ≡ most_cuts * (plan_of s).spans) where
  abbrev p : Plan
  p = plan_of s

  abbrev q : Plan
  q = finest_plan p

  cuts-full : cuts_of p tolerance controls ≡ most_cuts * p.spans
  cuts-full = sym (answered-cuts s tolerance most controls lent fs held done) ∙ full

  some : 0 < p.spans
  some = (good s tolerance most controls lent (done_none s tolerance most controls lent fs held done)).spans-least

  -- the chosen values round to all numbers of the even outline, and as many are exact
  abbrev all : ℕ
  all = 2 * points_of finest p.spans

  all-sums : sums_at (on_x p controls) (on_y p controls) (steps_along p tolerance controls) ≡ tab (sum_of q controls) 0 all
  all-sums = ap (sums_at (on_x p controls) (on_y p controls)) (all-steps p tolerance controls cuts-full) ∙ sums-of-all (sum_of q controls) 0 (points_of finest p.spans)

  same_outcome : outcome (exact_of (values_of p tolerance controls)) (sets lent 0 (numbers (values_of p tolerance controls))) ≡ fills q controls 0 all lent
  same_outcome =
      let same = values-along p tolerance controls some in
      (λ i. outcome ((same.as-exact ∙ ap (λ sums. noughts (remainders (divisor p.basis finest) sums)) all-sums ∙ sym (zero-add _)) i) (sets lent 0 ((same.rounds-alike ∙ ap (wholes (divisor p.basis finest)) all-sums) i)))
      ∙ rounds-outline q controls 0 all lent

  -- the plan of the shape at the finest depth
  finest-plan : plan_of (finest_shape s) ≡ q
  unfolding plan_of
  finest-plan = refl

  points-full : fs.points ≡ points_of finest p.spans
  unfolding points_of
  points-full = answered-points s tolerance most controls lent fs held done ∙ omega (arith, full)

  -- drawing it is not refused either
  not-refused : NoRow (outline.draw_rows (finest_shape s) controls lent)
  unfolding plan_of
  not-refused =
      let none = done_none s tolerance most controls lent fs held done in
      let rows = plan_rows s.count p tolerance most controls lent in
      let mine = none-earlier (shape_rows s) rows none in
      let lists = none-earlier (control_rows s.count s.count controls) (tolerance_row tolerance ∷ last_rows p tolerance most controls (length lent)) (none-later (shape_rows s) rows none) in
      none_both (shape_rows (finest_shape s)) (outline.plan_rows s.count q controls lent)
      (none-at s finest (omega arith) mine)
      (none_both (control_rows s.count s.count controls) (point_rows (outline.points q) (length lent)) lists (le-ltb (length lent) (2 * outline.points q) (subst (λ (n : ℕ). 2 * n ≤ length lent) points-full (answered-room s tolerance most controls lent fs held done)), tt))

  pub even-outline : draws (finest_shape s) controls lent ≡ outcome (Ok (record { points = fs.points; exact = fs.exact })) held
  even-outline =
      let steps = done-steps s tolerance most controls lent fs held done in
      none-drawn (finest_shape s) controls lent not-refused
      ∙ ap (λ r. outline.accepts r controls lent) finest-plan
      ∙ sym
      (λ i.
      outcome (Ok (record { points = points-full i; exact = (sym (ap (λ (g : Steps). g.exact) steps) ∙ ap (λ o. o.answer) same_outcome) i }))
      ((sym (done_held s tolerance most controls lent fs held done) ∙ ap (λ o. o.held) same_outcome) i))
