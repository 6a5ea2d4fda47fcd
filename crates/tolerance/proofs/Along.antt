-- The chosen points along the outline: each is the point of the even outline at the finest depth at its step, and the steps rise strictly from the first to the last.
use Rattle.std.specs.Prelude.{Ok}
use mathlib.Core.Path.{◌≡◌, refl, sym, ap, ◌∙◌, subst}
use mathlib.Core.List.{List, [], ◌∷◌, ◌++◌}
use Prim.Native.Nat.{ℕ, zero, suc, ◌+◌, ◌*◌, ◌-◌, ◌/◌, ◌%◌, ◌^◌, ◌≤◌, ◌<◌}
use native.Mathlib.Omega.{arith}
use lib.Dec.{lit<}
use lib.IntN.{ℤ, pos}
use lib.ListN.{length, take, length-append}
use lib.Seq.{sets, sets-eq, take_at}
use Rattle.whole.specs.Outcome.{outcome}
use Rattle.curve.specs.Span.{coordinate, divisor, records, sum_at, weighted}
use Rattle.curve.specs.Tab.{tab}
use Rattle.curve.proofs.Span.{weighted-end}
use Rattle.shape.specs.declared.Shape.{Shape}
use Rattle.shape.specs.declared.Plan.{Plan}
use Rattle.shape.specs.Depth.{plan_at}
use Rattle.shape.specs.Refusals.{plan_of}
use Rattle.spans.specs.Numbers.{sum_of, per_span, noughts}
use Rattle.spans.specs.Inner.{wholes, remainders}
use Rattle.spans.proofs.Numbers.{per-span, span-sum}
use Rattle.pieces.specs.Tree.{finest, piece, Tree, all_cuts}
use Rattle.pieces.specs.Values.{all_starts, end, numbers}
use Rattle.pieces.specs.Steps.{steps_in, Rises}
use Rattle.pieces.proofs.Even.{sums_at, sums-append, Same, same-append, same-both, Covers, starts-even}
use Rattle.pieces.proofs.Stepped.{rises-append, steps-rise, steps-begin, steps-count}
use Rattle.tolerance.specs.declared.Steps.{Steps}
use Rattle.tolerance.specs.Reading.{controls_of, tree_of, trees_of, values_of, cuts_of, chooses}
use Rattle.tolerance.specs.Steps.{steps_from, steps_along, finest_plan}
use Rattle.tolerance.proofs.Exactly.{done_none, done-steps, done_held}
use Rattle.tolerance.proofs.Answered.{good, answered-cuts, answered-points, answered-length, answered-room}

-- ---- the sums of the even outline at its steps

-- on x and on y
abbrev pub on_x : Plan → List ℤ → ℕ → ℤ
on_x p controls g = sum_of (finest_plan p) controls (2 * g)

abbrev pub on_y : Plan → List ℤ → ℕ → ℤ
on_y p controls g = sum_of (finest_plan p) controls (2 * g + 1)

module _ (p : Plan) (controls : List ℤ) (t : ℕ) (there : t < p.spans) where
  -- step i of span t, at any depth
  pub at-step : (k i axis : ℕ) → i ≤ 2 ^ k → axis < 2 → sum_of (plan_at k p) controls (2 * (t * 2 ^ k + i) + axis) ≡ weighted (controls_of p controls t axis) (pos i) (pos (2 ^ k))
  at-step k i axis h a =
      let place : 2 * (t * 2 ^ k + i) + axis ≡ t * per_span k + (2 * i + axis) = omega (arith, per-span t k) in
      let axis-is : (2 * i + axis) % 2 ≡ axis = omega arith in
      let step_is : (2 * i + axis) / 2 ≡ i = omega arith in
      ap (sum_of (plan_at k p) controls) place
      ∙ span-sum (plan_at k p) controls t (2 * i + axis) there (omega arith)
      ∙ ap (λ (n : ℕ). sum_at p.basis k (records p.basis t (coordinate controls n)) ((2 * i + axis) / 2)) axis-is
      ∙ ap (sum_at p.basis k (records p.basis t (coordinate controls axis))) step_is

  x-step : (i : ℕ) → i ≤ 2 ^ finest → on_x p controls (t * 2 ^ finest + i) ≡ weighted (controls_of p controls t 0) (pos i) (pos (2 ^ finest))
  x-step i h = ap (sum_of (finest_plan p) controls) (omega arith) ∙ at-step finest i 0 h (lit< tt)

  covers-x : Covers finest (t * 2 ^ finest) (controls_of p controls t 0) (on_x p controls)
  covers-x i h = sym (x-step i h)

  covers-y : Covers finest (t * 2 ^ finest) (controls_of p controls t 1) (on_y p controls)
  covers-y i h = sym (at-step finest i 1 h (lit< tt))

  -- its end
  pub end-even : (m : ℕ) → m ≡ t + 1 → Same (divisor p.basis finest) (end (divisor p.basis) (controls_of p controls t 0) (controls_of p controls t 1)) (sums_at (on_x p controls) (on_y p controls) (m * 2 ^ finest ∷ []))
  unfolding sums_at
  end-even m e =
      let last : m * 2 ^ finest ≡ t * 2 ^ finest + 2 ^ finest = omega arith in
      let x = controls_of p controls t 0 in
      let y = controls_of p controls t 1 in
      same-both p.basis 0 (omega arith) x.d y.d (on_x p controls (m * 2 ^ finest)) (on_y p controls (m * 2 ^ finest))
      (ap (on_x p controls) last ∙ x-step (2 ^ finest) (omega arith) ∙ weighted-end x (pos (2 ^ finest)))
      (ap (on_y p controls) last ∙ at-step finest (2 ^ finest) 1 (omega arith) (lit< tt) ∙ weighted-end y (pos (2 ^ finest)))

-- ---- all chosen values are such sums

module _ (p : Plan) (tolerance : ℕ) (controls : List ℤ) where
  abbrev f : ℕ → Tree
  f = tree_of p tolerance controls

  abbrev x : ℕ → ℤ
  x = on_x p controls

  abbrev y : ℕ → ℤ
  y = on_y p controls

  starts-along : (s n : ℕ) → s + n ≤ p.spans → Same (divisor p.basis finest) (all_starts (divisor p.basis) (tab f s n)) (sums_at x y (steps_from s (tab f s n)))
  unfolding all_starts steps_from tab sums_at noughts tree_of
  starts-along s zero h = record { rounds-alike = refl; as-exact = refl }
  starts-along s (suc n) h =
      let here = starts-even p.basis tolerance x y finest (s * 2 ^ finest) (piece 0 (controls_of p controls s 0) (controls_of p controls s 1)) refl (covers-x p controls s (omega arith)) (covers-y p controls s (omega arith)) in
      subst (Same (divisor p.basis finest) (all_starts (divisor p.basis) (tab f s (suc n)))) (sym (sums-append x y (steps_in finest (s * 2 ^ finest) (f s)) (steps_from (suc s) (tab f (suc s) n))))
      (same-append (divisor p.basis finest) _ _ _ _ here (starts-along (suc s) n (omega arith)))

  pub values-along : 0 < p.spans → Same (divisor p.basis finest) (values_of p tolerance controls) (sums_at x y (steps_along p tolerance controls))
  values-along some =
      let last = p.spans - 1 in
      let one : p.spans ≡ last + 1 = omega arith in
      subst (Same (divisor p.basis finest) (values_of p tolerance controls)) (sym (sums-append x y (steps_from 0 (trees_of p tolerance controls)) (p.spans * 2 ^ finest ∷ [])))
      (same-append (divisor p.basis finest) _ _ _ _ (starts-along 0 p.spans (omega arith)) (end-even p controls last (omega arith) p.spans one))

  -- ---- the steps: so many, from 0 on, rising to the last

  count-from : (s n : ℕ) → length (steps_from s (tab f s n)) ≡ n + all_cuts (tab f s n)
  unfolding steps_from tab all_cuts tree_of
  count-from s zero = refl
  count-from s (suc n) =
      length-append (steps_in finest (s * 2 ^ finest) (f s)) (steps_from (suc s) (tab f (suc s) n))
      ∙ omega (arith, steps-count (divisor p.basis) tolerance finest (s * 2 ^ finest) (piece 0 (controls_of p controls s 0) (controls_of p controls s 1)), count-from (suc s) n)

  rise-from : (s n : ℕ) → Rises (s * 2 ^ finest) (steps_from s (tab f s n)) ((s + n) * 2 ^ finest)
  unfolding steps_from tab
  rise-from s zero = omega arith
  rise-from s (suc n) =
      let on : s * 2 ^ finest + 2 ^ finest ≡ suc s * 2 ^ finest = omega arith in
      let end : (suc s + n) * 2 ^ finest ≡ (s + suc n) * 2 ^ finest = omega arith in
      rises-append (steps_in finest (s * 2 ^ finest) (f s)) (steps_from (suc s) (tab f (suc s) n)) (s * 2 ^ finest) (suc s * 2 ^ finest) ((s + suc n) * 2 ^ finest)
      (subst (Rises (s * 2 ^ finest) (steps_in finest (s * 2 ^ finest) (f s))) on (steps-rise finest (s * 2 ^ finest) (f s)))
      (subst (Rises (suc s * 2 ^ finest) (steps_from (suc s) (tab f (suc s) n))) end (rise-from (suc s) n))

  pub steps-rising : Rises 0 (steps_along p tolerance controls) (p.spans * 2 ^ finest + 1)
  steps-rising =
      let all : (0 + p.spans) * 2 ^ finest ≡ p.spans * 2 ^ finest = omega arith in
      rises-append (steps_from 0 (trees_of p tolerance controls)) (p.spans * 2 ^ finest ∷ []) 0 (p.spans * 2 ^ finest) (p.spans * 2 ^ finest + 1)
      (subst (Rises 0 (steps_from 0 (trees_of p tolerance controls))) all (rise-from 0 p.spans)) (omega arith, omega arith)

  begin-from : (s n : ℕ) → 0 < n → (rest : List ℕ) × (steps_from s (tab f s n) ≡ s * 2 ^ finest ∷ rest)
  unfolding steps_from tab
  begin-from s zero h = absurd (omega arith)
  begin-from s (suc n) h = let (rest, e) = steps-begin finest (s * 2 ^ finest) (f s) in (rest ++ steps_from (suc s) (tab f (suc s) n), ap (λ a. a ++ steps_from (suc s) (tab f (suc s) n)) e)

  pub steps-beginning : 0 < p.spans → (rest : List ℕ) × (steps_along p tolerance controls ≡ 0 ∷ rest)
  steps-beginning some = let (rest, e) = begin-from 0 p.spans some in (rest ++ (p.spans * 2 ^ finest ∷ []), ap (λ a. a ++ (p.spans * 2 ^ finest ∷ [])) e)

  pub steps-many : length (steps_along p tolerance controls) ≡ p.spans + cuts_of p tolerance controls + 1
  steps-many = length-append (steps_from 0 (trees_of p tolerance controls)) (p.spans * 2 ^ finest ∷ []) ∙ omega (arith, count-from 0 p.spans)

-- ---- after an accepted call

-- what was written in front of a list stands there
pub written-front : (l vs : List ℤ) → length vs ≤ length l → take (length vs) (sets l 0 vs) ≡ vs
written-front l vs h = ap (take (length vs)) (sets-eq vs l 0 (omega arith)) ∙ take_at vs _ (length vs) refl

module _ (s : Shape) (tolerance most : ℕ) (controls lent : List ℤ) (fs : Steps) (held : List ℤ) (done : chooses s tolerance most controls lent ≡ outcome (Ok fs) held) where
  abbrev pl : Plan
  pl = plan_of s

  some-spans : 0 < pl.spans
  some-spans = (good s tolerance most controls lent (done_none s tolerance most controls lent fs held done)).spans-least

  abbrev sums : List ℤ
  sums = sums_at (on_x pl controls) (on_y pl controls) (steps_along pl tolerance controls)

  pub held-along : take (2 * fs.points) held ≡ wholes (divisor pl.basis finest) sums
  held-along =
      let vs = numbers (values_of pl tolerance controls) in
      let many = answered-length s tolerance most controls lent fs held done in
      (λ i. take (sym many i) (sym (done_held s tolerance most controls lent fs held done) i))
      ∙ written-front lent vs (omega (arith, many, answered-room s tolerance most controls lent fs held done))
      ∙ (values-along pl tolerance controls some-spans).rounds-alike

  pub exact-along : fs.exact ≡ noughts (remainders (divisor pl.basis finest) sums)
  exact-along = sym (ap (λ (g : Steps). g.exact) (done-steps s tolerance most controls lent fs held done)) ∙ (values-along pl tolerance controls some-spans).as-exact

  pub beginning-along : (rest : List ℕ) × (steps_along pl tolerance controls ≡ 0 ∷ rest)
  beginning-along = steps-beginning pl tolerance controls some-spans

  pub many-along : length (steps_along pl tolerance controls) ≡ fs.points
  many-along =
      steps-many pl tolerance controls
      ∙ ap (λ (n : ℕ). pl.spans + n + 1) (sym (answered-cuts s tolerance most controls lent fs held done))
      ∙ sym (answered-points s tolerance most controls lent fs held done)
