-- Between two neighbouring points that were chosen by tolerance the curve stays within the tolerance of the chord, since they are the ends of one flat piece; and within half a micrometre more of the
-- chord between the points as they stand in the list.
use Rattle.std.specs.Prelude.{Ok}
use mathlib.Core.Path.{◌≡◌, refl, sym, ap, ◌∙◌, subst}
use mathlib.Core.List.{List, [], ◌∷◌, ◌++◌}
use Prim.Native.Nat.{ℕ, zero, suc, ◌+◌, ◌*◌, ◌-◌, ◌^◌, ◌≤◌, ◌<◌}
use native.Mathlib.Nat.{mul_assoc}
use native.Mathlib.Numerals.{add-one}
use native.Mathlib.Omega.{arith}
use lib.Dec.{lit<}
use lib.IntN.{ℤ, pos, nat_abs, ◌-ℤ◌, ◌*ℤ◌}
use lib.ListN.{get_or, length, length-append}
use lib.Pow.{pow-add, pow_pos}
use lib.Seq.{get_or-take}
use Rattle.whole.specs.Nearest.{nearest}
use Rattle.whole.specs.Outcome.{outcome}
use Rattle.curve.specs.Span.{divisor}
use Rattle.curve.specs.Tab.{tab}
use Rattle.shape.specs.declared.Shape.{Shape}
use Rattle.shape.specs.declared.Plan.{Plan}
use Rattle.shape.specs.Depth.{plan_at}
use Rattle.shape.specs.Refusals.{plan_of}
use Rattle.spans.specs.Numbers.{sum_of}
use Rattle.spans.specs.Inner.{wholes}
use Rattle.pieces.specs.Tree.{finest, piece, Tree, Sound}
use Rattle.pieces.specs.Steps.{steps_in}
use Rattle.pieces.proofs.Even.{sums_at, Covers}
use Rattle.pieces.proofs.Stepped.{steps-begin}
use Rattle.tolerance.specs.declared.Steps.{Steps}
use Rattle.tolerance.specs.Reading.{controls_of, tree_of, trees_of, chooses}
use Rattle.tolerance.specs.Steps.{steps_from, steps_along, finest_plan}
use Rattle.tolerance.proofs.Along.{at-step, held-along, many-along}
use Rattle.tolerance.proofs.Answered.{answered-sound}
use Rattle.stray.specs.Chord.{Within, micrometres, half_more, off_chord, finer}
use Rattle.stray.proofs.Again.{sums-again, close-again}
use Rattle.stray.proofs.Neighbours.{first, Linked, linked-append, linked-at, Stretch, stretches}
use Rattle.stray.proofs.Pieces.{Near, near-x, near-y}
use Rattle.stray.proofs.Rounded.{rounded-within}

-- ---- along all spans

module _ (p : Plan) (tolerance l : ℕ) (controls : List ℤ) where
  abbrev fine : ℕ
  fine = finest + l

  -- the sum at step n of the fine depth
  abbrev at : ℕ → ℕ → ℤ
  at axis n = sum_of (plan_at fine p) controls (2 * n + axis)

  covers : (t axis : ℕ) → t < p.spans → axis < 2 → Covers fine (t * 2 ^ finest * 2 ^ l) (controls_of p controls t axis) (at axis)
  covers t axis there a i h =
      let place : t * 2 ^ fine + i ≡ t * 2 ^ finest * 2 ^ l + i = ap (λ (n : ℕ). n + i) (ap (λ (n : ℕ). t * n) (pow-add 2 finest l) ∙ sym (mul_assoc t (2 ^ finest) (2 ^ l))) in
      sym (at-step p controls t there fine i axis h a) ∙ ap (at axis) place

  abbrev R : ℕ → ℕ → Type 0
  R = Stretch p.basis tolerance l (at 0) (at 1)

  abbrev f : ℕ → Tree
  f = tree_of p tolerance controls

  -- the spans from s on begin where span s does
  first-from : (s n : ℕ) → first (steps_from s (tab f s n)) ((s + n) * 2 ^ finest) ≡ s * 2 ^ finest
  unfolding steps_from tab
  first-from s zero = omega arith
  first-from s (suc n) =
      let (rest, e) = steps-begin finest (s * 2 ^ finest) (f s) in
      ap (λ (steps : List ℕ). first (steps ++ steps_from (suc s) (tab f (suc s) n)) ((s + suc n) * 2 ^ finest)) e

  linked-from : (s n : ℕ) → s + n ≤ p.spans → ((t : ℕ) → t < p.spans → Sound (f t)) → Linked R (steps_from s (tab f s n)) ((s + n) * 2 ^ finest)
  unfolding steps_from tab tree_of
  linked-from s zero h sound = tt
  linked-from s (suc n) h sound =
      let there : s < p.spans = omega arith in
      let to : (suc s + n) * 2 ^ finest ≡ (s + suc n) * 2 ^ finest = omega arith in
      let on : s * 2 ^ finest + 2 ^ finest ≡ suc s * 2 ^ finest = omega arith in
      let here = stretches p.basis tolerance l (at 0) (at 1) finest (s * 2 ^ finest) (piece 0 (controls_of p controls s 0) (controls_of p controls s 1)) refl (covers s 0 there (lit< tt)) (covers s 1 there (lit< tt)) (sound s there) in
      subst (Linked R (steps_from s (tab f s (suc n)))) to
      (linked-append R (steps_in finest (s * 2 ^ finest) (f s)) (steps_from (suc s) (tab f (suc s) n)) ((suc s + n) * 2 ^ finest)
      (subst (Linked R (steps_in finest (s * 2 ^ finest) (f s))) (on ∙ sym (first-from (suc s) n)) here)
      (linked-from (suc s) n (omega arith) sound))

  -- neighbours in the list of steps
  pub neighbours : ((t : ℕ) → t < p.spans → Sound (f t)) → (r : ℕ) → r + 1 < length (steps_along p tolerance controls) → R (get_or (steps_along p tolerance controls) r 0) (get_or (steps_along p tolerance controls) (r + 1) 0)
  neighbours sound r h =
      let all : (0 + p.spans) * 2 ^ finest ≡ p.spans * 2 ^ finest = omega arith in
      let starts = steps_from 0 (trees_of p tolerance controls) in
      let linked : Linked R starts (p.spans * 2 ^ finest) = subst (Linked R starts) all (linked-from 0 p.spans (omega arith) sound) in
      subst (λ (n : ℕ). R (get_or (steps_along p tolerance controls) r 0) (get_or (steps_along p tolerance controls) n 0)) (sym (add-one r))
      (linked-at R starts (p.spans * 2 ^ finest) r (omega (arith, length-append starts (p.spans * 2 ^ finest ∷ []))) linked)

-- what holds on both axes
on-axes : (P : ℕ → Type 0) → P 0 → P 1 → (axis : ℕ) → axis < 2 → P axis
on-axes P x y zero a = x
on-axes P x y (suc zero) a = y
on-axes P x y (suc (suc n)) a = absurd (omega arith)

-- ---- what stands in the list

-- the sums at some steps, rounded: those of the step with number r are the numbers 2r and 2r + 1
rounded-at : (d : ℕ) (x y : ℕ → ℤ) (steps : List ℕ) (r : ℕ) → r < length steps
    → (get_or (wholes d (sums_at x y steps)) (2 * r) (pos 0) ≡ nearest (x (get_or steps r 0)) d) × (get_or (wholes d (sums_at x y steps)) (2 * r + 1) (pos 0) ≡ nearest (y (get_or steps r 0)) d)
unfolding sums_at
rounded-at d x y [] r h = absurd (omega arith)
rounded-at d x y (g ∷ steps) zero h = (refl, refl)
rounded-at d x y (g ∷ steps) (suc r) h =
    let rest = wholes d (sums_at x y (g ∷ steps)) in
    let on-x : 2 * suc r ≡ suc (suc (2 * r)) = omega arith in
    let on-y : 2 * suc r + 1 ≡ suc (suc (2 * r + 1)) = omega arith in
    let (a, b) = rounded-at d x y steps r (omega arith) in
    (ap (λ (n : ℕ). get_or rest n (pos 0)) on-x ∙ a, ap (λ (n : ℕ). get_or rest n (pos 0)) on-y ∙ b)

-- ---- after an accepted call

module _ (s : Shape) (tolerance most : ℕ) (controls lent : List ℤ) (fs : Steps) (held : List ℤ) (done : chooses s tolerance most controls lent ≡ outcome (Ok fs) held) where
  abbrev pl : Plan
  pl = plan_of s

  -- the step of point r
  abbrev step : ℕ → ℕ
  step r = get_or (steps_along pl tolerance controls) r 0

  -- its exact sum
  abbrev sum : ℕ → ℕ → ℤ
  sum r axis = sum_of (finest_plan pl) controls (2 * step r + axis)

  held_at : (r axis : ℕ) → r < fs.points → axis < 2 → get_or held (2 * r + axis) (pos 0) ≡ nearest (sum r axis) (divisor pl.basis finest)
  held_at r axis h a =
      let d = divisor pl.basis finest in
      let x : ℕ → ℤ = λ (g : ℕ). sum_of (finest_plan pl) controls (2 * g) in
      let y : ℕ → ℤ = λ (g : ℕ). sum_of (finest_plan pl) controls (2 * g + 1) in
      let list = wholes d (sums_at x y (steps_along pl tolerance controls)) in
      let (on-x, on-y) = rounded-at d x y (steps_along pl tolerance controls) r (omega (arith, many-along s tolerance most controls lent fs held done)) in
      let none : (n : ℕ) → n + 0 ≡ n = λ n. omega arith in
      sym (get_or-take (2 * fs.points) held (2 * r + axis) (pos 0) (omega arith))
      ∙ ap (λ (l : List ℤ). get_or l (2 * r + axis) (pos 0)) (held-along s tolerance most controls lent fs held done)
      ∙ on-axes (λ (axis : ℕ). get_or list (2 * r + axis) (pos 0) ≡ nearest (sum r axis) d) (ap (λ (n : ℕ). get_or list n (pos 0)) (none (2 * r)) ∙ on-x ∙ ap (λ (n : ℕ). nearest (sum_of (finest_plan pl) controls n) d) (sym (none (2 * step r)))) on-y axis a

  -- ---- between points r and r + 1, at l more depths than the finest

  module _ (r l axis : ℕ) (h : r + 1 < fs.points) (a : axis < 2) where
    abbrev w : ℕ
    w = (step (r + 1) - step r) * 2 ^ l

    abbrev d : ℕ
    d = divisor pl.basis (finest + l)

    abbrev here : ℕ → ℤ
    here j = sum_of (plan_at (finest + l) pl) controls (2 * (step r * 2 ^ l + j) + axis)

    -- they are the ends of a flat piece
    stretch : Stretch pl.basis tolerance l (λ (n : ℕ). sum_of (plan_at (finest + l) pl) controls (2 * n + 0)) (λ (n : ℕ). sum_of (plan_at (finest + l) pl) controls (2 * n + 1)) (step r) (step (r + 1))
    stretch = neighbours pl tolerance l controls (answered-sound s tolerance most controls lent fs held done) r (omega (arith, many-along s tolerance most controls lent fs held done))

    -- the one after the other
    pub steps-rise : step r < step (r + 1)
    steps-rise = omega (arith, stretch.ends, pow_pos stretch.left)

    near : Near pl.basis tolerance l (λ (n : ℕ). sum_of (plan_at (finest + l) pl) controls (2 * n + axis)) (step r) (step (r + 1))
    near =
        let rule : ℕ → ℕ → ℤ = λ (axis n : ℕ). sum_of (plan_at (finest + l) pl) controls (2 * n + axis) in
        on-axes (λ (axis : ℕ). Near pl.basis tolerance l (rule axis) (step r) (step (r + 1))) (near-x pl.basis tolerance l (rule 0) (rule 1) (step r) (step (r + 1)) stretch) (near-y pl.basis tolerance l (rule 0) (rule 1) (step r) (step (r + 1)) stretch) axis a

    -- the exact points
    pub chosen-within : (j : ℕ) → j ≤ w → Within (micrometres tolerance) (off_chord w j (finer l (sum r axis)) (finer l (sum (r + 1) axis)) (here j)) (w * d)
    chosen-within j b =
        subst (λ z. Within (micrometres tolerance) (off_chord w j z (finer l (sum (r + 1) axis)) (here j)) (w * d)) (sums-again pl controls finest l (step r) axis a)
        (subst (λ z. Within (micrometres tolerance) (off_chord w j (sum_of (plan_at (finest + l) pl) controls (2 * (step r * 2 ^ l) + axis)) z (here j)) (w * d)) (sums-again pl controls finest l (step (r + 1)) axis a) (near j b))

    -- the points as they stand in the list
    pub router-within : (j : ℕ) → j ≤ w → Within (half_more (micrometres tolerance)) (off_chord w j (pos d *ℤ get_or held (2 * r + axis) (pos 0)) (pos d *ℤ get_or held (2 * (r + 1) + axis) (pos 0)) (here j)) (w * d)
    router-within j b =
        let close : (n : ℕ) → n < fs.points → 2 * nat_abs (finer l (sum n axis) -ℤ pos d *ℤ get_or held (2 * n + axis) (pos 0)) ≤ d =
        λ n k. close-again pl.basis finest l (sum n axis) (get_or held (2 * n + axis) (pos 0)) (held_at n axis k a) in
        rounded-within w j d (finer l (sum r axis)) (finer l (sum (r + 1) axis)) (here j) (get_or held (2 * r + axis) (pos 0)) (get_or held (2 * (r + 1) + axis) (pos 0)) b (close r (omega arith)) (close (r + 1) h) (micrometres tolerance) (chosen-within j b)
