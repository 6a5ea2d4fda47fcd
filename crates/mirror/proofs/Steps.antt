-- Mirrored drawing steps: a step on a mirrored state and list comes to the mirror of what it came to, refused or not, and so does any sequence of steps.
use Rattle.std.specs.Prelude.{Err, Ok, Result}
use mathlib.Core.Path.{◌≡◌, refl, sym, ap, ◌∙◌}
use mathlib.Core.Bool.{Bool, true, false, not, cond, ◌&&◌, ◌||◌}
use mathlib.Core.List.{List, [], ◌∷◌, ◌++◌, map}
use mathlib.Core.Logic.{⊎_elim}
use Prim.Native.Nat.{ℕ, ◌+◌, ◌*◌, max}
use lib.Dec.{eqb, ltb}
use lib.IntN.{ℤ, neg_ℤ, neg_ℤ-neg_ℤ}
use lib.Ieee.{Float, neg}
use lib.ListN.{length-map}
use lib.Seq.{sets}
use Rattle.whole.specs.Outcome.{outcome, refuses}
use Rattle.curve.specs.Limits.{limit}
use Rattle.curve.specs.Numbers.{equal}
use Rattle.doubles.specs.Number.{measure, paper}
use Rattle.shape.specs.Shape.{most_records}
use Rattle.shape.specs.Refusals.{row, judge}
use Rattle.shape.proofs.Tests.{passes, true-is-not-false}
use Rattle.drawing.specs.declared.Control.{Control}
use Rattle.drawing.specs.declared.State.{State}
use Rattle.drawing.specs.declared.Step.{Step}
use Rattle.drawing.specs.declared.Step.TheVariants.{Move, Line, Cubic, Close}
use Rattle.drawing.specs.Drawing.{numbers, at, opens, same, line, added, last_of, start_after, closed_after, grown, next, flat}
use Rattle.drawing.specs.Reading.{miscounted, strays, astray, out_of_turn, state_rows, number_row, number_rows, space_rows, rows, accepts, stepped, state_after}
use Rattle.drawing.specs.Sequences.{Held, begin, after, drawn}
use Rattle.drawing.proofs.Same.{is-equal, equal_is, is-unequal}
use Rattle.mirror.specs.Mirror.{Axis, X, Y, mirror_x, mirror_y, across, mirrored, mirror}
use Rattle.mirror.specs.Steps.{minus_measure, mirror_step, mirror_control, mirror_drawing, mirror_answer, mirror_stepped, mirror_held}
use Rattle.doubles.specs.declared.Unmeasured.{Unmeasured}
use Rattle.doubles.specs.declared.Unmeasured.TheVariants.{NotFinite, Outside}
use Rattle.shape.specs.declared.Refusal.{Refusal}
use Rattle.mirror.proofs.Lists.{across-cases, across-through, length-mirrored, mirrored-sets, across-beyond, judge-mirror}
use Rattle.mirror.proofs.Doubles.{minus-measure}

-- ---- controls

mirror-strays : (axis : Axis) (c : Control) → strays (mirror_control axis c) ≡ strays c
mirror-strays axis c = λ k. across-beyond axis 0 limit c.x k || across-beyond axis 1 limit c.y k

minus-equal : (a b : ℤ) → equal (neg_ℤ a) (neg_ℤ b) ≡ equal a b
minus-equal a b =
    ⊎_elim (λ t. is-equal (neg_ℤ a) (neg_ℤ b) (ap neg_ℤ (equal_is a b t)) ∙ sym t)
    (λ f. is-unequal (neg_ℤ a) (neg_ℤ b) (λ e. true-is-not-false (is-equal a b (sym (neg_ℤ-neg_ℤ a) ∙ ap neg_ℤ e ∙ neg_ℤ-neg_ℤ b)) f) ∙ sym f)
    (passes (equal a b))

mirror-same : (axis : Axis) (a b : Control) → same (mirror_control axis a) (mirror_control axis b) ≡ same a b
mirror-same axis a b =
    let alike : (q : ℕ) (y z : ℤ) → equal (across neg_ℤ axis q y) (across neg_ℤ axis q z) ≡ equal y z =
    λ q y z. across-cases neg_ℤ axis (λ g. equal (g y) (g z) ≡ equal y z) refl (minus-equal y z) q in
    λ k. alike 0 a.x b.x k && alike 1 a.y b.y k

mirror-flat : (axis : Axis) (cs : List Control) → flat (map (mirror_control axis) cs) ≡ mirror axis (flat cs)
unfolding mirrored
mirror-flat axis [] = refl
mirror-flat axis (c ∷ cs) = ap (λ l. mirror_x neg_ℤ axis c.x ∷ mirror_y neg_ℤ axis c.y ∷ l) (mirror-flat axis cs)

mirror-last : (axis : Axis) (c : Control) (cs : List Control) → last_of (mirror_control axis c) (map (mirror_control axis) cs) ≡ mirror_control axis (last_of c cs)
mirror-last axis c [] = refl
mirror-last axis c (a ∷ cs) = mirror-last axis a cs

mirror-unless : (axis : Axis) (t : Bool) (cs : List Control) → cond t [] (map (mirror_control axis) cs) ≡ map (mirror_control axis) (cond t [] cs)
mirror-unless axis true cs = refl
mirror-unless axis false cs = refl

-- ---- what no number is read for

mirror-opens : (axis : Axis) (step : Step) → opens (mirror_step axis step) ≡ opens step
mirror-opens axis (Move x y) = refl
mirror-opens axis (Line x y) = refl
mirror-opens axis (Cubic a b c d e f) = refl
mirror-opens axis Close = refl

mirror-closed : (axis : Axis) (s : State) (step : Step) → closed_after (mirror_drawing axis s) (mirror_step axis step) ≡ closed_after s step
mirror-closed axis s (Move x y) = refl
mirror-closed axis s (Line x y) = refl
mirror-closed axis s (Cubic a b c d e f) = refl
mirror-closed axis s Close = refl

mirror-state-rows : (axis : Axis) (s : State) (step : Step) → state_rows (mirror_drawing axis s) (opens (mirror_step axis step)) ≡ state_rows s (opens step)
unfolding miscounted astray out_of_turn
mirror-state-rows axis s step =
    λ k.
    row (miscounted s) 3 0
    ∷ row (not (eqb s.count 0) && (mirror-strays axis s.start k || mirror-strays axis s.current k)) 8 0
    ∷ row (out_of_turn s (mirror-opens axis step k)) 12 0
    ∷ []

mirror-space-rows : (axis : Axis) (n m : ℕ) (l : List ℤ) → space_rows n m (mirror axis l) ≡ space_rows n m l
mirror-space-rows axis n m l = λ k. row (ltb most_records m) 6 0 ∷ row (ltb (length-mirrored neg_ℤ axis l k) (2 * max n m)) 7 0 ∷ []

-- the state that the caller has then
mirror-state-after : (axis : Axis) (s : State) (a : Result State Refusal) → state_after (mirror_drawing axis s) (mirror_answer axis a) ≡ mirror_drawing axis (state_after s a)
mirror-state-after axis s (Ok t) = refl
mirror-state-after axis s (Err r) = refl

-- before the first step there is nothing to negate
mirror-begin : (axis : Axis) (l : List ℤ) → begin (mirror axis l) ≡ mirror_held axis (begin l)
mirror-begin X l = refl
mirror-begin Y l = refl

-- ---- a number: its refusal stays, and its coordinate is negated

minus-paper : (m : Result ℤ Unmeasured) → paper (minus_measure m) ≡ ((paper m).0, neg_ℤ (paper m).1)
minus-paper (Err NotFinite) = refl
minus-paper (Err Outside) = refl
minus-paper (Ok n) = refl

minus_number : (x : Float) → paper (measure (neg x)) ≡ ((paper (measure x)).0, neg_ℤ (paper (measure x)).1)
minus_number x = ap paper (minus-measure x) ∙ minus-paper (measure x)

mirror-row : (axis : Axis) (q i : ℕ) (x : Float) → number_row i (across neg axis q x) ≡ number_row i x
mirror-row axis q i x = across-cases neg axis (λ g. number_row i (g x) ≡ number_row i x) refl (λ k. row (ltb 0 (minus_number x k).0) (minus_number x k).0 i) q

mirror-numbers : (axis : Axis) (step : Step) → number_rows 0 (numbers (mirror_step axis step)) ≡ number_rows 0 (numbers step)
mirror-numbers axis (Move x y) = λ k. mirror-row axis 0 0 x k ∷ mirror-row axis 1 1 y k ∷ []
mirror-numbers axis (Line x y) = λ k. mirror-row axis 0 0 x k ∷ mirror-row axis 1 1 y k ∷ []
mirror-numbers axis (Cubic a b c d e f) =
    λ k. mirror-row axis 0 0 a k ∷ mirror-row axis 1 1 b k ∷ mirror-row axis 0 2 c k ∷ mirror-row axis 1 3 d k ∷ mirror-row axis 0 4 e k ∷ mirror-row axis 1 5 f k ∷ []
mirror-numbers axis Close = refl

mirror-control : (axis : Axis) (x y : Float) → at (mirror_x neg axis x) (mirror_y neg axis y) ≡ mirror_control axis (at x y)
mirror-control axis x y =
    let meant : (q : ℕ) (v : Float) → (paper (measure (across neg axis q v))).1 ≡ across neg_ℤ axis q (paper (measure v)).1 =
    λ q v. across-through neg neg_ℤ (λ u. (paper (measure u)).1) v (λ k. (minus_number v k).1) axis q in
    λ k. record { x = meant 0 x k; y = meant 1 y k }

-- ---- a step

mirror-added : (axis : Axis) (s : State) (step : Step) → added (mirror_drawing axis s) (mirror_step axis step) ≡ map (mirror_control axis) (added s step)
unfolding added
mirror-added axis s (Move x y) = λ k. mirror-control axis x y k ∷ []
mirror-added axis s (Line x y) = λ k. line (mirror_control axis s.current) (mirror-control axis x y k)
mirror-added axis s (Cubic a b c d e f) = λ k. mirror-control axis a b k ∷ mirror-control axis c d k ∷ mirror-control axis e f k ∷ []
mirror-added axis s Close =
    let lined = line s.current s.start in
    ap (λ t. cond t [] (map (mirror_control axis) lined)) (mirror-same axis s.current s.start) ∙ mirror-unless axis (same s.current s.start) lined

mirror-start : (axis : Axis) (s : State) (step : Step) → start_after (mirror_drawing axis s) (mirror_step axis step) ≡ mirror_control axis (start_after s step)
mirror-start axis s (Move x y) = mirror-control axis x y
mirror-start axis s (Line x y) = refl
mirror-start axis s (Cubic a b c d e f) = refl
mirror-start axis s Close = refl

mirror-next : (axis : Axis) (s : State) (step : Step) → next (mirror_drawing axis s) (mirror_step axis step) ≡ mirror_drawing axis (next s step)
mirror-next axis s step =
    (λ k. grown (mirror_drawing axis s) (mirror-added axis s step k) (mirror-start axis s step k) (mirror-closed axis s step k))
    ∙ (λ k.
    record {
      count = s.count + length-map (added s step) (mirror_control axis) k;
      start = mirror_control axis (start_after s step);
      current = mirror-last axis s.current (added s step) k;
      closed = closed_after s step;
    })

mirror-rows : (axis : Axis) (s : State) (step : Step) (l : List ℤ) → rows (mirror_drawing axis s) (mirror_step axis step) (mirror axis l) ≡ rows s step l
mirror-rows axis s step l = λ k. mirror-state-rows axis s step k ++ mirror-numbers axis step k ++ mirror-space-rows axis s.count (mirror-next axis s step k).count l k

mirror-accepts : (axis : Axis) (s : State) (step : Step) (l : List ℤ) → accepts (mirror_drawing axis s) (mirror_step axis step) (mirror axis l) ≡ mirror_stepped axis (accepts s step l)
mirror-accepts axis s step l =
    let records = ap flat (mirror-added axis s step) ∙ mirror-flat axis (added s step) in
    let written = ap (sets (mirror axis l) (2 * s.count)) records ∙ sym (mirrored-sets neg_ℤ axis l s.count (flat (added s step))) in
    λ k. outcome (Ok (mirror-next axis s step k)) (written k)

-- for every state, step and list, refusals too
pub mirror-stepped : (axis : Axis) (s : State) (step : Step) (l : List ℤ) → stepped (mirror_drawing axis s) (mirror_step axis step) (mirror axis l) ≡ mirror_stepped axis (stepped s step l)
unfolding stepped
mirror-stepped axis s step l =
    let accepted = accepts (mirror_drawing axis s) (mirror_step axis step) (mirror axis l) in
    ap (λ r. judge r (refuses Err (mirror axis l)) accepted) (mirror-rows axis s step l)
    ∙ judge-mirror (mirror_stepped axis) (rows s step l) (refuses Err l) (accepts s step l) accepted (λ none. mirror-accepts axis s step l)

-- ---- steps one after another

mirror-after : (axis : Axis) (h : Held) (step : Step) → after (mirror_held axis h) (mirror_step axis step) ≡ mirror_held axis (after h step)
mirror-after axis h step =
    let out = stepped h.state step h.controls in
    ap (λ o. record { state = state_after (mirror_drawing axis h.state) o.answer; controls = o.held }) (mirror-stepped axis h.state step h.controls)
    ∙ (λ k. record { state = mirror-state-after axis h.state out.answer k; controls = mirror axis out.held })

pub mirror-drawn : (axis : Axis) (h : Held) (steps : List Step) → drawn (mirror_held axis h) (map (mirror_step axis) steps) ≡ mirror_held axis (drawn h steps)
unfolding drawn
mirror-drawn axis h [] = refl
mirror-drawn axis h (step ∷ steps) = ap (λ g. drawn g (map (mirror_step axis) steps)) (mirror-after axis h step) ∙ mirror-drawn axis (after h step) steps

-- from the empty state, whatever the list of controls and the steps
pub mirror-begun : (axis : Axis) (l : List ℤ) (steps : List Step) → drawn (begin (mirror axis l)) (map (mirror_step axis) steps) ≡ mirror_held axis (drawn (begin l) steps)
mirror-begun axis l steps = ap (λ h. drawn h (map (mirror_step axis) steps)) (mirror-begin axis l) ∙ mirror-drawn axis (begin l) steps
