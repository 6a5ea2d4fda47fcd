-- "At count 0 start and current aren't looked at" (document 01, "Preview and drawing").
use mathlib.Core.Path.{◌≡◌, refl, sym, ap, ◌∙◌}
use mathlib.Core.Bool.{Bool, true, false}
use mathlib.Core.List.{List}
use Prim.Native.Nat.{ℕ}
use lib.IntN.{ℤ}
use Rattle.shape.specs.Refusals.{judge}
use Rattle.drawing.specs.declared.Control.{Control}
use Rattle.drawing.specs.declared.State.{State}
use Rattle.drawing.specs.declared.Step.{Step}
use Rattle.drawing.specs.declared.Step.TheVariants.{Move, Line, Cubic, Close}
use Rattle.drawing.specs.Drawing.{added}
use Rattle.drawing.specs.Reading.{reached, miscounted, astray, out_of_turn, stepped}

abbrev begun : Bool → Control → Control → State
begun closed start current = record { count = 0; start = start; current = current; closed = closed }

not-looked-at : (closed : Bool) (a b c d : Control) (step : Step) (l : List ℤ) → stepped (begun closed a b) step l ≡ stepped (begun closed c d) step l
unfolding stepped judge miscounted reached astray out_of_turn added
not-looked-at true a b c d step l = refl
not-looked-at false a b c d (Move x y) l = refl
not-looked-at false a b c d (Line x y) l = refl
not-looked-at false a b c d (Cubic p q r s t u) l = refl
not-looked-at false a b c d Close l = refl

-- two states of count 0 that are both closed or both not: a step comes to the same
pub nothing-drawn : (s t : State) → s.count ≡ 0 → t.count ≡ 0 → s.closed ≡ t.closed → (step : Step) (l : List ℤ) → stepped s step l ≡ stepped t step l
nothing-drawn s t none-s none-t alike step l =
    let with-count : State → ℕ → State = λ u n. record { count = n; start = u.start; current = u.current; closed = u.closed } in
    ap (λ n. stepped (with-count s n) step l) none-s
    ∙ not-looked-at s.closed s.start s.current t.start t.current step l
    ∙ ap (λ c. stepped (begun c t.start t.current) step l) alike
    ∙ sym (ap (λ n. stepped (with-count t n) step l) none-t)
