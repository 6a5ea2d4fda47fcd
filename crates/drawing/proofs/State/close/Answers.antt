-- Where current is not start a line to it is added; where it is, nothing is, and only closed changes.
use Rattle.std.specs.Prelude.{ℤ}
use Rattle.std.proofs.Common.{◌≡◌, ◌∙◌, ap, sym, List, [], true, false}
use Rattle.drawing.specs.declared.State.{State}
use Rattle.drawing.specs.declared.Step.TheVariants.{Close}
use Rattle.drawing.specs.Drawing.{same, line, added}
use Rattle.drawing.specs.Inner.{extends, goes_on}
use Rattle.drawing.proofs.Same.{tests_same}
use Rattle.drawing.proofs.Tables.{numbers-good}
use Rattle.drawing.proofs.State.close.Goals as goal

nothing : (s : State) (l : List ℤ) → same s.current s.start ≡ true → goes_on s Close l ≡ extends s [] s.start true l
unfolding added
nothing s l e = numbers-good s Close l tt ∙ ap (λ cs. extends s cs s.start true l) (rw e)

lined : (s : State) (l : List ℤ) → same s.current s.start ≡ false → goes_on s Close l ≡ extends s (line s.current s.start) s.start true l
unfolding added
lined s l e = numbers-good s Close l tt ∙ ap (λ cs. extends s cs s.start true l) (rw e)

pub returns-then-eq : goal.returns-then-eq
returns-then-eq c =
    let s = c.args.self in
    c.add.ensures ∙ sym (nothing s c.args.controls.now (sym (tests_same s.current s.start) ∙ sym c.eq.ensures ∙ c.if-eq.true))

pub returns-else-eq : goal.returns-else-eq
returns-else-eq c =
    let s = c.args.self in
    let l = c.args.controls.now in
    c.add-else-eq.ensures
    ∙ ap (λ cs. extends s cs s.start true l) c.line.ensures
    ∙ sym (lined s l (sym (tests_same s.current s.start) ∙ sym c.eq.ensures ∙ c.if-eq.false))
