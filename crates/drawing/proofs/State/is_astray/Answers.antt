-- Of two records, the first that is outside comes before the end exactly when one of them is outside.
use Rattle.std.proofs.Common.{rules, ◌≡◌, ◌∙◌, refl, Bool, true, false, [], ◌∷◌, w32}
use Rattle.std.specs.Prelude.{cond, ◌||◌}
use borrow.Author.Tests.{eq-eqb, ne_eqb}
use lib.Dec.{ltb}
use Rattle.whole.proofs.Fit.{kept-is}
use Rattle.curve.specs.Span.{coordinate}
use Rattle.shape.specs.Refusals.{seek, outside, first_outside}
use Rattle.drawing.specs.declared.Control.{Control}
use Rattle.drawing.specs.Drawing.{flat}
use Rattle.drawing.specs.Reading.{strays, astray}
use Rattle.drawing.proofs.State.is_astray.Goals as goal

one_of_two : (p q : Bool) → ltb (cond p 0 (cond q 1 2)) 2 ≡ (p || q)
one_of_two true q = refl
one_of_two false true = refl
one_of_two false false = refl

two_records : (a b : Control) → ltb (first_outside (flat (a ∷ b ∷ [])) 2) 2 ≡ (strays a || strays b)
unfolding seek outside coordinate
two_records a b = one_of_two (strays a) (strays b)

pub returns-then-self-ne0 : goal.returns-then-self-ne0
unfolding astray
returns-then-self-ne0 c =
    let s = c.args.self in
    let x = kept-is w32 s.start.x (search rules) in
    let y = kept-is w32 s.start.y (search rules) in
    let z = kept-is w32 s.current.x (search rules) in
    let w = kept-is w32 s.current.y (search rules) in
    let found = c.first_outside.ensures ∙ (λ k. first_outside (x k ∷ y k ∷ z k ∷ w k ∷ []) 2) in
    rw found (two_records s.start s.current ∙ simp (ne_eqb s.count 0 c.if-self-ne0.true))

pub returns-else-self-ne0 : goal.returns-else-self-ne0
unfolding astray
returns-else-self-ne0 c = let s = c.args.self in simp (eq-eqb s.count 0 c.if-self-ne0.false)
