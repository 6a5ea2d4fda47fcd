-- The lines are those of what drawing the four records came to.
use Rattle.std.specs.Prelude.{Result}
use mathlib.Core.List.{List}
use mathlib.Core.Path.{◌≡◌, sym, ap, ◌∙◌}
use Prim.Native.Nat.{ℕ, ◌*◌}
use native.Mathlib.Omega.{arith}
use lib.IntN.{ℤ}
use Rattle.whole.specs.Outcome.{outcome}
use Rattle.shape.specs.Shape.{least_records}
use Rattle.shape.specs.declared.Shape.{Shape}
use Rattle.shape.specs.declared.Refusal.{Refusal}
use Rattle.outline.specs.declared.Figures.{Figures}
use Rattle.outline.specs.Outline.{draws}
use Rattle.listing.specs.Listing.{point_lines, listed_by}
use Rattle.file_list.specs.Parts.{alone_basis, one_span, span_room}
use Rattle.file_list.proofs.EachPart.{first_small, records-then, drawn-lines, no_text}
use Rattle.file_list.proofs.parts.put_lines.Goals as goal

-- what was drawn is the span by itself
drew : (s : Shape) (b : ℕ) (records held : List ℤ) (r : Result Figures Refusal) → b ≡ alone_basis s.basis
    → outcome r held ≡ draws (record { basis = b; depth = s.depth; count = least_records; parameter = s.parameter }) records span_room
    → draws (one_span s) records span_room ≡ outcome r held
drew s b records held r alone drawn =
    ap (λ (n : ℕ). draws (record { basis = n; depth = s.depth; count = least_records; parameter = s.parameter }) records span_room) (sym alone) ∙ sym drawn

pub returns-in_default : goal.returns-in_default
returns-in_default c =
    let a = c.args in
    let d = c.by_differences in
    let held = d.new.points in
    no_text a.text.now _ (records-then a.sound.shape a.sound.plan a.span a.records.now (outcome _ held) (drew a.sound.shape c.alone_basis.result a.records.now held d.result c.alone_basis.ensures d.ensures ∙ ap (λ r. outcome r held) c.in_default.is))

pub overflow_mul-first : goal.overflow_mul-first
overflow_mul-first c =
    let a = c.args in
    omega (arith, ap (λ (n : ℕ). a.span * n) c.steps.ensures, first_small a.sound.shape a.sound.plan c.args.sound.good a.span c.requires)

pub returns : goal.returns
returns c =
    let a = c.args in
    let d = c.by_differences in
    let held = d.new.points in
    c.list_points.ensures
    ∙ (λ i. listed_by (point_lines (a.span * c.steps.ensures i)) a.text.now held (c.own_points.ensures i))
    ∙ drawn-lines a.sound.shape a.sound.plan a.span c.args.sound.good.depth-most a.records.now _ held (drew a.sound.shape c.alone_basis.result a.records.now held d.result c.alone_basis.ensures d.ensures ∙ ap (λ r. outcome r held) c.in-Ok.is) a.text.now
