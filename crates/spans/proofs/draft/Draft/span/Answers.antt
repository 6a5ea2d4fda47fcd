-- The controls of a span of a plan are ready (`span-ready`), over the divisor that its bits give.
use mathlib.Core.List.{List}
use mathlib.Core.Path.{◌≡◌, refl, sym, ap, ◌∙◌, subst}
use Prim.Native.Nat.{ℕ, ◌≤◌, ◌<◌}
use lib.Dec.{lit<}
use lib.IntN.{ℤ}
use Rattle.curve.specs.declared.Four.{Four}
use Rattle.curve.specs.Span.{divisor}
use Rattle.curve.specs.Inner.{bits_of, divisor_of, most_bits}
use Rattle.curve.proofs.Bits.{divisor-bits, bits_most}
use Rattle.shape.specs.declared.Plan.{Plan}
use Rattle.spans.specs.Inner.{Ready, Drawable}
use Rattle.spans.proofs.Drawables.{span-ready}
use Rattle.spans.proofs.Numbers.{span_controls}
use Rattle.spans.proofs.draft.Draft.span.Goals as goal

over : (p : Plan) {bits : ℕ} → bits ≡ bits_of p.basis p.depth → divisor_of bits ≡ divisor p.basis p.depth
over p e = ap divisor_of e ∙ sym (divisor-bits p.basis p.depth)

ready : (p : Plan) (controls : List ℤ) → Drawable p controls → (s axis : ℕ) → s < p.spans → axis < 2
    → {bits : ℕ} → bits ≡ bits_of p.basis p.depth → {q : Four} → q ≡ span_controls p.basis controls s axis → Ready p.depth (divisor_of bits) q
ready p controls d s axis there two {bits} e {q} f =
    subst (λ (n : ℕ). Ready p.depth n q) (sym (over p e)) (subst (Ready p.depth (divisor p.basis p.depth)) (sym f) (span-ready p controls d s axis there two))

pub invariant_of-result : goal.invariant_of-result
invariant_of-result c =
    let d = c.args.self.now in
    let p = d.plan in
    let bits = c.divisor_bits.ensures in
    record {
      shallow = d.deep;
      few = subst (λ (n : ℕ). n ≤ most_bits) (sym bits) (bits_most p.basis p.depth d.deep);
      ready_x = ready p d.controls.now d.drawable c.args.span 0 c.requires (lit< tt) bits c.span_controls.ensures;
      ready_y = ready p d.controls.now d.drawable c.args.span 1 c.requires (lit< tt) bits c.span_controls-2.ensures;
    }

pub returns-clause-depth_value : goal.returns-clause-depth_value
returns-clause-depth_value c = (refl, over c.args.self.now.plan c.divisor_bits.ensures)
