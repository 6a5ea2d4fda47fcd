-- The second differences of a span's Bezier controls in its own records: an identity for each basis.
use mathlib.Core.Path.{◌≡◌}
use lib.IntN.{pos}
use Rattle.whole.proofs.Ring.{◌⊕◌, ◌⊖◌, ◌⊗◌, solve}
use Rattle.curve.specs.declared.Four.{Four}
use Rattle.curve.specs.declared.Basis.{Basis}
use Rattle.curve.specs.declared.Basis.TheVariants.{Bezier, BSpline, Cardinal, Hermite, Loop}
use Rattle.curve.specs.Bend.{first_bend, last_bend, first_in_records, last_in_records}
use Rattle.curve.specs.Span.{whole_controls}
use Rattle.curve.proofs.Reflect.{p, num, taut, values_with, wholeᵉ, first_bendᵉ, last_bendᵉ}

pub first-in-records : (b : Basis) (q : Four) → first_bend (whole_controls b q) ≡ first_in_records b q
unfolding whole_controls
first-in-records Bezier q = solve (values_with Bezier q (pos 0) (pos 0)) (first_bendᵉ (wholeᵉ Bezier p)) (num 6 ⊗ (p.a ⊖ num 2 ⊗ p.b ⊕ p.c)) tt
first-in-records BSpline q = solve (values_with BSpline q (pos 0) (pos 0)) (first_bendᵉ (wholeᵉ BSpline p)) (p.a ⊖ num 2 ⊗ p.b ⊕ p.c) tt
first-in-records (Cardinal n) q = solve (values_with (Cardinal n) q (pos 0) (pos 0)) (first_bendᵉ (wholeᵉ (Cardinal n) p)) (num 192 ⊗ (p.c ⊖ p.b) ⊖ num 2 ⊗ taut ⊗ (p.c ⊖ p.a) ⊖ taut ⊗ (p.d ⊖ p.b)) tt
first-in-records Hermite q = solve (values_with Hermite q (pos 0) (pos 0)) (first_bendᵉ (wholeᵉ Hermite p)) (num 6 ⊗ (p.c ⊖ p.a) ⊖ num 4 ⊗ p.b ⊖ num 2 ⊗ p.d) tt
first-in-records (Loop n) q = solve (values_with (Loop n) q (pos 0) (pos 0)) (first_bendᵉ (wholeᵉ (Loop n) p)) (p.a ⊖ num 2 ⊗ p.b ⊕ p.c) tt

pub last-in-records : (b : Basis) (q : Four) → last_bend (whole_controls b q) ≡ last_in_records b q
unfolding whole_controls
last-in-records Bezier q = solve (values_with Bezier q (pos 0) (pos 0)) (last_bendᵉ (wholeᵉ Bezier p)) (num 6 ⊗ (p.b ⊖ num 2 ⊗ p.c ⊕ p.d)) tt
last-in-records BSpline q = solve (values_with BSpline q (pos 0) (pos 0)) (last_bendᵉ (wholeᵉ BSpline p)) (p.b ⊖ num 2 ⊗ p.c ⊕ p.d) tt
last-in-records (Cardinal n) q = solve (values_with (Cardinal n) q (pos 0) (pos 0)) (last_bendᵉ (wholeᵉ (Cardinal n) p)) (num 192 ⊗ (p.b ⊖ p.c) ⊕ taut ⊗ (p.c ⊖ p.a) ⊕ num 2 ⊗ taut ⊗ (p.d ⊖ p.b)) tt
last-in-records Hermite q = solve (values_with Hermite q (pos 0) (pos 0)) (last_bendᵉ (wholeᵉ Hermite p)) (num 6 ⊗ (p.a ⊖ p.c) ⊕ num 2 ⊗ p.b ⊕ num 4 ⊗ p.d) tt
last-in-records (Loop n) q = solve (values_with (Loop n) q (pos 0) (pos 0)) (last_bendᵉ (wholeᵉ (Loop n) p)) (p.b ⊖ num 2 ⊗ p.c ⊕ p.d) tt
