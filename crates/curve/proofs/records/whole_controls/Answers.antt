-- Each basis by its own function; a loop's controls are a B-spline's.
use mathlib.Core.Path.{◌≡◌, refl, sym, ap, ◌∙◌}
use mathlib.Core.Logic.{⊎_elim}
use Prim.Native.Nat.{ℕ}
use Rattle.curve.specs.declared.Basis.TheVariants.{BSpline, Loop}
use Rattle.curve.specs.declared.Four.{Four}
use Rattle.curve.specs.Span.{whole_controls}
use Rattle.curve.proofs.records.whole_controls.Goals as goal

as-b-spline : (n : ℕ) (q : Four) → whole_controls BSpline q ≡ whole_controls (Loop n) q
unfolding whole_controls
as-b-spline n q = refl

pub returns-in-BSpline : goal.returns-in-BSpline
returns-in-BSpline c =
    let q = c.args.p in
    c.bspline_controls.ensures
    ∙ ⊎_elim (λ (e : c.args.basis ≡ BSpline). ap (λ b. whole_controls b q) (sym e)) (λ (e : (n : ℕ) × (c.args.basis ≡ Loop n)). as-b-spline e.0 q ∙ ap (λ b. whole_controls b q) (sym e.1)) c.in-BSpline.is
