-- Insert and remove are of the splines, whose stride is 1: span t begins with record t, and one span more is one record more.
use mathlib.Core.Path.{◌≡◌, refl, ap, ◌∙◌}
use mathlib.Core.Bool.{true}
use Prim.Native.Nat.{ℕ, ◌+◌}
use borrow.Author.Tests.{eqb-true}
use lib.Dec.{eqb}
use Rattle.curve.specs.declared.Basis.{Basis}
use Rattle.curve.specs.Span.{stride, first_record, recount}
use Rattle.curve.proofs.Stride.{unit-first}
use Rattle.shape.specs.Shape.{tail, records_of}
use Rattle.shape.proofs.Spans.{records-first, recount-stride}
use Rattle.asked.specs.declared.Edit.{Edit}
use Rattle.asked.specs.declared.Edit.TheVariants.{Move, Insert, Remove}
use Rattle.asked.specs.Edits.{is_spline, offered}

module _ (b : Basis) (o : is_spline b ≡ true) (n : ℕ) where
  one : stride b ≡ 1
  one = eqb-true (stride b) 1 o

  pub spline-first : first_record b n ≡ n
  spline-first = unit-first b one n

  pub spline-records : records_of b n ≡ n + tail b
  spline-records = records-first b n ∙ ap (λ (r : ℕ). r + tail b) spline-first

-- what is offered for a basis is offered for it with another number of records
pub offered-again : (e : Edit) (m : ℕ) (b : Basis) → offered e b ≡ true → offered e (recount m b) ≡ true
offered-again (Move x y) m b o = refl
offered-again (Insert x y) m b o = ap (λ (d : ℕ). eqb d 1) (recount-stride m b) ∙ o
offered-again Remove m b o = ap (λ (d : ℕ). eqb d 1) (recount-stride m b) ∙ o
