-- Which refusal comes first (document 02, request 7): 24 after 2 and before 3, and for basis 3 alone. And what a parameter means: 0 and 32 one half, 64 one.
use Rattle.std.specs.Prelude.{Err, Ok, Result}
use mathlib.Core.Path.{◌≡◌, refl}
use Prim.Native.Nat.{ℕ, ◌-◌, ◌^◌}
use Rattle.curve.specs.declared.Basis.TheVariants.{BSpline, Cardinal, Loop}
use Rattle.shape.specs.declared.Shape.{Shape}
use Rattle.shape.specs.Shape.{sixty_fourths, basis_of, spans_of, records_of, allowed}
use Rattle.shape.specs.Refusals.{judge, plan_of, judge_shape}
use Rattle.shape.specs.declared.Plan.{Plan}
use Rattle.shape.specs.declared.Refusal.{Refusal}

abbrev shape : ℕ → ℕ → ℕ → ℕ → Shape
shape b k n c = record { basis = b; depth = k; count = n; parameter = c }

abbrev refused : ℕ → Result Plan Refusal
refused n = Err (record { number = n; place = 0 })

pub depth-first : judge_shape (shape 3 9 3 65) ≡ refused 2
unfolding judge_shape judge
depth-first = refl

pub before-count : judge_shape (shape 3 8 3 65) ≡ refused 24
unfolding judge_shape judge
before-count = refl

pub count-last : judge_shape (shape 3 8 3 64) ≡ refused 3
unfolding judge_shape judge sixty_fourths basis_of spans_of records_of allowed
count-last = refl

pub other-basis : judge_shape (shape 2 8 3 65) ≡ refused 3
unfolding judge_shape judge basis_of spans_of records_of allowed
other-basis = refl

-- the greatest number that a shape can hold
pub largest : judge_shape (shape 3 8 4 (2 ^ 64 - 1)) ≡ refused 24
unfolding judge_shape judge
largest = refl

pub largest-unseen : judge_shape (shape 2 8 4 (2 ^ 64 - 1)) ≡ Ok (record { basis = BSpline; depth = 8; spans = 1 })
unfolding judge_shape judge plan_of basis_of spans_of records_of allowed
largest-unseen = refl

-- ---- document 02, request 8: a loop has from four to 64 records and as many spans, basis 6 is none, and no parameter of a loop is looked at

pub shortest : judge_shape (shape 5 8 4 0) ≡ Ok (record { basis = Loop 4; depth = 8; spans = 4 })
unfolding judge_shape judge plan_of basis_of spans_of records_of allowed
shortest = refl

pub longest : judge_shape (shape 5 8 64 65) ≡ Ok (record { basis = Loop 64; depth = 8; spans = 64 })
unfolding judge_shape judge plan_of basis_of spans_of records_of allowed
longest = refl

pub no_loop : (judge_shape (shape 5 8 3 0) ≡ refused 3) × (judge_shape (shape 5 8 65 0) ≡ refused 3) × (judge_shape (shape 6 8 4 0) ≡ refused 1)
unfolding judge_shape judge basis_of spans_of records_of allowed
no_loop = (refl, refl, refl)

pub one-half : (basis_of 3 0 4 ≡ Cardinal 32) × (basis_of 3 32 4 ≡ Cardinal 32) × (basis_of 3 64 4 ≡ Cardinal 64)
unfolding basis_of sixty_fourths
one-half = (refl, refl, refl)
