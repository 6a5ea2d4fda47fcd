-- A span is drawn from its own four records alone: the outline of those, as an outline of one span, has the span's points (document 02, request 10). A loop's span is a B-spline's by itself.
use mathlib.Core.Bool.{false}
use mathlib.Core.List.{List}
use mathlib.Core.Path.{◌≡◌, refl, sym, ap, ◌∙◌}
use Prim.Native.Nat.{ℕ, ◌+◌, ◌*◌, ◌<◌, ◌/◌, ◌%◌}
use native.Mathlib.Nat.{mul-zero, zero-mul}
use native.Mathlib.Omega.{arith}
use lib.IntN.{ℤ}
use Rattle.curve.specs.declared.Four.{Four}
use Rattle.curve.specs.declared.Basis.{Basis}
use Rattle.curve.specs.declared.Basis.TheVariants.{Bezier, BSpline, Cardinal, Hermite, Loop}
use Rattle.curve.specs.Span.{stride, coordinate, first_record, is_loop, record_at, records, whole_controls, point}
use Rattle.curve.proofs.Round.{records-open, same-records}
use Rattle.shape.specs.declared.Plan.{Plan}
use Rattle.spans.specs.Numbers.{number, per_span}
use Rattle.spans.proofs.Numbers.{span-point}

-- the basis of one span by itself
abbrev pub by_itself : Basis → Basis
by_itself Bezier = Bezier
by_itself BSpline = BSpline
by_itself (Cardinal c) = Cardinal c
by_itself Hermite = Hermite
by_itself (Loop n) = BSpline

itself-open : (b : Basis) → is_loop (by_itself b) ≡ false
itself-open Bezier = refl
itself-open BSpline = refl
itself-open (Cardinal c) = refl
itself-open Hermite = refl
itself-open (Loop n) = refl

-- it has the same curve
itself-point : (b : Basis) (k : ℕ) (q : Four) (i : ℕ) → point (by_itself b) k q i ≡ point b k q i
unfolding point whole_controls
itself-point Bezier k q i = refl
itself-point BSpline k q i = refl
itself-point (Cardinal c) k q i = refl
itself-point Hermite k q i = refl
itself-point (Loop n) k q i = refl

-- and a list that begins with span t's four records has them for its first span
first-is : (b : Basis) (t : ℕ) (own at : ℕ → ℤ) → ((i : ℕ) → i < 4 → own i ≡ at (record_at b (first_record b t + i))) → records (by_itself b) 0 own ≡ records b t at
unfolding first_record
first-is b t own at same =
    let none : first_record (by_itself b) 0 ≡ 0 = mul-zero (stride (by_itself b)) in
    records-open (by_itself b) (itself-open b) 0 own
    ∙ same-records (first_record (by_itself b) 0) (first_record b t) own (λ r. at (record_at b r)) (λ i few. ap (λ (n : ℕ). own (n + i)) none ∙ ap own (omega arith) ∙ same i few)

-- the plan of one span
abbrev pub alone : Plan → Plan
alone p = record { basis = by_itself p.basis; depth = p.depth; spans = 1 }

pub number-alone : (p : Plan) (controls own : List ℤ) (t j : ℕ) → t < p.spans → j < per_span p.depth + 2
    → ((axis i : ℕ) → axis < 2 → i < 4 → coordinate own axis i ≡ coordinate controls axis (record_at p.basis (first_record p.basis t + i)))
    → number (alone p) own j ≡ number p controls (t * per_span p.depth + j)
number-alone p controls own t j there within same =
    let b = p.basis in
    let here : 0 * per_span p.depth + j ≡ j = ap (λ (n : ℕ). n + j) (zero-mul (per_span p.depth)) ∙ omega arith in
    ap (number (alone p) own) (sym here)
    ∙ span-point (alone p) own 0 j (omega arith) within
    ∙ ap (λ (q : Four). point (by_itself b) p.depth q (j / 2)) (first-is b t (coordinate own (j % 2)) (coordinate controls (j % 2)) (λ i few. same (j % 2) i (omega arith) few))
    ∙ itself-point b p.depth (records b t (coordinate controls (j % 2))) (j / 2)
    ∙ sym (span-point p controls t j there within)
