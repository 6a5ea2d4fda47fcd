-- Document 01's table of bases, as it is printed there, and a line for the loop (document 02, request 8). Definitions only; that it is the one that stride, records and spans give is proved.
use Rattle.std.specs.Prelude.{true, ◌↔◌, ◌≡◌, ℕ, ◌+◌, ◌*◌, ◌≤◌}
use Rattle.curve.specs.Span.{first_record, round_end, record_at}
use Rattle.curve.specs.declared.Basis.{Basis}
use Rattle.curve.specs.declared.Basis.TheVariants.{Bezier, BSpline, Cardinal, Hermite, Loop}
use Rattle.shape.specs.Shape.{records_of, spans_of, allowed}

-- A line of it: the controls of m spans, how many spans there are at least and at most, and the records that span s uses, from the first, i = 0, to the fourth.
pub record Line (b : Basis) (controls : ℕ → ℕ) (least most : ℕ) (used : ℕ → ℕ → ℕ) : Type 0 where
  pub records : (m : ℕ) → records_of b m ≡ controls m
  pub spans : (n : ℕ) → (allowed b n ≡ true) ↔ ((least ≤ spans_of b n) × (spans_of b n ≤ most) × (n ≡ controls (spans_of b n)))
  pub uses : (s i : ℕ) → record_at b (first_record b s + i) ≡ used s i

pub record Table : Type 0 where
  pub bezier : Line Bezier (λ m. 3 * m + 1) 1 21 (λ s i. 3 * s + i)
  pub b_spline : Line BSpline (λ m. m + 3) 1 61 (λ s i. s + i)
  pub cardinal : (c : ℕ) → Line (Cardinal c) (λ m. m + 3) 1 61 (λ s i. s + i)
  pub hermite : Line Hermite (λ m. 2 * m + 2) 1 31 (λ s i. 2 * s + i)
  pub loop : (n : ℕ) → Line (Loop n) (λ m. m) 4 64 (λ s i. round_end n (s + i))
