-- The table of bases, as document 01 prints it, is what stride, records and spans give.
use mathlib.Core.Path.{◌≡◌, refl, sym, ap, ◌∙◌}
use mathlib.Core.Logic.{◌↔◌}
use Prim.Native.Nat.{ℕ, ◌+◌, ◌*◌, ◌≤◌}
use native.Mathlib.Nat.{one-mul}
use native.Mathlib.Omega.{arith}
use Rattle.curve.specs.Span.{first_record, round_end, record_at}
use Rattle.curve.specs.declared.Basis.{Basis}
use Rattle.shape.specs.Shape.{records_of, spans_of, least_records, most_records}
use Rattle.shape.specs.Table.{Line, Table}
use Rattle.shape.proofs.Spans.{allowed-facts, facts-allowed}

-- a row follows from its controls, their most and its first records
row_of : (b : Basis) (controls : ℕ → ℕ) (least most : ℕ) (uses : ℕ → ℕ → ℕ)
    → ((m : ℕ) → records_of b m ≡ controls m)
    → ((m : ℕ) → (least_records ≤ controls m) ↔ (least ≤ m))
    → ((m : ℕ) → (controls m ≤ most_records) ↔ (m ≤ most))
    → ((s i : ℕ) → record_at b (first_record b s + i) ≡ uses s i)
    → Line b controls least most uses
row_of b controls least most uses records some few same =
    record {
      records = records;
      spans =
          λ n.
          let m = spans_of b n in
          let count = records m in (
            (λ t. let (low, high, whole) = allowed-facts b n t in ((some m).0 (omega (arith, count, whole)), (few m).0 (omega (arith, count, whole)), sym whole ∙ count)),
            (λ (low, high, whole). facts-allowed b n (omega (arith, (some m).1 low, whole)) (omega (arith, (few m).1 high, whole)) (count ∙ sym whole)),
          );
      uses = same;
    }

-- where the stride is 1, span s begins with record s
from-own : (s i : ℕ) → 1 * s + i ≡ s + i
from-own s i = ap (λ (n : ℕ). n + i) (one-mul s)

pub table : Table
unfolding first_record records_of
table =
    record {
      bezier = row_of _ _ _ _ _ (λ m. refl) (λ m. (omega arith, omega arith)) (λ m. (omega arith, omega arith)) (λ s i. refl);
      b_spline = row_of _ _ _ _ _ (λ m. omega arith) (λ m. (omega arith, omega arith)) (λ m. (omega arith, omega arith)) from-own;
      cardinal = λ c. row_of _ _ _ _ _ (λ m. omega arith) (λ m. (omega arith, omega arith)) (λ m. (omega arith, omega arith)) from-own;
      hermite = row_of _ _ _ _ _ (λ m. refl) (λ m. (omega arith, omega arith)) (λ m. (omega arith, omega arith)) (λ s i. refl);
      loop = λ n. row_of _ _ _ _ _ (λ m. omega arith) (λ m. (omega arith, omega arith)) (λ m. (omega arith, omega arith)) (λ s i. ap (round_end n) (from-own s i));
    }
