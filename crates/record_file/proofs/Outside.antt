-- Row 8 looks at the file's own records: a list that starts with a file's numbers has its first record outside the limits where the file has.
use mathlib.Core.Path.{◌≡◌, refl, ap, ◌∙◌}
use mathlib.Core.Bool.{Bool, cond, ◌||◌}
use mathlib.Core.List.{List, ◌++◌}
use Prim.Native.Nat.{ℕ, zero, suc, ◌+◌, ◌*◌, ◌≤◌, ◌<◌}
use native.Mathlib.Omega.{arith}
use lib.IntN.{ℤ, pos}
use lib.ListN.{length, get_or, drop, get_or-append}
use lib.Seq.{sets, sets-eq}
use Rattle.curve.specs.Span.{coordinate}
use Rattle.curve.specs.Limits.{beyond, limit}
use Rattle.shape.specs.Refusals.{outside, first_outside, seek}

-- two tests that agree find the same
seek-same : (t u : ℕ → Bool) (i n : ℕ) → ((k : ℕ) → i ≤ k → k < i + n → t k ≡ u k) → seek t i n ≡ seek u i n
unfolding seek
seek-same t u i zero h = refl
seek-same t u i (suc n) h =
    ap (λ b. cond b i (seek t (suc i) n)) (h i (omega arith) (omega arith)) ∙ ap (cond (u i) i) (seek-same t u (suc i) n (λ k a b. h k (omega arith) (omega arith)))

-- a list that starts with another
outside-front : (vs rest : List ℤ) (r : ℕ) → 2 * r + 1 < length vs → outside (vs ++ rest) r ≡ outside vs r
unfolding outside coordinate
outside-front vs rest r h =
    ap (λ z. beyond limit z || beyond limit (get_or (vs ++ rest) (2 * r + 1) (pos 0))) (get_or-append vs rest (pos 0) (2 * r + 0) (omega arith))
    ∙ ap (λ z. beyond limit (get_or vs (2 * r + 0) (pos 0)) || beyond limit z) (get_or-append vs rest (pos 0) (2 * r + 1) h)

pub outside-written : (l vs : List ℤ) (n : ℕ) → length vs ≡ 2 * n → 2 * n ≤ length l → first_outside (sets l 0 vs) n ≡ first_outside vs n
outside-written l vs n e h =
    ap (λ v. first_outside v n) (sets-eq vs l 0 (omega arith))
    ∙ seek-same (outside (vs ++ drop (0 + length vs) l)) (outside vs) 0 n (λ k a b. outside-front vs (drop (0 + length vs) l) k (omega arith))
