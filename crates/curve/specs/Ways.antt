-- Three ways to the points of a span at depth k, from the four whole controls of an axis: each lists the 2^k + 1 exact sums, all over the divisor of the basis at depth k.
use Rattle.std.specs.Prelude.{cond, List, [], ◌∷◌, ◌++◌, ℕ, zero, suc, ◌+◌, ◌*◌, ◌-◌, ◌/◌, ◌%◌, ◌^◌, ltb, ℤ, pos, ◌+ℤ◌, ◌*ℤ◌}
use Rattle.curve.specs.declared.Four.{Four}
use Rattle.curve.specs.declared.Differences.{Differences}
use Rattle.curve.specs.Tab.{tab}
use Rattle.curve.specs.Four.{four, dot}
use Rattle.curve.specs.Published.{weights, bezier_matrix}
use Rattle.curve.specs.Span.{weighted}

-- ---- weights

unfoldable pub by_weights : ℕ → Four → List ℤ
by_weights k q = tab (λ i. weighted q (pos i) (pos (2 ^ k))) 0 (suc (2 ^ k))

-- Document 02, request 10: a depth is from 0 to 8.
abbrev pub deepest : ℕ
deepest = 8

-- The table has the weights at the deepest alone; depth k uses every 2^(8-k)-th row of it, row i · 2^(8-k) for its step i.
abbrev pub apart : ℕ → ℕ
apart k = 2 ^ (deepest - k)

unfoldable pub row : ℕ → ℕ → ℕ
row k i = i * apart k

-- One of four numbers, counted from 0.
unfoldable pub nth : Four → ℕ → ℤ
nth w zero = w.a
nth w (suc zero) = w.b
nth w (suc (suc zero)) = w.c
nth w (suc (suc (suc r))) = w.d

-- Document 02, request 4: weight r at i is weight 3 - r at 256 - i, so that two weights for each i from 0 to 256, those numbered 0 and 1, are enough: 514 in all.
-- Entry e is of row e / 2, and there weight number e % 2.
abbrev pub table_size : ℕ
table_size = 2 * suc (2 ^ deepest)

unfoldable pub table_entry : ℕ → ℤ
table_entry e = nth (weights (pos (e / 2)) (pos (2 ^ deepest))) (e % 2)

-- The table: all entries in order.
unfoldable pub weight_table : List ℤ
weight_table = tab table_entry 0 table_size

-- Where weight r of row i is read: 0 and 1 in the row itself, 2 and 3 as weight 3 - r of row 256 - i.
unfoldable pub entry_of : ℕ → ℕ → ℕ
entry_of i r = cond (ltb r 2) (2 * i + r) (2 * (2 ^ deepest - i) + (3 - r))

-- ---- halving by midpoints: 000 chapter 2 (5), (6) and the splitting matrices H1, H2; 003 "Efficient Form". A midpoint is a half of a sum, so with each level
-- eight times as large all stays whole: sums of neighbours are twice, sums of those four times, and the last sum eight times a point.

unfoldable pub left_half : Four → Four
left_half q =
    let m = q.a +ℤ q.b in
    let n = q.b +ℤ q.c in
    let o = q.c +ℤ q.d in
    four (pos 8 *ℤ q.a) (pos 4 *ℤ m) (pos 2 *ℤ (m +ℤ n)) (m +ℤ n +ℤ (n +ℤ o))

unfoldable pub right_half : Four → Four
right_half q =
    let m = q.a +ℤ q.b in
    let n = q.b +ℤ q.c in
    let o = q.c +ℤ q.d in
    four (m +ℤ n +ℤ (n +ℤ o)) (pos 2 *ℤ (n +ℤ o)) (pos 4 *ℤ o) (pos 8 *ℤ q.d)

-- The starts of the 2^k pieces, left to right.
unfoldable pub starts : ℕ → Four → List ℤ
starts zero q = q.a ∷ []
starts (suc k) q = starts k (left_half q) ++ starts k (right_half q)

unfoldable pub by_halving : ℕ → Four → List ℤ
by_halving k q = starts k q ++ ((pos (8 ^ k) *ℤ q.d) ∷ [])

-- ---- forward differences: 000 chapter 2 (11) to (13) with the step e = 1 / h, all times h^3. The algebraic coefficients are those of the Bezier matrix.

unfoldable pub differences : Four → ℤ → Differences
differences q h =
    let a = dot bezier_matrix.cubed q in
    let b = dot bezier_matrix.squared q in
    let c = dot bezier_matrix.single q in
    record {
      value = q.a *ℤ h *ℤ h *ℤ h;
      first = a +ℤ b *ℤ h +ℤ c *ℤ h *ℤ h;
      second = pos 6 *ℤ a +ℤ pos 2 *ℤ b *ℤ h;
      third = pos 6 *ℤ a;
    }

-- 000's algorithm DRCURVE, step 3.1: three additions.
unfoldable pub advance : Differences → Differences
advance s = record { value = s.value +ℤ s.first; first = s.first +ℤ s.second; second = s.second +ℤ s.third; third = s.third }

unfoldable pub values : ℕ → Differences → List ℤ
values zero s = []
values (suc n) s = s.value ∷ values n (advance s)

unfoldable pub by_differences : ℕ → Four → List ℤ
by_differences k q = values (suc (2 ^ k)) (differences q (pos (2 ^ k)))
