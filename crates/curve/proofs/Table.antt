-- The table of weights. Row i·2^(8-k) serves depth k: its sum is that of depth k, the cube of 2^(8-k) times as large. And the four numbers read for a row, two of them in the mirrored
-- row, are the published weights there.
use mathlib.Core.Path.{◌≡◌, sym, ap, ◌∙◌}
use Prim.Native.Nat.{ℕ, zero, suc, ◌+◌, ◌*◌, ◌-◌, ◌/◌, ◌%◌, ◌^◌, ◌≤◌, ◌<◌}
use native.Mathlib.Nat.{le_trans, zero-add, mul_comm, mul-le-mul_right, div-eq_of_eq-mul_left}
use native.Mathlib.Omega.{arith}
use lib.Dec.{ltb, ltb→lt, nltb→le, lit≤}
use lib.Pow.{pow-add, pow_pos}
use lib.IntN.{ℤ, pos, nat_abs, ◌+ℤ◌, ◌-ℤ◌, ◌*ℤ◌}
use lib.ListN.{get_or}
use Rattle.whole.proofs.Ring.{var, ◌⊕◌, ◌⊖◌, ◌⊗◌, solve, cond_ind}
use Rattle.whole.proofs.Order.{pos-less}
use Rattle.whole.proofs.Fit.{ev-size}
use Rattle.curve.specs.declared.Four.{Four}
use Rattle.curve.specs.Four.{dot}
use Rattle.curve.specs.Published.{weights}
use Rattle.curve.specs.Inner.{heaviest}
use Rattle.curve.specs.Span.{weighted}
use Rattle.curve.specs.Ways.{deepest, apart, row, nth, table_size, table_entry, weight_table, entry_of}
use Rattle.curve.proofs.Tab.{get_or-tab}
use Rattle.curve.proofs.Powers.{cube, thrice}
use Rattle.curve.proofs.Reflect.{num, p, i, h, weightsᵉ, weightedᵉ}
use mathlib.Core.List.{[], ◌∷◌}

-- i and h both m times as large
pub weighted-scale : (m : ℤ) (q : Four) (x y : ℤ) → weighted q (x *ℤ m) (y *ℤ m) ≡ m *ℤ m *ℤ m *ℤ weighted q x y
unfolding weighted weights dot
weighted-scale m q x y = solve (q.a ∷ q.b ∷ q.c ∷ q.d ∷ x ∷ y ∷ m ∷ []) (weightedᵉ p (i ⊗ var 6) (h ⊗ var 6)) (var 6 ⊗ var 6 ⊗ var 6 ⊗ weightedᵉ p i h) tt

-- ---- the rows of a depth, each a multiple of how far apart they are

rows_all : (k : ℕ) → k ≤ deepest → 2 ^ deepest ≡ 2 ^ k * apart k
rows_all k b = ap (λ (n : ℕ). 2 ^ n) whole ∙ pow-add 2 k (deepest - k)
  where
    whole : deepest ≡ k + (deepest - k)
    whole = omega arith

-- The table's row of depth k gives depth k's sum, 2^(3(8-k)) times as large and exactly so.
pub by-table : (k : ℕ) → k ≤ deepest → (q : Four) (j : ℕ) → weighted q (pos (row k j)) (pos (2 ^ deepest)) ≡ pos (2 ^ (3 * (deepest - k))) *ℤ weighted q (pos j) (pos (2 ^ k))
unfolding row cube
by-table k b q j =
    ap (λ (n : ℕ). weighted q (pos (row k j)) (pos n)) (rows_all k b)
    ∙ weighted-scale (pos (apart k)) q (pos j) (pos (2 ^ k))
    ∙ ap (λ (n : ℕ). pos n *ℤ weighted q (pos j) (pos (2 ^ k))) (sym (thrice (deepest - k)))

-- as many rows as steps, and so far apart
pub all-steps : (k : ℕ) → k ≤ deepest → 2 ^ deepest / apart k ≡ 2 ^ k
all-steps k b = div-eq_of_eq-mul_left (pow_pos (deepest - k)) (rows_all k b)

pub all-apart : (k : ℕ) → k ≤ deepest → 2 ^ deepest / 2 ^ k ≡ apart k
all-apart k b = div-eq_of_eq-mul_left (pow_pos k) (rows_all k b ∙ mul_comm (2 ^ k) (apart k))

-- the row of a step is in the table
pub row-within : (k i : ℕ) → k ≤ deepest → i ≤ 2 ^ k → row k i ≤ 2 ^ deepest
unfolding row
row-within k i b h = omega (arith, rows_all k b, mul-le-mul_right {m = i} {n = 2 ^ k} (apart k) h)

-- ---- the table's entries

-- Weight r at x of y is weight 3 - r at y - x, for all x and y: the four weights at y - x are those at x the other way round.
pub weights-mirror : (r : ℕ) → r ≤ 3 → (x y : ℤ) → nth (weights x y) r ≡ nth (weights (y -ℤ x) y) (3 - r)
unfolding nth weights
weights-mirror zero b x y = solve (x ∷ y ∷ []) (weightsᵉ (var 0) (var 1)).a (weightsᵉ (var 1 ⊖ var 0) (var 1)).d tt
weights-mirror (suc zero) b x y = solve (x ∷ y ∷ []) (weightsᵉ (var 0) (var 1)).b (weightsᵉ (var 1 ⊖ var 0) (var 1)).c tt
weights-mirror (suc (suc zero)) b x y = solve (x ∷ y ∷ []) (weightsᵉ (var 0) (var 1)).c (weightsᵉ (var 1 ⊖ var 0) (var 1)).b tt
weights-mirror (suc (suc (suc zero))) b x y = solve (x ∷ y ∷ []) (weightsᵉ (var 0) (var 1)).d (weightsᵉ (var 1 ⊖ var 0) (var 1)).a tt
weights-mirror (suc (suc (suc (suc r)))) b x y = let none : ⊥ = omega arith in absurd none

-- the number at 2·row + r is weight r of that row
own-entry : (m r : ℕ) → m ≤ 2 ^ deepest → r < 2 → get_or weight_table (2 * m + r) (pos 0) ≡ nth (weights (pos m) (pos (2 ^ deepest))) r
unfolding weight_table table_entry
own-entry m r b k = get_or-tab table_entry 0 table_size (2 * m + r) (omega arith) (pos 0) ∙ ap table_entry (zero-add (2 * m + r)) ∙ entry-of (omega arith) (omega arith)
  where
    entry-of : (2 * m + r) / 2 ≡ m → (2 * m + r) % 2 ≡ r → nth (weights (pos ((2 * m + r) / 2)) (pos (2 ^ deepest))) ((2 * m + r) % 2) ≡ nth (weights (pos m) (pos (2 ^ deepest))) r
    entry-of e f = rw (e, f)

-- The number read for weight r of a row is that weight, for every row and each of the four.
pub row-entry : (m r : ℕ) → m ≤ 2 ^ deepest → r ≤ 3 → get_or weight_table (entry_of m r) (pos 0) ≡ nth (weights (pos m) (pos (2 ^ deepest))) r
unfolding entry_of
row-entry m r b k =
    let back = 2 ^ deepest - m in
    cond_ind (ltb r 2) (2 * m + r) (2 * back + (3 - r)) (λ e. get_or weight_table e (pos 0) ≡ nth (weights (pos m) (pos (2 ^ deepest))) r)
    (λ t. own-entry m r b (ltb→lt r 2 t))
    (λ t. own-entry back (3 - r) (omega arith) (omega (arith, nltb→le r 2 t))
    ∙ ap (λ x. nth (weights x (pos (2 ^ deepest))) (3 - r)) (pos-less (2 ^ deepest) m b)
    ∙ sym (weights-mirror r k (pos m) (pos (2 ^ deepest))))

-- The four numbers read for a row sum to 256^3 = 2^24, for every row.
pub row-sum : (m : ℕ) → m ≤ 2 ^ deepest
    → get_or weight_table (entry_of m 0) (pos 0) +ℤ get_or weight_table (entry_of m 1) (pos 0) +ℤ get_or weight_table (entry_of m 2) (pos 0) +ℤ get_or weight_table (entry_of m 3) (pos 0) ≡ pos (2 ^ (3 * deepest))
unfolding nth weights
row-sum m b =
    cong (row-entry m 0 b (lit≤ tt)) (row-entry m 1 b (lit≤ tt)) (row-entry m 2 b (lit≤ tt)) (row-entry m 3 b (lit≤ tt))
    ∙ solve (pos m ∷ []) ((weightsᵉ (var 0) (num (2 ^ deepest))).a ⊕ (weightsᵉ (var 0) (num (2 ^ deepest))).b ⊕ (weightsᵉ (var 0) (num (2 ^ deepest))).c ⊕ (weightsᵉ (var 0) (num (2 ^ deepest))).d) (num (2 ^ (3 * deepest))) tt
  where
    cong : {a b c d a' b' c' d' : ℤ} → a ≡ a' → b ≡ b' → c ≡ c' → d ≡ d' → a +ℤ b +ℤ c +ℤ d ≡ a' +ℤ b' +ℤ c' +ℤ d'
    cong e f g k = cc

pub weight-size : (m r : ℕ) → m ≤ 2 ^ deepest → nat_abs (nth (weights (pos m) (pos (2 ^ deepest))) r) ≤ heaviest
unfolding nth weights
weight-size m zero k = le_trans (ev-size (pos m ∷ []) (2 ^ deepest ∷ []) (k, tt) (weightsᵉ (var 0) (num (2 ^ deepest))).a) (lit≤ tt)
weight-size m (suc zero) k = le_trans (ev-size (pos m ∷ []) (2 ^ deepest ∷ []) (k, tt) (weightsᵉ (var 0) (num (2 ^ deepest))).b) (lit≤ tt)
weight-size m (suc (suc zero)) k = le_trans (ev-size (pos m ∷ []) (2 ^ deepest ∷ []) (k, tt) (weightsᵉ (var 0) (num (2 ^ deepest))).c) (lit≤ tt)
weight-size m (suc (suc (suc r))) k = le_trans (ev-size (pos m ∷ []) (2 ^ deepest ∷ []) (k, tt) (weightsᵉ (var 0) (num (2 ^ deepest))).d) (lit≤ tt)
