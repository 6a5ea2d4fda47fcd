-- The row of a step gives its sum, the cube of 2^(8-k) times as large (`by-table`): the shift takes that off.
use mathlib.Core.Path.{◌≡◌, sym, ap, ◌∙◌, subst}
use Prim.Native.Nat.{ℕ, ◌*◌, ◌-◌, ◌/◌, ◌^◌, ◌≤◌}
use lib.IntN.{pos, ◌*ℤ◌}
use lib.Pow.{pow_pos}
use lib.Signed.{shr_z}
use mir.Syntax.{w64}
use mir.Val.{SFits}
use Rattle.whole.proofs.Fit.{kept, shift_kept}
use Rattle.curve.specs.Span.{weighted}
use Rattle.curve.specs.Ways.{deepest, row}
use Rattle.curve.proofs.Table.{by-table, row-within, all-apart}
use Rattle.spans.proofs.weights.table_sum.Goals as goal

-- a step times how far apart the depth's rows are is its row
row-is : (k i : ℕ) → k ≤ deepest → i * (2 ^ deepest / 2 ^ k) ≡ row k i
unfolding row
row-is k i h = ap (λ (n : ℕ). i * n) (all-apart k h)

pub weighted_sum-requires-clause-row_bound : goal.weighted_sum-requires-clause-row_bound
weighted_sum-requires-clause-row_bound c =
    let a = c.args in
    let (h, b) = c.requires.step_bound in
    subst (λ (n : ℕ). n ≤ 2 ^ deepest) (sym (row-is a.depth a.step h)) (row-within a.depth a.step h b)

pub returns : goal.returns
returns c =
    let a = c.args in
    let (h, b) = c.requires.step_bound in
    let d = 2 ^ (3 * (deepest - a.depth)) in
    let z = weighted a.q (pos a.step) (pos (2 ^ a.depth)) in
    let times : c.weighted_sum.result ≡ pos d *ℤ z =
    c.weighted_sum.ensures ∙ ap (λ (m : ℕ). weighted a.q (pos m) (pos (2 ^ deepest))) (row-is a.depth a.step h) ∙ by-table a.depth h a.q a.step in
    ap (λ x. kept w64 (shr_z (kept w64 x) d)) times ∙ shift_kept z d (pow_pos (3 * (deepest - a.depth))) (subst (SFits w64) times (record { sfits = c.weighted_sum.type_inv }))
