-- The four entries read are the definition's weights of the row (`row-entry`).
use mathlib.Core.Path.{◌≡◌, refl, ap, ◌∙◌}
use Prim.Native.Nat.{ℕ, ◌^◌, ◌≤◌, ◌<◌}
use native.Mathlib.Omega.{arith}
use lib.Dec.{lit≤}
use lib.IntN.{ℤ, pos}
use lib.ListN.{get_or}
use lib.Signed.{mag}
use mir.Syntax.{w64}
use Rattle.whole.proofs.Fit.{kept, kept-is}
use Rattle.curve.specs.Published.{weights}
use Rattle.curve.specs.Ways.{deepest, weight_table, entry_of, nth}
use Rattle.curve.proofs.Table.{row-entry}
use Rattle.curve.proofs.weights.row_weights.Goals as goal

-- what was read, as the definition has it
read : (m r : ℕ) → m ≤ 2 ^ deepest → r ≤ 3 → {e : ℕ} → e ≡ entry_of m r → {x : ℤ} → mag x < 2 ^ 63 → x ≡ get_or weight_table e (pos 0) → kept w64 x ≡ nth (weights (pos m) (pos (2 ^ deepest))) r
read m r b k f {x} held g = kept-is w64 x (record { sfits = held }) ∙ g ∙ ap (λ (n : ℕ). get_or weight_table n (pos 0)) f ∙ row-entry m r b k

pub returns : goal.returns
unfolding entry_of nth
returns c =
    let m = c.args.row in
    λ k.
    record {
      a = read m 0 c.requires (lit≤ tt) (omega arith) c.weight.type_inv c.weight.ensures k;
      b = read m 1 c.requires (lit≤ tt) refl c.weight-2.type_inv c.weight-2.ensures k;
      c = read m 2 c.requires (lit≤ tt) refl c.weight-3.type_inv c.weight-3.ensures k;
      d = read m 3 c.requires (lit≤ tt) (omega arith) c.weight-4.type_inv c.weight-4.ensures k;
    }
