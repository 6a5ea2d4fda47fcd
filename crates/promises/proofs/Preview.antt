-- The preview (document 01, "Preview and drawing"): halving in doubles loses nothing at these limits.
use Rattle.std.specs.Prelude.{Ok}
use mathlib.Core.Path.{◌≡◌}
use mathlib.Core.List.{List}
use mathlib.Core.Bool.{not}
use Prim.Native.Nat.{ℕ, ◌*◌, ◌^◌, ◌<◌}
use lib.Dec.{T}
use lib.Ieee.{Float, nan}
use lib.IntN.{ℤ}
use lib.ListN.{get_or}
use Rattle.whole.specs.Outcome.{outcome}
use Rattle.shape.specs.declared.Shape.{Shape}
use Rattle.shape.specs.Refusals.{plan_of}
use Rattle.doubles.specs.Exact.{Value, minus_zero}
use Rattle.preview.specs.Preview.{sum, previewing}
use Rattle.preview.proofs.Curve as preview

-- each number of an accepted preview is, exactly, the weighted sum of the plain controls over 2^(3k), and none is minus zero
pub preview-exact : (s : Shape) (controls : List ℤ) (lent : List Float) (n : ℕ) (l : List Float) → previewing s controls lent ≡ outcome (Ok n) l → (q : ℕ) → q < 2 * n
    → Value (get_or l q nan) (sum s.depth (plan_of s).spans controls q) (2 ^ (3 * s.depth)) × T (not (minus_zero (get_or l q nan)))
preview-exact = preview.drawn-exact
