-- The weights are the definition's, and so as small as those.
use mathlib.Core.Path.{sym, ap, ◌∙◌, subst}
use Prim.Native.Nat.{ℕ, ◌^◌, ◌≤◌}
use lib.IntN.{pos}
use mir.Syntax.{w64}
use Rattle.whole.proofs.Fit.{kept-is}
use Rattle.curve.specs.Four.{dot}
use Rattle.curve.specs.Published.{weights}
use Rattle.curve.specs.Limits.{Inside}
use Rattle.curve.specs.Inner.{heaviest}
use Rattle.curve.specs.Span.{weighted}
use Rattle.curve.specs.Ways.{deepest, nth}
use Rattle.curve.proofs.Table.{weight-size}
use Rattle.curve.proofs.weights.weighted_sum.Goals as goal

light : (m : ℕ) → m ≤ 2 ^ deepest → Inside heaviest (weights (pos m) (pos (2 ^ deepest)))
unfolding nth
light m h = record { a = weight-size m 0 h; b = weight-size m 1 h; c = weight-size m 2 h; d = weight-size m 3 h }

pub dot-requires : goal.dot-requires
dot-requires c = (subst (Inside heaviest) (sym c.row_weights.ensures) (light c.args.row c.requires.row_bound), c.requires.inside)

pub returns : goal.returns
unfolding weighted
returns c = kept-is w64 c.dot.result (record { sfits = c.dot.type_inv }) ∙ c.dot.ensures ∙ ap (λ w. dot w c.args.q) c.row_weights.ensures
