-- The two numbers one after the other.
use mathlib.Core.List.{List, [], ◌∷◌}
use mathlib.Core.Path.{◌≡◌, ap, ◌∙◌}
use Prim.Native.Nat.{ℕ, ◌+◌}
use native.Mathlib.Omega.{arith}
use lib.IntN.{ℤ}
use mir.Syntax.{w64}
use mir.Val.{SFits}
use Rattle.whole.specs.Outcome.{Outcome, outcome}
use Rattle.whole.proofs.Fit.{kept, kept-is}
use Rattle.curve.specs.Inner.{divisor_of}
use Rattle.spans.specs.Inner.{rounds}
use Rattle.spans.proofs.Rounds.{onward, rounds-append, rounds-most}
use Rattle.spans.proofs.point.put_point.Goals as goal

-- a number as it was passed
passed : (d q n : ℕ) (l : List ℤ) (z : ℤ) → SFits w64 z → {o : Outcome ℕ (List ℤ)} → o ≡ rounds d (kept w64 z ∷ []) q n l → o ≡ rounds d (z ∷ []) q n l
passed d q n l z f e = e ∙ ap (λ x. rounds d (x ∷ []) q n l) (kept-is w64 z f)

pub put_number-requires-clause-at_in_bounds : goal.put_number-requires-clause-at_in_bounds
put_number-requires-clause-at_in_bounds c =
    let a = c.args in
    let d = divisor_of a.bits in
    let on-x = passed d a.at a.exact a.points.now a.x c.ranges.x c.put_number-on_x.ensures in
    let most = rounds-most d (a.x ∷ []) a.at a.exact a.points.now (outcome c.put_number-on_x.result c.put_number-on_x.new.points) on-x in
    (omega (arith, c.requires.at_in_bounds, c.put_number-on_x.auto.points), omega (arith, most, c.requires.at_in_bounds))

pub returns : goal.returns
returns c =
    let a = c.args in
    let d = divisor_of a.bits in
    let on-x = passed d a.at a.exact a.points.now a.x c.ranges.x c.put_number-on_x.ensures in
    passed d (a.at + 1) c.put_number-on_x.result c.put_number-on_x.new.points a.y c.ranges.y c.put_number.ensures
    ∙ ap (onward d (a.y ∷ []) (a.at + 1)) on-x
    ∙ rounds-append d (a.x ∷ []) (a.y ∷ []) a.at a.exact a.points.now
