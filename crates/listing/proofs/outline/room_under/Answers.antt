-- What is left, and what the lines ahead take of it: the next line, and those after it.
use Rattle.std.proofs.Common.{◌≡◌, ◌+◌, ◌<◌, ℕ, length, arith, refl, ap, sym, ◌∙◌, length-append, rules, w32, to_z, of_z}
use mir.Val.{SFits}
use Rattle.listing.specs.Inner.{pair_lines}
use Rattle.listing.specs.Listing.{point_line}
use Rattle.listing.proofs.Points.{coordinate, from, next, none}
use Rattle.listing.proofs.outline.room_under.Goals as goal
use Rattle.listing.proofs.outline.room_under.Goals.{After-point_width}

-- what the lines ahead take
ahead : (c : After-point_width) → length (from c.args.first c.args.points.now c.loop-i.i) ≡ c.point_width.result + length (from c.args.first c.args.points.now (c.loop-i.i + 1))
ahead c =
    let points = c.args.points.now in
    let i = c.loop-i.i in
    let x : SFits w32 (coordinate points i 0) = search rules in
    let y : SFits w32 (coordinate points i 1) = search rules in
    let line = point_line (c.args.first + i) (to_z w32 (of_z w32 (coordinate points i 0))) (to_z w32 (of_z w32 (coordinate points i 1))) in
    ap length (next c.args.first points i c.loop-i-test.true x y refl)
    ∙ length-append line (from c.args.first points (i + 1))
    ∙ ap (λ (n : ℕ). n + length (from c.args.first points (i + 1))) (sym c.point_width.ensures)

pub returns-in_err-left : goal.returns-in_err-left
returns-in_err-left c =
    let more = ahead (goal.at.returns-in_err-left c).After-point_width in
    let short : c.args.room < length (pair_lines c.args.first c.args.points.now) = omega (arith, more, c.in_err-left.ensures) in
    rw c.from_residual.ensures short

pub loop-i-preserved : goal.loop-i-preserved
loop-i-preserved c = let more = ahead (goal.at.loop-i-preserved c).After-point_width in omega (arith, more, c.in_ok-left.ensures)

pub returns : goal.returns
returns c = omega (arith, c.loop-i.invariant, ap length (none c.args.first c.args.points.now c.loop-i.i c.loop-i-test.false))
