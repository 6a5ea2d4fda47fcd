-- Each turn puts the next line, which fits, and the lines ahead are those after it.
use Rattle.std.proofs.Common.{◌≡◌, ◌+◌, ◌≤◌, ◌++◌, length, arith, ap, sym, ◌∙◌, length-append, rules, w32}
use mir.Val.{SFits}
use Rattle.listing.specs.Written.{written}
use Rattle.listing.proofs.Fitting.{fits, then, nothing, never}
use Rattle.listing.proofs.Points.{coordinate, from, next, none}
use Rattle.listing.proofs.outline.put_points.Goals as goal
use Rattle.listing.proofs.outline.put_points.Goals.{After-put_word}

-- the next line, and those after it
ahead : (c : After-put_word) → from c.args.first c.args.points.now c.loop-i.i ≡ c.as_slice.result.now ++ from c.args.first c.args.points.now (c.loop-i.i + 1)
ahead c =
    let points = c.args.points.now in
    let i = c.loop-i.i in
    let x : SFits w32 (coordinate points i 0) = search rules in
    let y : SFits w32 (coordinate points i 1) = search rules in
    next c.args.first points i c.loop-i-test.true x y (c.as_slice.ensures.value ∙ c.point_line.ensures)

-- the next line fits, and with those after it
both : (c : After-put_word) → c.loop-i.end + length (c.as_slice.result.now ++ from c.args.first c.args.points.now (c.loop-i.i + 1)) ≤ length c.loop-i.text
both c = omega (arith, ap length (ahead c), c.loop-i.invariant.0)

one : (c : After-put_word) → c.loop-i.end + length c.as_slice.result.now ≤ length c.loop-i.text
one c = omega (arith, both c, length-append c.as_slice.result.now (from c.args.first c.args.points.now (c.loop-i.i + 1)))

pub returns-in_err-end : goal.returns-in_err-end
returns-in_err-end c =
    let before = (goal.at.returns-in_err-end c).After-put_word in
    never c.loop-i.text c.loop-i.end c.as_slice.result.now (one before) c.in_err-end.ensures

pub loop-i-preserved : goal.loop-i-preserved
loop-i-preserved c =
    let before = (goal.at.loop-i-preserved c).After-put_word in
    let l = c.loop-i in
    let line = c.as_slice.result.now in
    let rest = from c.args.first c.args.points.now (l.i + 1) in
    let put = fits l.text l.end line (one before) c.in_ok-end.ensures in
    let ends : c.in_ok-end.end ≡ l.end + length line = let is = put.end in cc in (
      omega (arith, ends, put.long, both before, length-append line rest),
      then l.text l.end line rest (both before) c.in_ok-end.ensures ∙ ap (written l.text l.end) (sym (ahead before)) ∙ l.invariant.1,
    )

pub returns : goal.returns
returns c =
    let l = c.loop-i in
    nothing l.text l.end (omega (arith, l.invariant.0))
    ∙ ap (written l.text l.end) (sym (none c.args.first c.args.points.now l.i c.loop-i-test.false))
    ∙ l.invariant.1
