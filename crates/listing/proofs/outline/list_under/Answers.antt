-- Where there are as many points and the room is enough for all, the heading is put, and the lines from where it ends.
use Rattle.std.proofs.Common.{◌≡◌, ◌+◌, ◌-◌, ◌*◌, ◌/◌, ◌≤◌, ◌<◌, ◌++◌, ℕ, List, length, take, arith, ap, ◌∙◌, length-append}
use Rattle.whole.specs.Outcome.{outcome}
use Rattle.listing.specs.Written.{written}
use Rattle.listing.specs.Listing.{point_lines, listed_by}
use Rattle.listing.specs.Inner.{pair_lines}
use Rattle.listing.proofs.Fitting.{fits, stays, then, never}
use Rattle.listing.proofs.Listed.{too_few, in-full}
use Rattle.listing.proofs.Points.{paired}
use Rattle.listing.proofs.outline.list_under.Goals as goal
use Rattle.listing.proofs.outline.list_under.Goals.{In_ok-pairs}

pub returns-in_err-pairs : goal.returns-in_err-pairs
returns-in_err-pairs c =
    let few : length c.args.points.now < 2 * c.args.count = omega (arith, c.in_err-pairs.ensures.lookup, c.as_chunks.ensures.front_len) in
    ap (λ o. outcome o c.args.text.now) c.from_residual.ensures
    ∙ too_few c.args.text.now c.args.points.now c.args.count (λ ps. c.args.heading.now ++ point_lines c.args.first ps) few

-- there are as many, and these are their lines
enough : (c : In_ok-pairs) → 2 * c.args.count ≤ length c.args.points.now
enough c = omega (arith, c.in_ok-pairs.ensures.lookup, c.as_chunks.ensures.front_len)

lines : (c : In_ok-pairs) → pair_lines c.args.first c.in_ok-pairs.pairs.now ≡ point_lines c.args.first (take (2 * c.args.count) c.args.points.now)
lines c =
    let points = c.args.points.now in
    let some : c.args.count ≤ length points / 2 = omega (arith, c.in_ok-pairs.ensures.lookup, c.as_chunks.ensures.front_len) in
    let all : c.args.count - 0 ≡ c.args.count = omega arith in
    let pairs = c.in_ok-pairs.ensures.lookup.0.2 ∙ (λ i. take (all i) (c.as_chunks.ensures.front i)) in
    ap (pair_lines c.args.first) pairs ∙ paired c.args.count (length points / 2) c.args.first points some (omega arith)

-- what is asked for is the whole text, which is the heading and those lines
whole : (c : In_ok-pairs) → written c.args.text.now 0 (c.args.heading.now ++ pair_lines c.args.first c.in_ok-pairs.pairs.now) ≡ listed_by (λ ps. c.args.heading.now ++ point_lines c.args.first ps) c.args.text.now c.args.points.now c.args.count
whole c =
    ap (λ (l : List ℕ). written c.args.text.now 0 (c.args.heading.now ++ l)) (lines c)
    ∙ in-full c.args.text.now c.args.points.now c.args.count (λ ps. c.args.heading.now ++ point_lines c.args.first ps) (enough c)

both : (c : In_ok-pairs) → length (c.args.heading.now ++ pair_lines c.args.first c.in_ok-pairs.pairs.now) ≡ length c.args.heading.now + length (pair_lines c.args.first c.in_ok-pairs.pairs.now)
both c = length-append c.args.heading.now (pair_lines c.args.first c.in_ok-pairs.pairs.now)

pub returns-in_err-room : goal.returns-in_err-room
returns-in_err-room c =
    let before = (goal.at.returns-in_err-room c).In_ok-pairs in
    ap (λ o. outcome o c.args.text.now) c.from_residual-in_err-room.ensures
    ∙ stays c.args.text.now 0 (c.args.heading.now ++ pair_lines c.args.first c.in_ok-pairs.pairs.now) (omega (arith, both before, c.in_err-room.ensures))
    ∙ whole before

pub returns-in_err-room_under : goal.returns-in_err-room_under
returns-in_err-room_under c =
    let before = (goal.at.returns-in_err-room_under c).In_ok-pairs in
    ap (λ o. outcome o c.args.text.now) c.from_residual-in_err-room_under.ensures
    ∙ stays c.args.text.now 0 (c.args.heading.now ++ pair_lines c.args.first c.in_ok-pairs.pairs.now) (omega (arith, both before, c.in_ok-room.ensures, c.in_err-room_under.ensures))
    ∙ whole before

pub returns-in_err-put_word : goal.returns-in_err-put_word
returns-in_err-put_word c = never c.args.text.now 0 c.args.heading.now (omega (arith, c.in_ok-room.ensures)) c.in_err-put_word.ensures

pub returns : goal.returns
returns c =
    let before = (goal.at.returns c).In_ok-pairs in
    let heading = c.args.heading.now in
    let rest = pair_lines c.args.first c.in_ok-pairs.pairs.now in
    let room : 0 + length (heading ++ rest) ≤ length c.args.text.now = omega (arith, both before, c.in_ok-room.ensures, c.in_ok-room_under.ensures) in
    let put = fits c.args.text.now 0 heading (omega (arith, c.in_ok-room.ensures)) c.in_ok-put_word.ensures in
    let ends : c.in_ok-put_word.field-0 ≡ 0 + length heading = let is = put.end in cc in
    let here : length heading ≡ c.in_ok-put_word.field-0 = omega (arith, ends) in
    c.put_points.ensures
    ∙ ap (λ (n : ℕ). written c.put_word.new.text n rest) here
    ∙ then c.args.text.now 0 heading rest room c.in_ok-put_word.ensures
    ∙ whole before
