-- A turn writes the next record's two numbers.
use Rattle.std.specs.List.{concat}
use Rattle.std.proofs.Common.{rules, ◌≡◌, ◌∙◌, sym, ◌+◌, ◌*◌, length, w32, arith}
use Rattle.whole.proofs.Fit.{kept-is}
use Rattle.curve.proofs.Fills.{fill-next, fill_done}
use Rattle.record_file.specs.Format.{number}
use Rattle.record_file.proofs.Bytes.{x-joined, y-joined}
use Rattle.record_file.proofs.write_numbers.Goals as goal

pub loop-i-preserved : goal.loop-i-preserved
loop-i-preserved c =
    let rs = c.args.records.now in
    let l = c.loop-i in
    let f = number (concat rs) in
    let n = 2 * length rs in
    let x = kept-is w32 c.coordinate.result (search rules) ∙ c.coordinate.ensures ∙ sym (x-joined rs c.told-records l.i c.loop-i-test.true) in
    let y = kept-is w32 c.coordinate-in-loop-i.result (search rules) ∙ c.coordinate-in-loop-i.ensures ∙ sym (y-joined rs c.told-records l.i c.loop-i-test.true) in
    let next : 2 * (l.i + 1) ≡ 2 * l.i + 1 + 1 = omega arith in
    rw (next, x, y) (sym (fill-next f l.list (2 * l.i) n (omega arith) ∙ fill-next f _ (2 * l.i + 1) n (omega arith)) ∙ l.invariant)

pub returns : goal.returns
returns c =
    let rs = c.args.records.now in
    sym (fill_done (number (concat rs)) c.loop-i.list (2 * c.loop-i.i) (2 * length rs) (omega arith)) ∙ c.loop-i.invariant
