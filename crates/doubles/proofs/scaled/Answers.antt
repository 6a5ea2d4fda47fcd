-- The size rounded and the sign put back, by their own contracts.
use Rattle.std.proofs.Common.{◌∙◌, ◌*◌, ◌^◌, ap, sym, ℕ}
use Rattle.doubles.specs.Exact.{signed}
use Rattle.doubles.specs.Number.{thousand, within}
use Rattle.doubles.proofs.Rounding.{nearest-signed}
use Rattle.doubles.proofs.scaled.Goals as goal

pub returns : goal.returns
returns c =
    let a = c.args in
    c.coordinate.ensures
    ∙ ap (λ (n : ℕ). within (signed a.negative n)) c.half_up.ensures
    ∙ ap within (sym (nearest-signed a.negative (a.digits * thousand) (4 * 2 ^ a.bits)))
