-- The shift is the whole part over 2^bits, and adding half the multiple before dividing by it rounds to the nearest (`half-by-steps`).
use mathlib.Core.Path.{◌≡◌, sym, ap, ◌∙◌}
use Prim.Native.Nat.{ℕ, ◌+◌, ◌*◌, ◌/◌, ◌^◌}
use native.Mathlib.Omega.{arith}
use lib.Pow.{pow_pos}
use Rattle.whole.specs.Nearest.{half_up}
use Rattle.whole.proofs.HalfUp.{half-by-steps}
use Rattle.whole.proofs.half_up.Goals as goal

pub returns : goal.returns
returns c =
    let size = c.args.size in
    let multiple = c.args.multiple in
    let d = 2 ^ c.args.bits in
    let even : 2 * (multiple / 2) ≡ multiple = omega (arith, c.requires.multiple_nonzero.1) in
    ap (λ (m : ℕ). (size / d + multiple / 2) / m) (sym even)
    ∙ sym (half-by-steps size (multiple / 2) d (pow_pos c.args.bits))
    ∙ ap (λ (m : ℕ). half_up size (m * d)) even
