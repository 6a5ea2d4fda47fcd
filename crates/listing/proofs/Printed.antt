-- A number's text is what the library prints of it: it too goes by the last digit.
use Prim.Native.Nat.{ℕ, suc, ◌^◌, ◌<◌}
use mathlib.Core.List.{List, ◌∷◌}
use mathlib.Core.Path.{◌≡◌, sym, ap, ◌∙◌}
use native.Mathlib.Omega.{arith}
use lib.IntN.{ℤ, pos, negsuc}
use lib.Signed.{mag}
use mir.Facts.{to_z-of_z, sfits_widen}
use mir.Syntax.{w32, w64}
use mir.Val.{SFits, of_z, to_z}
use Rattle.std.specs.Fmt as printed
use Rattle.std.proofs.lemmas.Fmt.{AppendsLastDigit, decimal_from_appends, length-decimal-le_succ}
use Rattle.listing.specs.Decimal.{natural_in, natural, decimal}
use Rattle.listing.proofs.Digits.{one-digit, last-digit}

by-last-digit : AppendsLastDigit natural_in
by-last-digit = record { one = one-digit; more = last-digit }

pub natural-printed : (n : ℕ) → n < 2 ^ 64 → natural n ≡ printed.decimal n
unfolding natural
natural-printed n fits = decimal_from_appends natural_in by-last-digit (suc n) n fits (omega (arith, length-decimal-le_succ n fits))

pub decimal-printed : (z : ℤ) → mag z < 2 ^ 63 → decimal z ≡ printed.signed_decimal z
decimal-printed (pos n) fits = natural-printed n (omega arith)
decimal-printed (negsuc n) fits = ap (λ (t : List ℕ). 45 ∷ t) (natural-printed (suc n) (omega arith))

-- the same where 64 or 32 bits hold the number
pub held-printed : (z : ℤ) → SFits w64 z → decimal z ≡ printed.signed_decimal (to_z w64 (of_z w64 z))
held-printed z fits = decimal-printed z fits.sfits ∙ sym (ap printed.signed_decimal (to_z-of_z fits))

wide : {z : ℤ} → SFits w32 z → SFits w64 z
wide fits = sfits_widen tt fits

pub narrow-printed : (z : ℤ) → SFits w32 z → decimal z ≡ printed.signed_decimal (to_z w32 (of_z w32 z))
narrow-printed z fits = decimal-printed z (wide fits).sfits ∙ sym (ap printed.signed_decimal (to_z-of_z fits))
