-- A NaN is refused, and any other double is that of its own bit pattern.
use Rattle.std.specs.Prelude.{Float, Err}
use Rattle.std.proofs.Common.{◌≡◌, ◌∙◌, refl, ap, sym, true, rules}
use Rattle.std.specs.Float.{nan, inf, fin, binary64}
use Rattle.std.specs.Float.Ieee.{is_nan}
use lib.Ieee.Bits.{of_bits-to_bits}
use Rattle.doubles.specs.Number.{measure}
use Rattle.doubles.specs.declared.Unmeasured.TheVariants.{NotFinite}
use Rattle.doubles.proofs.micrometres.Goals as goal

nan-measure : (x : Float) → is_nan x ≡ true → measure x ≡ Err NotFinite
unfolding measure is_nan
nan-measure nan e = refl
nan-measure (inf s) e = refl
nan-measure (fin s m k) e = absurd (cc)

pub returns-then-is_nan : goal.returns-then-is_nan
returns-then-is_nan c = sym (nan-measure c.args.mm (sym c.is_nan.ensures.value ∙ c.if-is_nan.true))

pub returns-else-is_nan : goal.returns-else-is_nan
returns-else-is_nan c = c.of_pattern.ensures ∙ ap measure (of_bits-to_bits binary64 c.args.mm (search rules))
