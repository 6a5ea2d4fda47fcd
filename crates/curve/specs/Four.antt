-- Four whole numbers of one axis.
use Rattle.std.specs.Prelude.{ℤ, ◌+ℤ◌, ◌*ℤ◌}
use Rattle.curve.specs.declared.Four.{Four}

abbrev pub four : ℤ → ℤ → ℤ → ℤ → Four
four a b c d = record { a = a; b = b; c = c; d = d }

-- A row of weights times a column of four numbers.
unfoldable pub dot : Four → Four → ℤ
dot w p = w.a *ℤ p.a +ℤ w.b *ℤ p.b +ℤ w.c *ℤ p.c +ℤ w.d *ℤ p.d
