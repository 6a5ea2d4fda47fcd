-- Second differences of Bezier controls (document 02, requests 3 and 13): how far four controls of an axis are from equal steps on a line. Definitions only.
use Rattle.std.specs.Prelude.{ℕ, max, ℤ, pos, nat_abs, ◌+ℤ◌, ◌-ℤ◌, ◌*ℤ◌}
use Rattle.curve.specs.declared.Four.{Four}
use Rattle.curve.specs.declared.Basis.{Basis}
use Rattle.curve.specs.declared.Basis.TheVariants.{Bezier, BSpline, Cardinal, Hermite, Loop}

-- b0 - 2b1 + b2 and b1 - 2b2 + b3.
abbrev pub first_bend : Four → ℤ
first_bend q = q.a -ℤ pos 2 *ℤ q.b +ℤ q.c

abbrev pub last_bend : Four → ℤ
last_bend q = q.b -ℤ pos 2 *ℤ q.c +ℤ q.d

-- The larger of the two, in size.
unfoldable pub bend : Four → ℕ
bend q = max (nat_abs (first_bend q)) (nat_abs (last_bend q))

-- ---- those of a span in its own records, for the drawing office (docs/STRAY.md): as many times as the controls are taken, six times, and of a cardinal curve 192 times. Of Hermite the records are start, start tangent, end, end tangent.

abbrev pub first_in_records : Basis → Four → ℤ
first_in_records Bezier p = pos 6 *ℤ (p.a -ℤ pos 2 *ℤ p.b +ℤ p.c)
first_in_records BSpline p = p.a -ℤ pos 2 *ℤ p.b +ℤ p.c
first_in_records (Cardinal c) p = pos 192 *ℤ (p.c -ℤ p.b) -ℤ pos 2 *ℤ pos c *ℤ (p.c -ℤ p.a) -ℤ pos c *ℤ (p.d -ℤ p.b)
first_in_records Hermite p = pos 6 *ℤ (p.c -ℤ p.a) -ℤ pos 4 *ℤ p.b -ℤ pos 2 *ℤ p.d
first_in_records (Loop n) p = p.a -ℤ pos 2 *ℤ p.b +ℤ p.c

abbrev pub last_in_records : Basis → Four → ℤ
last_in_records Bezier p = pos 6 *ℤ (p.b -ℤ pos 2 *ℤ p.c +ℤ p.d)
last_in_records BSpline p = p.b -ℤ pos 2 *ℤ p.c +ℤ p.d
last_in_records (Cardinal c) p = pos 192 *ℤ (p.b -ℤ p.c) +ℤ pos c *ℤ (p.c -ℤ p.a) +ℤ pos 2 *ℤ pos c *ℤ (p.d -ℤ p.b)
last_in_records Hermite p = pos 6 *ℤ (p.a -ℤ p.c) +ℤ pos 2 *ℤ p.b +ℤ pos 4 *ℤ p.d
last_in_records (Loop n) p = p.b -ℤ pos 2 *ℤ p.c +ℤ p.d
