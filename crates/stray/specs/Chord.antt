-- How far the curve strays from a chord (document 02, request 13): "the exact curve differs on each axis from the chord between the exact points of depth k, at the same fraction, by at most
-- three quarters of the larger second difference, in size, of the span's Bezier controls, divided by 4^k". All is multiplied out, so that everything is whole. Definitions only.
use Rattle.std.specs.Prelude.{◌≡◌, List, ℕ, ◌+◌, ◌*◌, ◌-◌, ◌^◌, ◌≤◌, ℤ, pos, nat_abs, ◌+ℤ◌, ◌-ℤ◌, ◌*ℤ◌}
use Rattle.curve.specs.declared.Four.{Four}
use Rattle.curve.specs.declared.Basis.{Basis}
use Rattle.curve.specs.Bend.{bend}
use Rattle.curve.specs.Span.{coordinate, records, whole_controls, divisor}

-- ---- bounds

-- A bound in micrometres, as the fraction over / under.
pub record Bound : Type 0 where
  pub over : ℕ
  pub under : ℕ

-- The size of z / d is at most the bound; or it is the bound.
abbrev pub Within : Bound → ℤ → ℕ → Type 0
Within f z d = f.under * nat_abs z ≤ f.over * d

abbrev pub Meets : Bound → ℤ → ℕ → Type 0
Meets f z d = f.under * nat_abs z ≡ f.over * d

-- "Three quarters of the larger second difference, in size, of the span's Bezier controls, divided by 4^k", where the controls are whole numbers over d.
abbrev pub bend_bound : ℕ → Four → ℕ → Bound
bend_bound d controls k = record { over = 3 * bend controls; under = 4 * (4 ^ k * d) }

-- That of span s on an axis (0 is x, 1 is y), at depth k: document 01's Bezier controls of a span, over what they are a multiple of.
abbrev pub span_bound : Basis → ℕ → List ℤ → ℕ → ℕ → Bound
span_bound b k controls s axis = bend_bound (divisor b 0) (whole_controls b (records b s (coordinate controls axis))) k

-- So many whole micrometres.
abbrev pub micrometres : ℕ → Bound
micrometres n = record { over = n; under = 1 }

-- "Half a micrometre more."
abbrev pub half_more : Bound → Bound
half_more f = record { over = 2 * f.over + f.under; under = 2 * f.under }

-- ---- chords

-- How far z is from the chord between a and c at the fraction j / w of the way: z less ((w - j)·a + j·c) / w. Where a, c and z are over d, this is over w·d.
abbrev pub off_chord : ℕ → ℕ → ℤ → ℤ → ℤ → ℤ
off_chord w j a c z = pos w *ℤ z -ℤ (pos (w - j) *ℤ a +ℤ pos j *ℤ c)

-- A value over the divisor of a depth, taken over that of l depths more, which is 2^(3l) times as large.
abbrev pub finer : ℕ → ℤ → ℤ
finer l z = pos (2 ^ (3 * l)) *ℤ z
