-- How far the published curve is from its chords (document 02, request 13), each over 2^l or w times the divisor of the finer depth. `off_chord` is in `stray/specs/Chord`. Definitions only.
use Rattle.std.specs.Prelude.{List, ℕ, ◌+◌, ◌*◌, ◌^◌, ℤ, pos, ◌*ℤ◌, get_or}
use Rattle.curve.specs.declared.Basis.{Basis}
use Rattle.shape.specs.declared.Plan.{Plan}
use Rattle.shape.specs.Depth.{plan_at}
use Rattle.stray.specs.Chord.{off_chord, finer}
use Rattle.promises.specs.Points.{published_at, published_value}

-- Of span s: the exact curve at step i·2^l + j of depth k + l, from the chord between the exact points i and i + 1 of depth k, at the fraction j / 2^l.
abbrev pub off_exact : Basis → ℕ → ℕ → List ℤ → ℕ → ℕ → ℕ → ℕ → ℤ
off_exact b k l controls s axis i j = off_chord (2 ^ l) j (finer l (published_at b k controls s axis i)) (finer l (published_at b k controls s axis (i + 1))) (published_at b (k + l) controls s axis (i * 2 ^ l + j))

-- Of an outline: the exact curve at step n of depth k on an axis.
abbrev pub curve_at : Plan → ℕ → List ℤ → ℕ → ℕ → ℤ
curve_at p k controls axis n = published_value (plan_at k p) controls (2 * n + axis)

-- Point n of a list, x then y, on an axis: the whole number that stands there, over the divisor d.
abbrev pub standing : ℕ → List ℤ → ℕ → ℕ → ℤ
standing d held axis n = pos d *ℤ get_or held (2 * n + axis) (pos 0)
