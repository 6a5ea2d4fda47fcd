-- The midpoint of document 01's halving ("Preview and drawing"), in doubles: a sum and a half of it, each as IEEE 754 rounds it. Definitions only.
use Rattle.std.specs.Prelude.{false, pos, Float}
use Rattle.std.specs.Float.{fin, binary64}
use Rattle.std.specs.Float.Ieee.{add, div}
use Rattle.doubles.specs.declared.Pair.{Pair}

-- 2.0, which is 1 · 2^1
abbrev pub two : Float
two = fin false 1 (pos 1)

-- (a + b) / 2
unfoldable pub mid : Float → Float → Float
unfolding add div
mid a b = div binary64 (add binary64 a b) two

-- x and y, each by itself
unfoldable pub mid_pair : Pair → Pair → Pair
unfolding mid
mid_pair a b = record { x = mid a.x b.x; y = mid a.y b.y }
