-- Document 01's "Sums to hold it to" for a drawing, P1 to P8, as one list. Each is one span of four records, on the x axis as the paper gives it; y is 0 throughout. The lent
-- points have room for one point more than the outline, and hold -1.
use Rattle.std.specs.Prelude.{List, [], ◌∷◌, ◌++◌, ℕ, ◌+◌, ◌*◌, ℤ, pos, length, replicate, Ok, Result}
use Rattle.whole.specs.Outcome.{Outcome, outcome}
use Rattle.curve.specs.Numbers.{neg}
use Rattle.outline.specs.Outline.{draws}
use Rattle.outline.specs.declared.Figures.{Figures}
use Rattle.shape.specs.declared.Refusal.{Refusal}

-- The basis by its number, the depth, the parameter, the records' x, and the points' x that the paper gives, from t = 0 to t = 1. Where the paper gives the middle alone (P4, P6, P8), the
-- span's two ends stand beside it. Last, how many coordinates are exact (document 02, request 9): every y, and each x that is whole before it is rounded.
pub record Case : Type 0 where
  pub basis : ℕ
  pub depth : ℕ
  pub parameter : ℕ
  pub records : List ℤ
  pub points : List ℤ
  pub exact : ℕ

-- Records or points on the x axis.
unfoldable pub on_x : List ℤ → List ℤ
on_x [] = []
on_x (x ∷ l) = x ∷ pos 0 ∷ on_x l

-- What the drawing call comes to, and what the paper gives: so many points, so many coordinates exact, these points, and past them what was there.
abbrev pub given : Case → Outcome (Result Figures Refusal) (List ℤ)
given c = draws (record { basis = c.basis; depth = c.depth; count = length c.records; parameter = c.parameter }) (on_x c.records) (replicate (2 * length c.points + 2) (neg 1))

abbrev pub paper : Case → Outcome (Result Figures Refusal) (List ℤ)
paper c = outcome (Ok (record { points = length c.points; exact = c.exact })) (on_x c.points ++ neg 1 ∷ neg 1 ∷ [])

-- A half goes away from zero, above it and below (document 02, request 1, for document 01's P2): that coordinate is not exact.
abbrev pub p1 : Case
p1 = record { basis = 1; depth = 1; parameter = 0; records = pos 0 ∷ pos 0 ∷ pos 0 ∷ pos 4 ∷ []; points = pos 0 ∷ pos 1 ∷ pos 4 ∷ []; exact = 5 }

abbrev pub p2 : Case
p2 = record { basis = 1; depth = 1; parameter = 0; records = pos 0 ∷ pos 0 ∷ pos 0 ∷ neg 4 ∷ []; points = pos 0 ∷ neg 1 ∷ neg 4 ∷ []; exact = 5 }

abbrev pub p3 : Case
p3 = record { basis = 2; depth = 1; parameter = 0; records = pos 0 ∷ pos 6 ∷ pos 12 ∷ pos 18 ∷ []; points = pos 6 ∷ pos 9 ∷ pos 12 ∷ []; exact = 6 }

-- The middle is 23/48. Were the converted controls 2/3, 2/3, 1/3, 1/6 rounded first, it would come out as 1.
abbrev pub p4 : Case
p4 = record { basis = 2; depth = 1; parameter = 0; records = pos 0 ∷ pos 1 ∷ pos 0 ∷ pos 0 ∷ []; points = pos 1 ∷ pos 0 ∷ pos 0 ∷ []; exact = 3 }

abbrev pub p5 : Case
p5 = record { basis = 3; depth = 1; parameter = 0; records = pos 0 ∷ pos 1000 ∷ pos 1000 ∷ pos 0 ∷ []; points = pos 1000 ∷ pos 1125 ∷ pos 1000 ∷ []; exact = 6 }

-- The farthest that a cardinal span goes at one half: its middle is at 5,000,000, and it is accepted.
abbrev pub p6 : Case
p6 = record { basis = 3; depth = 1; parameter = 0; records = neg 4000000 ∷ pos 4000000 ∷ pos 4000000 ∷ neg 4000000 ∷ []; points = pos 4000000 ∷ pos 5000000 ∷ pos 4000000 ∷ []; exact = 6 }

-- Hermite records are start, start tangent, end, end tangent. 156 and 844 stand for 156 1/4 and 843 3/4.
abbrev pub p7 : Case
p7 = record { basis = 4; depth = 2; parameter = 0; records = pos 0 ∷ pos 0 ∷ pos 1000 ∷ pos 0 ∷ []; points = pos 0 ∷ pos 156 ∷ pos 500 ∷ pos 844 ∷ pos 1000 ∷ []; exact = 8 }

abbrev pub p8 : Case
p8 = record { basis = 4; depth = 1; parameter = 0; records = pos 0 ∷ pos 8 ∷ pos 0 ∷ neg 8 ∷ []; points = pos 0 ∷ pos 2 ∷ pos 0 ∷ []; exact = 6 }

abbrev pub cases : List Case
cases = p1 ∷ p2 ∷ p3 ∷ p4 ∷ p5 ∷ p6 ∷ p7 ∷ p8 ∷ []

-- ---- document 02, request 7: P5 at parameters 16, 32 and 64, at the first with an exact half, and P6 at 64, the farthest that any span goes

abbrev pub p5at : ℕ → ℤ → ℕ → Case
p5at c middle exact =
    record { basis = 3; depth = 1; parameter = c; records = pos 0 ∷ pos 1000 ∷ pos 1000 ∷ pos 0 ∷ []; points = pos 1000 ∷ middle ∷ pos 1000 ∷ []; exact = exact }

abbrev pub farthest : Case
farthest = record { basis = 3; depth = 1; parameter = 64; records = neg 4000000 ∷ pos 4000000 ∷ pos 4000000 ∷ neg 4000000 ∷ []; points = pos 4000000 ∷ pos 6000000 ∷ pos 4000000 ∷ []; exact = 6 }

abbrev pub tauter : List Case
tauter = p5at 16 (pos 1063) 5 ∷ p5at 32 (pos 1125) 6 ∷ p5at 64 (pos 1250) 6 ∷ farthest ∷ []
