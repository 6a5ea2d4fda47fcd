-- Numbers written one after another into a lent list. Definitions only.
use Rattle.std.specs.Prelude.{List, ℕ, ◌+◌, ◌*◌, ◌-◌, ℤ}
use Rattle.std.proofs.lemmas.List.Edits.{sets}
use Rattle.whole.specs.Outcome.{Outcome, outcome}
use Rattle.curve.specs.Tab.{tab}
use Rattle.shape.specs.declared.Plan.{Plan}
use Rattle.spans.specs.Numbers.{number, exact_in, per_span}

-- The lent points with n numbers from number q on as a rule has them, and all others as they were.
abbrev pub filled : (ℕ → ℤ) → ℕ → ℕ → List ℤ → List ℤ
filled f q n l = sets l q (tab f q n)

-- Drawing n numbers of a plan's outline, from number q on: how many of them are exact, and the lent points with them.
abbrev pub fills : Plan → List ℤ → ℕ → ℕ → List ℤ → Outcome ℕ (List ℤ)
fills p controls q n l = outcome (exact_in p controls q n) (filled (number p controls) q n l)

-- The same of a plan's spans from one up to, and not with, another, and the end of the last of them.
abbrev pub fills_run : Plan → ℕ → ℕ → List ℤ → List ℤ → Outcome ℕ (List ℤ)
fills_run p from to controls l = fills p controls (from * per_span p.depth) ((to - from) * per_span p.depth + 2) l
