-- Runs of loops and what they make fresh, computed (document 02, request 8): counted round the end; a move in a loop of four names all four; the first and the last point go together.
use mathlib.Core.Path.{◌≡◌, refl}
use mathlib.Core.Bool.{true, false}
use Prim.Native.Nat.{ℕ}
use lib.IntN.{pos}
use Rattle.curve.specs.declared.Basis.TheVariants.{Loop}
use Rattle.curve.specs.Span.{round_end}
use Rattle.shape.specs.declared.Plan.{Plan}
use Rattle.asked.specs.declared.Run.{Run}
use Rattle.asked.specs.declared.Edit.TheVariants.{Move, Insert, Remove}
use Rattle.asked.specs.Edits.{run_of, in_run, is_fresh}

abbrev loop : ℕ → Plan
loop n = record { basis = Loop n; depth = 0; spans = n }

abbrev run : ℕ → ℕ → Run
run first count = record { first = first; count = count }

pub goes-round : (run_of (Insert (pos 0) (pos 0)) (loop 7) 0 ≡ run 4 4) × (run_of (Move (pos 0) (pos 0)) (loop 6) 2 ≡ run 5 4) × (run_of Remove (loop 5) 1 ≡ run 3 3)
unfolding run_of round_end
goes-round = (refl, refl, refl)

pub ends-with-it : (run_of (Insert (pos 0) (pos 0)) (loop 7) 6 ≡ run 3 4) × (run_of Remove (loop 5) 5 ≡ run 2 3) × (run_of Remove (loop 5) 0 ≡ run 2 3)
unfolding run_of round_end
ends-with-it = (refl, refl, refl)

pub all-four : (run_of (Move (pos 0) (pos 0)) (loop 4) 0 ≡ run 1 4) × (run_of (Move (pos 0) (pos 0)) (loop 4) 3 ≡ run 0 4)
unfolding run_of round_end
all-four = (refl, refl)

-- Of six spans at depth 0, number 12 is the last point's x.
pub last-with-first : (is_fresh (run 0 1) (loop 6) 12 ≡ true) × (is_fresh (run 0 1) (loop 6) 10 ≡ false)
unfolding is_fresh in_run round_end
last-with-first = (refl, refl)

pub first-with-last : (is_fresh (run 4 2) (loop 6) 0 ≡ true) × (is_fresh (run 4 2) (loop 6) 2 ≡ false)
unfolding is_fresh in_run round_end
first-with-last = (refl, refl)
