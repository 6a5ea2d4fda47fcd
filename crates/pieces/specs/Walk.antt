-- The walk from the left (document 02, request 3). At each piece it meets, in this order: a flat one, and goes on; one at the finest level, which is refused with 21; no cut left of the caller's
-- most, which is refused with 22; else it cuts, counts the cut, and walks the left piece and then the right one. Definitions only.
use Rattle.std.specs.Prelude.{cond, List, [], ◌∷◌, ℕ, ◌+◌, leb, Err, Ok, Result}
use Rattle.shape.specs.declared.Refusal.{Refusal}
use Rattle.shape.specs.declared.reason.Reason.TheVariants.{NotFlat, TooManyCuts}
use Rattle.shape.specs.Reasons.{refusal_at}
use Rattle.pieces.specs.Tree.{Tree, Flat, Rough, Cut}
use Rattle.pieces.specs.declared.Uncut.{Uncut}
use Rattle.pieces.specs.declared.Uncut.TheVariants.{TooDeep, TooMany}

-- The refusal that it ends with: 21 or 22, at place 0.
abbrev pub refusal_of : Uncut → Refusal
refusal_of TooDeep = refusal_at NotFlat 0
refusal_of TooMany = refusal_at TooManyCuts 0

-- What comes next, from the cuts made so far, where the walk has not ended.
abbrev pub and_then : Result ℕ Uncut → (ℕ → Result ℕ Uncut) → Result ℕ Uncut
and_then (Ok n) next = next n
and_then (Err why) next = Err why

-- With `made` cuts made already.
unfoldable pub walk : ℕ → ℕ → Tree → Result ℕ Uncut
walk most made (Flat p) = Ok made
walk most made (Rough p) = Err TooDeep
walk most made (Cut l r) = cond (leb most made) (Err TooMany) (and_then (walk most (made + 1) l) (λ n. walk most n r))

-- Tree after tree: "the cuts are counted over all of them".
unfoldable pub walk_all : ℕ → ℕ → List Tree → Result ℕ Uncut
walk_all most made [] = Ok made
walk_all most made (t ∷ trees) = and_then (walk most made t) (λ n. walk_all most n trees)
