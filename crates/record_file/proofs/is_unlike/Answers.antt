-- The first three bytes, one by one.
use Rattle.std.proofs.Common.{◌≡◌, ◌∙◌, ap, refl, List, [], ◌∷◌, ℕ, ◌≤◌, length, get_or, take, arith}
use Rattle.std.specs.Prelude.{not, ◌&&◌, eqb}
use Rattle.std.proofs.Math.Bool.{and-true}
use lib.Pointwise.{pointwise}
use Rattle.record_file.specs.Inner.{unlike}
use Rattle.record_file.proofs.is_unlike.Goals as goal

front : (xs : List ℕ) → 3 ≤ length xs → take 3 xs ≡ get_or xs 0 0 ∷ get_or xs 1 0 ∷ get_or xs 2 0 ∷ []
front (a ∷ b ∷ c ∷ xs) h = refl
front (a ∷ b ∷ []) h = absurd (omega arith)
front (a ∷ []) h = absurd (omega arith)
front [] h = absurd (omega arith)

fronts : (xs ys : List ℕ) → 3 ≤ length xs → 3 ≤ length ys → not (pointwise eqb (take 3 xs) (take 3 ys)) ≡ unlike xs ys
unfolding unlike
fronts xs ys h k = rw (front xs h, front ys k) (ap (λ t. not (eqb (get_or xs 0 0) (get_or ys 0 0) && (eqb (get_or xs 1 0) (get_or ys 1 0) && t))) (and-true (eqb (get_or xs 2 0) (get_or ys 2 0))))

pub returns : goal.returns
returns c = c.ne.ensures ∙ fronts c.args.bytes.now c.args.first.now (omega arith) (omega arith)
