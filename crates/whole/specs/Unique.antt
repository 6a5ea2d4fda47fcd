-- "No second outcome satisfies it" (document 01, "How firmly each call is tied"), of a contract: over the reading that is generated from the source, two answers, each
-- with what the lent lists hold at the end, that both meet it at the same arguments are the same. Every crate proves it of its public calls. Definitions only.
use Rattle.std.specs.Prelude.{◌≡◌, List, ℕ}
use borrow.Fn.Kinds.{ParamKind, ResultKind, Out, Dens, res_t, ended_of}
use contract.Lifetimes.{Lfts}
use denote.Triple.Clauses.{Lasts, at_exit}

-- of a signature's lifetimes, parameters and result, and of what the contract ensures
abbrev pub Unique : (n : ℕ) (ps : List (ParamKind n)) (r : ResultKind n) → Out n ps r → Type 0
Unique n ps r post =
    (κs : Lfts n) (a : Dens κs ps) (x y : (res_t r κs).Denot) (u v : Lasts (ended_of n ps r) κs a)
    → post κs a x (at_exit (ended_of n ps r) κs a u)
    → post κs a y (at_exit (ended_of n ps r) κs a v)
    → (x ≡ y) × (u ≡ v)
