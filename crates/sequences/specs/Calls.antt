-- Calls of the code, one after another (demand 3): a drawing and any edits after it, over the contracts that are generated from the source. Definitions only.
use Rattle.std.specs.Prelude.{◌≡◌, List, [], ◌∷◌, ℕ, ℤ, Result}
use borrow.Fn.Kinds.{ParamKind, ResultKind, Out, Dens, res_t, ended_of}
use contract.Lifetimes.{Lfts}
use denote.Triple.Clauses.{Lasts, at_exit}
use Rattle.whole.specs.Outcome.{Outcome, outcome}
use Rattle.asked.specs.declared.Edit.{Edit}
use Rattle.asked.specs.declared.Edit.TheVariants.{Move, Insert, Remove}
use Rattle.shape.specs.declared.Shape.{Shape}
use Rattle.outline.proofs.by_weights.Kinds as by_weights
use Rattle.outline.proofs.by_weights.Reads as by-weights-reads
use Rattle.outline.proofs.by_halving.Kinds as by-halving
use Rattle.outline.proofs.by_halving.Reads as by-halving-reads
use Rattle.outline.proofs.by_differences.Kinds as by-differences
use Rattle.outline.proofs.by_differences.Reads as by-differences-reads
use Rattle.edit.proofs.move_record.Kinds as move
use Rattle.edit.proofs.move_record.Reads as move-reads
use Rattle.edit.proofs.insert_record.Kinds as insert
use Rattle.edit.proofs.insert_record.Reads as insert-reads
use Rattle.edit.proofs.remove_record.Kinds as remove
use Rattle.edit.proofs.remove_record.Reads as remove-reads
use Rattle.sequences.specs.Played.{State, Call, state, state_then}
use Rattle.edit.specs.declared.Change.{Change}
use Rattle.outline.specs.declared.Figures.{Figures}
use Rattle.shape.specs.declared.Refusal.{Refusal}

-- Of a signature's lifetimes, parameters and result, and of what the contract ensures, where `given` reads the arguments and `left` the result and what the lent lists
-- hold at the end: there are arguments that are those asked, and a result and last lists that are the outcome o and meet the contract.
pub record Meets
    {G O : Type 0} (n : ℕ) (ps : List (ParamKind n)) (r : ResultKind n) (post : Out n ps r)
    (given : (κs : Lfts n) → Dens κs ps → G)
    (left : (κs : Lfts n) (a : Dens κs ps) → (res_t r κs).Denot → Lasts (ended_of n ps r) κs a → O)
    (asked : G) (o : O) : Type 0 where
  pub lifetimes : Lfts n
  pub arguments : Dens lifetimes ps
  pub result : (res_t r lifetimes).Denot
  pub last : Lasts (ended_of n ps r) lifetimes arguments
  pub asks : given lifetimes arguments ≡ asked
  pub leaves : left lifetimes arguments result last ≡ o
  pub meets : post lifetimes arguments result (at_exit (ended_of n ps r) lifetimes arguments last)

-- ---- drawing

-- The three ways of document 01: each has a drawing call.
pub data Way : Type 0 where
  Weights : Way
  Halving : Way
  Differences : Way

-- The drawing call of a way. Its arguments in their order are the shape, the controls and the points.
abbrev pub MeetsDrawing : Way → Shape × List ℤ × List ℤ → Outcome (Result Figures Refusal) (List ℤ) → Type 0
MeetsDrawing Weights =
    Meets 2 by_weights.ps by_weights.r by-weights-reads.Post (λ κs a. (a.0, a.1.0.now, a.1.1.0.now)) (λ κs a r u. outcome r u.1.1.0)
MeetsDrawing Halving =
    Meets 2 by-halving.ps by-halving.r by-halving-reads.Post (λ κs a. (a.0, a.1.0.now, a.1.1.0.now)) (λ κs a r u. outcome r u.1.1.0)
MeetsDrawing Differences =
    Meets 2 by-differences.ps by-differences.r by-differences-reads.Post (λ κs a. (a.0, a.1.0.now, a.1.1.0.now)) (λ κs a r u. outcome r u.1.1.0)

-- ---- editing

-- A state, and what is asked of it.
abbrev pub asking : Edit → Shape → ℕ → List ℤ → List ℤ → State × Call
asking e s j controls held = (state s controls held, record { edit = e; place = j })

-- The call of an edit. Its arguments in their order are the shape, the place, the new record's x and y where there is one, the controls and the points.
abbrev pub MeetsCall : Edit → State × Call → Outcome (Result Change Refusal) (List ℤ × List ℤ) → Type 0
MeetsCall (Move x y) =
    Meets 2 move.ps move.r move-reads.Post (λ κs a. asking (Move a.1.1.0 a.1.1.1.0) a.0 a.1.0 a.1.1.1.1.0.now a.1.1.1.1.1.0.now)
    (λ κs a r u. outcome r (u.1.1.1.1.0, u.1.1.1.1.1.0))
MeetsCall (Insert x y) =
    Meets 2 insert.ps insert.r insert-reads.Post (λ κs a. asking (Insert a.1.1.0 a.1.1.1.0) a.0 a.1.0 a.1.1.1.1.0.now a.1.1.1.1.1.0.now)
    (λ κs a r u. outcome r (u.1.1.1.1.0, u.1.1.1.1.1.0))
MeetsCall Remove =
    Meets 2 remove.ps remove.r remove-reads.Post (λ κs a. asking Remove a.0 a.1.0 a.1.1.0.now a.1.1.1.0.now) (λ κs a r u. outcome r (u.1.1.0, u.1.1.1.0))

-- From a state, calls of the code end in a last state: each is given what the one before it left.
unfoldable pub Ends : State → List Call → State → Type 0
Ends t [] last = last ≡ t
Ends t (c ∷ calls) last = (o : Outcome (Result Change Refusal) (List ℤ × List ℤ)) × MeetsCall c.edit (t, c) o × Ends (state_then t.shape o) calls last
