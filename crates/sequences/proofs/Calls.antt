-- The theorems over sequences are about the code: what a call of the code may come to by its contract is what the reading gives, so a chain of calls ends where `played`
-- ends; and for every list of calls there is such a chain.
use Rattle.std.specs.Prelude.{Result}
use mathlib.Core.Path.{◌≡◌, refl, sym, ap, ◌∙◌}
use mathlib.Core.List.{List, [], ◌∷◌}
use Prim.Native.Nat.{ℕ}
use lib.IntN.{ℤ}
use denote.Ref.{Bor, MutBor}
use Rattle.whole.specs.Outcome.{Outcome}
use Rattle.shape.specs.declared.Shape.{Shape}
use Rattle.outline.specs.Outline.{draws}
use Rattle.asked.specs.declared.Edit.{Edit}
use Rattle.asked.specs.declared.Edit.TheVariants.{Move, Insert, Remove}
use Rattle.sequences.specs.Played.{State, Call, state_then, answered, called, played}
use Rattle.sequences.specs.Calls.{Way, Weights, Halving, Differences, MeetsDrawing, MeetsCall, Ends}
use Rattle.edit.specs.declared.Change.{Change}
use Rattle.outline.specs.declared.Figures.{Figures}
use Rattle.shape.specs.declared.Refusal.{Refusal}

-- ---- one call: its contract equates what it leaves with the reading of what was asked

abbrev drawing : Shape × List ℤ × List ℤ → Outcome (Result Figures Refusal) (List ℤ)
drawing asked = draws asked.0 asked.1 asked.2

pub meets-draws : (w : Way) (s : Shape) (controls lent : List ℤ) (o : Outcome (Result Figures Refusal) (List ℤ)) → MeetsDrawing w (s, controls, lent) o → draws s controls lent ≡ o
meets-draws Weights s controls lent o call = sym (sym call.leaves ∙ call.meets ∙ ap drawing call.asks)
meets-draws Halving s controls lent o call = sym (sym call.leaves ∙ call.meets ∙ ap drawing call.asks)
meets-draws Differences s controls lent o call = sym (sym call.leaves ∙ call.meets ∙ ap drawing call.asks)

abbrev reading : State × Call → Outcome (Result Change Refusal) (List ℤ × List ℤ)
reading asked = answered asked.0 asked.1

meets-reading : (e : Edit) (asked : State × Call) (o : Outcome (Result Change Refusal) (List ℤ × List ℤ)) → MeetsCall e asked o → o ≡ reading asked
meets-reading (Move x y) asked o call = sym call.leaves ∙ call.meets ∙ ap reading call.asks
meets-reading (Insert x y) asked o call = sym call.leaves ∙ call.meets ∙ ap reading call.asks
meets-reading Remove asked o call = sym call.leaves ∙ call.meets ∙ ap reading call.asks

-- ---- and what the reading gives does meet it

-- a list that is lent, wherever it lies
abbrev lent : List ℤ → Bor (List ℤ)
lent l = record { ref_ptr = (0, 0); now = l }

-- and one that is lent to be written
abbrev lent_to_write : List ℤ → MutBor (List ℤ)
lent_to_write l = record { ref_ptr = (0, 0); ghost_name = 0; now = l }

-- the three drawing calls have one signature and one contract
one-drawing : (s : Shape) (controls points : List ℤ) → MeetsDrawing Weights (s, controls, points) (draws s controls points)
one-drawing s controls points =
    let o = draws s controls points in
    record {
      lifetimes = ([], ([], tt));
      arguments = (s, (lent controls, (lent_to_write points, tt)));
      result = o.answer;
      last = (tt, (tt, (o.held, tt)));
      asks = refl;
      leaves = refl;
      meets = refl;
    }

pub draws-meets : (w : Way) (s : Shape) (controls points : List ℤ) → MeetsDrawing w (s, controls, points) (draws s controls points)
draws-meets Weights = one-drawing
draws-meets Halving = one-drawing
draws-meets Differences = one-drawing

reading-meets : (e : Edit) (t : State) (j : ℕ) → MeetsCall e (t, record { edit = e; place = j }) (answered t (record { edit = e; place = j }))
reading-meets (Move x y) t j =
    let o = answered t (record { edit = Move x y; place = j }) in
    record {
      lifetimes = ([], ([], tt));
      arguments = (t.shape, (j, (x, (y, (lent_to_write t.controls, (lent_to_write t.held, tt))))));
      result = o.answer;
      last = (tt, (tt, (tt, (tt, (o.held.0, (o.held.1, tt))))));
      asks = refl;
      leaves = refl;
      meets = refl;
    }
reading-meets (Insert x y) t j =
    let o = answered t (record { edit = Insert x y; place = j }) in
    record {
      lifetimes = ([], ([], tt));
      arguments = (t.shape, (j, (x, (y, (lent_to_write t.controls, (lent_to_write t.held, tt))))));
      result = o.answer;
      last = (tt, (tt, (tt, (tt, (o.held.0, (o.held.1, tt))))));
      asks = refl;
      leaves = refl;
      meets = refl;
    }
reading-meets Remove t j =
    let o = answered t (record { edit = Remove; place = j }) in
    record {
      lifetimes = ([], ([], tt));
      arguments = (t.shape, (j, (lent_to_write t.controls, (lent_to_write t.held, tt))));
      result = o.answer;
      last = (tt, (tt, (o.held.0, (o.held.1, tt))));
      asks = refl;
      leaves = refl;
      meets = refl;
    }

-- ---- one after another

pub ends-played : (t : State) (calls : List Call) (last : State) → Ends t calls last → last ≡ played t calls
unfolding Ends played called
ends-played t [] last is = is
ends-played t (c ∷ calls) last (o, met, ends) =
    ends-played (state_then t.shape o) calls last ends ∙ ap (λ v. played (state_then t.shape v) calls) (meets-reading c.edit (t, c) o met)

pub played-ends : (t : State) (calls : List Call) → Ends t calls (played t calls)
unfolding Ends played called
played-ends t [] = refl
played-ends t (c ∷ calls) = (answered t c, reading-meets c.edit t c.place, played-ends (called t c) calls)
