-- Demand 3, from its first word to its last: start from a drawn outline; after any calls, with any arguments and refused ones among them, the points are the outline of the
-- controls as they stand. And this is said of the code: over the contracts that are generated from the source, calls end where the reading of one call after another ends.
use Rattle.std.specs.Prelude.{Err, Ok}
use mathlib.Core.Path.{◌≡◌, sym, ◌∙◌, subst}
use mathlib.Core.List.{List}
use lib.IntN.{ℤ}
use Rattle.whole.specs.Outcome.{outcome}
use Rattle.shape.specs.declared.Shape.{Shape}
use Rattle.shape.specs.declared.Refusal.{Refusal}
use Rattle.shape.specs.Refusals.{plan_of}
use Rattle.outline.specs.declared.Figures.{Figures}
use Rattle.outline.specs.Outline.{draws}
use Rattle.sequences.specs.Played.{State, Call, state, answered, called, played, Outlined, Redraws}
use Rattle.sequences.specs.Calls.{Way, MeetsDrawing, Ends}
use Rattle.sequences.proofs.Played as sequences
use Rattle.sequences.proofs.Again as again
use Rattle.sequences.proofs.Calls as calls
use Rattle.promises.specs.Sequences.{Published}
use Rattle.promises.proofs.Points.{number-published}

-- ---- by the reading of each call

-- from any outline, after any list of calls, each point is the published curve's for the controls as they then stand
pub after-any-calls : (t : State) (calls : List Call) → Outlined t → Published (played t calls)
after-any-calls t calls out q h =
    let p = plan_of (played t calls).shape in
    (sequences.played-outlined t calls out).holds q h ∙ number-published p (played t calls).controls q

-- from an accepted drawing, after any list of calls: drawing again would be done and change nothing, and each point is the published curve's
pub drawn-then-any-calls :
    (s : Shape) (controls lent : List ℤ) (fs : Figures) (held : List ℤ) (calls : List Call)
    → draws s controls lent ≡ outcome (Ok fs) held
    → Redraws (played (state s controls held) calls) × Published (played (state s controls held) calls)
drawn-then-any-calls s controls lent fs held calls accepted =
    (again.drawn-played-redraws s controls lent fs held calls accepted, after-any-calls (state s controls held) calls (sequences.drawn-outlined s controls lent fs held accepted))

-- a call that answers a refusal leaves shape, controls and points as they were
pub refused-keeps : (t : State) (c : Call) (r : Refusal) → (answered t c).answer ≡ Err r → called t c ≡ t
refused-keeps = sequences.refused-keeps

-- ---- by the contracts of the code

-- calls of the code, each on what the last left, end in what the reading gives; and for every list of calls there are such
pub code-ends-played : (t : State) (calls : List Call) (last : State) → (Ends t calls last → last ≡ played t calls) × (last ≡ played t calls → Ends t calls last)
code-ends-played t list last = (calls.ends-played t list last, λ is. subst (Ends t list) (sym is) (calls.played-ends t list))

-- a drawing call of the code, by whichever way, comes to what its reading gives, and to nothing else
pub code-draws : (w : Way) (s : Shape) (controls lent : List ℤ) (fs : Figures) (held : List ℤ)
    → (MeetsDrawing w (s, controls, lent) (outcome (Ok fs) held) → draws s controls lent ≡ outcome (Ok fs) held)
    × (draws s controls lent ≡ outcome (Ok fs) held → MeetsDrawing w (s, controls, lent) (outcome (Ok fs) held))
code-draws w s controls lent fs held = (calls.meets-draws w s controls lent _, λ is. subst (MeetsDrawing w (s, controls, lent)) is (calls.draws-meets w s controls lent))

-- so an accepted drawing call, and after it any calls of the code, leave a state in which drawing again would change nothing and each point is the published curve's
pub code-then-any-calls :
    (w : Way) (s : Shape) (controls lent : List ℤ) (fs : Figures) (held : List ℤ) (list : List Call) (last : State)
    → MeetsDrawing w (s, controls, lent) (outcome (Ok fs) held)
    → Ends (state s controls held) list last
    → Redraws last × Published last
code-then-any-calls w s controls lent fs held list last drawn ends =
    subst (λ t. Redraws t × Published t) (sym (calls.ends-played (state s controls held) list last ends)) (drawn-then-any-calls s controls lent fs held list (calls.meets-draws w s controls lent _ drawn))
