-- For contracts inside the project alone: no public contract uses what is here.
-- Runs of spans and carrying them by one span, and what is known once the checks of an edit have passed.
use Rattle.std.specs.Prelude.{cond, true, false, List, ◌≡◌, ℕ, ◌+◌, ◌*◌, ◌-◌, ◌≤◌, ◌<◌, ltb, ℤ, pos, get_or, length, Err, Ok, Result}
use Rattle.asked.specs.declared.Edit.{Edit}
use Rattle.asked.specs.declared.Edit.TheVariants.{Move, Insert, Remove}
use Rattle.whole.specs.Outcome.{Outcome, outcome, refuses}
use Rattle.curve.specs.Span.{is_loop}
use Rattle.shape.specs.declared.Shape.{Shape}
use Rattle.shape.specs.declared.Plan.{Plan}
use Rattle.shape.specs.Inner.{Good}
use Rattle.shape.specs.Shape.{most_records}
use Rattle.spans.specs.Numbers.{number, per_span}
use Rattle.spans.specs.Filled.{filled, fills}
use Rattle.spans.specs.Inner.{Drawable, Joint}
use Rattle.asked.specs.declared.Run.{Run}
use Rattle.asked.specs.Edits.{count_after, offered, in_range, at_the_end, past_fresh, asked, run_of, carried_from, is_fresh, exact_fresh}
use Rattle.asked.specs.Inner.{Askable}
use Rattle.edit.specs.Reading.{shape_after, accepts, edits}
use Rattle.shape.specs.declared.Refusal.{Refusal}

-- A run among a plan's spans: in an open outline it ends with them, in a loop it goes round at most once.
abbrev pub Runnable : Run → Plan → Type 0
Runnable run p = cond (is_loop p.basis) ((run.first < p.spans) × (run.count ≤ p.spans)) (run.first + run.count ≤ p.spans)

-- Room for a plan's points in a list of `len` numbers.
abbrev pub HasRoom : Plan → ℕ → Type 0
HasRoom p len = p.spans * per_span p.depth + 2 ≤ len

-- The fresh numbers of a run worked afresh, and how many of them are exact; every other number as it was.
unfoldable pub refreshes : Run → Plan → List ℤ → List ℤ → Outcome ℕ (List ℤ)
refreshes run p controls l =
    outcome (exact_fresh run p controls) (filled (λ q. cond (is_fresh run p q) (number p controls q) (get_or l q (pos 0))) 0 (p.spans * per_span p.depth + 2) l)

-- Drawing a loop's spans from one to the list's end, and then those from its start up to, and not with, another.
unfoldable pub fills_ends : Plan → List ℤ → ℕ → ℕ → List ℤ → Outcome ℕ (List ℤ)
fills_ends p controls from to l =
    let w = per_span p.depth in
    let last = fills p controls (from * w) ((p.spans - from) * w + 2) l in
    let first = fills p controls (0 * w) ((to - 0) * w + 2) last.held in
    outcome (last.answer + first.answer) first.held

-- A stretch of a loop's spans in a list of `len` numbers: some spans, or none at one of the places of the joint.
pub record StretchOf (p : Plan) (from to len : ℕ) : Type 0 where
  pub low : from ≤ to
  pub high : to ≤ p.spans
  pub joint : to ≤ from → Joint p (from * per_span p.depth)
  pub room : to * per_span p.depth + 2 ≤ len

-- The spans from one up to, and not with, another, w numbers each and the two of the last end; none where there is no span.
unfoldable pub run_length : ℕ → ℕ → ℕ → ℕ
run_length first past w = cond (ltb first past) ((past - first) * w + 2) 0

-- Each span from `past` up to `spans` has one before it (insert) or after it (remove) in a list of `len` numbers.
abbrev pub Carriable : Edit → ℕ → ℕ → ℕ → ℕ → Type 0
Carriable (Move x y) past spans w len = Unit {0}
Carriable (Insert x y) past spans w len = (1 ≤ past) × (spans * w + 2 ≤ len)
Carriable Remove past spans w len = spans * w + 2 + w ≤ len

-- The points of it after that: each number from the first such span on is the one that it is carried from.
abbrev pub carried : Edit → ℕ → ℕ → ℕ → List ℤ → List ℤ
carried e past spans w l = filled (λ q. get_or l (carried_from e w q) (pos 0)) (past * w) (run_length past spans w) l

-- Rows 1 to 6 passed.
pub record Editable (e : Edit) (s : Shape) (p : Plan) (j : ℕ) : Type 0 where
  pub good : Good s p
  pub offered : offered e p.basis ≡ true
  pub in_range : in_range e j s.count ≡ true
  pub not_at_the_end : at_the_end e s.count ≡ false

-- Every row passed: q is the plan of the new shape, and `len` the numbers of the lent points.
pub record Workable (e : Edit) (s : Shape) (q : Plan) (j : ℕ) (controls : List ℤ) (len : ℕ) : Type 0 where
  pub good : Good (shape_after e s) q
  pub least : 1 ≤ s.count
  pub most : s.count ≤ most_records
  pub place : j ≤ most_records
  pub askable : Askable e j s.count (length controls)
  pub drawable : Drawable q (asked e j controls (count_after e s.count))
  pub runnable : Runnable (run_of e q j) q
  pub points-room : HasRoom q len
  pub carriable : Carriable e (past_fresh e q j) q.spans (per_span q.depth) len

-- What the checks find together: the refusal that the edit comes to, or the plan of the new shape, with which it can be worked and is accepted.
abbrev pub Vetted : Edit → Shape → ℕ → List ℤ → List ℤ → Result Plan Refusal → Type 0
Vetted e s j controls lent (Err r) = edits e s j controls lent ≡ refuses Err (controls, lent) r
Vetted e s j controls lent (Ok q) = Workable e s q j controls (length lent) × (edits e s j controls lent ≡ accepts e s q j controls lent)
