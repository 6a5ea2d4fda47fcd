-- The spans that an edit touches, the run of spans that it answers, and the old span that each other one holds (document 01, "Editing an outline"; for loops document 02, request 8). Spans are
-- those of the new shape, whose plan is p. Definitions only.
use Rattle.std.specs.Prelude.{true, cond, ◌⊎◌, ◌≡◌, ℕ, ◌+◌, ◌*◌, ◌-◌, ◌/◌, ◌^◌, ◌≤◌, ◌<◌, ltb}
use Rattle.curve.specs.declared.Basis.{Basis}
use Rattle.curve.specs.Span.{first_record, round_end, is_loop, record_at}
use Rattle.shape.specs.declared.Plan.{Plan}
use Rattle.asked.specs.declared.Edit.{Edit}
use Rattle.asked.specs.declared.Edit.TheVariants.{Move, Insert, Remove}
use Rattle.asked.specs.Edits.{carried_from}
use Rattle.edit.specs.declared.Change.{Change}

-- Record i of span t, from the first, i = 0, to the fourth.
abbrev pub record_in : Basis → ℕ → ℕ → ℕ
record_in b t i = record_at b (first_record b t + i)

-- Span t has record j, which a move or an insert made, among its four. Or one was taken out from between two that follow each other in it: the one at the place is its second, third or fourth.
abbrev pub Touched : Edit → Basis → ℕ → ℕ → Type 0
Touched (Move x y) b j t = (i : ℕ) × (i < 4) × (record_in b t i ≡ j)
Touched (Insert x y) b j t = (i : ℕ) × (i < 4) × (record_in b t i ≡ j)
Touched Remove b j t = (i : ℕ) × (i < 3) × (record_in b t (i + 1) ≡ record_at b j)

-- Span t of m is one of as many as the call answers, counted round from the first that it answers. In an open outline none is past the last, so nothing comes round.
abbrev pub InRun : Change → ℕ → ℕ → Type 0
InRun c m t = (t < m) × (round_end m (t + m - c.first) < c.fresh)

-- The two ends of a loop's list are one point: of the last span, where it is the first point, and of the first span, where it is the last.
abbrev pub AtJoint : Plan → ℕ → ℕ → Type 0
AtJoint p t g = (is_loop p.basis ≡ true) × (((g ≡ 0) × (t + 1 ≡ p.spans)) ⊎ ((g ≡ p.spans * 2 ^ p.depth) × (t ≡ 0)))

-- Number q is of one of span t's points: from t·2^k to (t+1)·2^k, both included, and in a loop where its list's two ends meet.
abbrev pub Among : Plan → ℕ → ℕ → Type 0
Among p t q = ((t * 2 ^ p.depth ≤ q / 2) × (q / 2 ≤ (t + 1) * 2 ^ p.depth)) ⊎ AtJoint p t (q / 2)

-- A span of the run has number q among its points.
abbrev pub Fresh : Change → Plan → ℕ → Type 0
Fresh c p q = (t : ℕ) × InRun c p.spans t × Among p t q

-- The old span that span t holds: itself before the place; from there on itself (move), the one before it (insert) or the one after it (remove).
abbrev pub old_span : Edit → ℕ → ℕ → ℕ
old_span e j t = cond (ltb t j) t (carried_from e 1 t)
