-- What is mirrored (document 02, request 1: "negating all controls on an axis"): in lists of numbers, x then y, those on one axis are negated and those on the other stay. Shapes,
-- places, counts and refusals stay too. Definitions only.
use Rattle.std.specs.Prelude.{cond, List, [], ◌∷◌, ℕ, ◌%◌, eqb, ℤ, neg_ℤ, Result}
use Rattle.whole.specs.Outcome.{Outcome, outcome}
use Rattle.asked.specs.declared.Edit.{Edit}
use Rattle.asked.specs.declared.Edit.TheVariants.{Move, Insert, Remove}
use Rattle.sequences.specs.Played.{State, Call, state}
use Rattle.edit.specs.declared.Change.{Change}
use Rattle.outline.specs.declared.Figures.{Figures}
use Rattle.shape.specs.declared.Refusal.{Refusal}
use Rattle.tolerance.specs.declared.Steps.{Steps}

-- The axis whose numbers are negated.
pub data Axis : Type 0 where
  X Y : Axis

-- ---- numbers, where `minus` negates one

-- An x in the mirror, and a y.
abbrev pub mirror_x {ℓ} : {A : Type ℓ} → (A → A) → Axis → A → A
mirror_x minus X x = minus x
mirror_x minus Y x = x

abbrev pub mirror_y {ℓ} : {A : Type ℓ} → (A → A) → Axis → A → A
mirror_y minus X y = y
mirror_y minus Y y = minus y

-- Number q of a list of them, x then y: an x where q is even.
abbrev pub across {ℓ} : {A : Type ℓ} → (A → A) → Axis → ℕ → A → A
across minus axis q v = cond (eqb (q % 2) 0) (mirror_x minus axis v) (mirror_y minus axis v)

-- Such a list.
unfoldable pub mirrored {ℓ} : {A : Type ℓ} → (A → A) → Axis → List A → List A
mirrored minus axis [] = []
mirrored minus axis (x ∷ []) = mirror_x minus axis x ∷ []
mirrored minus axis (x ∷ y ∷ l) = mirror_x minus axis x ∷ mirror_y minus axis y ∷ mirrored minus axis l

-- Controls or points.
abbrev pub mirror : Axis → List ℤ → List ℤ
mirror axis l = mirrored neg_ℤ axis l

-- ---- a drawing call: what it leaves in the lent points

abbrev pub mirror_drawn : Axis → Outcome (Result Figures Refusal) (List ℤ) → Outcome (Result Figures Refusal) (List ℤ)
mirror_drawn axis o = outcome o.answer (mirror axis o.held)

-- ---- the same by tolerance

abbrev pub mirror_chosen : Axis → Outcome (Result Steps Refusal) (List ℤ) → Outcome (Result Steps Refusal) (List ℤ)
mirror_chosen axis o = outcome o.answer (mirror axis o.held)

-- ---- edits: the new record, and what they leave in both lent lists

abbrev pub mirror_edit : Axis → Edit → Edit
mirror_edit axis (Move x y) = Move (mirror_x neg_ℤ axis x) (mirror_y neg_ℤ axis y)
mirror_edit axis (Insert x y) = Insert (mirror_x neg_ℤ axis x) (mirror_y neg_ℤ axis y)
mirror_edit axis Remove = Remove

abbrev pub mirror_edited : Axis → Outcome (Result Change Refusal) (List ℤ × List ℤ) → Outcome (Result Change Refusal) (List ℤ × List ℤ)
mirror_edited axis o = outcome o.answer (mirror axis o.held.0, mirror axis o.held.1)

-- ---- edits one after another: what a caller holds, and the calls

abbrev pub mirror_state : Axis → State → State
mirror_state axis t = state t.shape (mirror axis t.controls) (mirror axis t.held)

abbrev pub mirror_call : Axis → Call → Call
mirror_call axis c = record { edit = mirror_edit axis c.edit; place = c.place }
