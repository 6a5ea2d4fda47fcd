-- The listing of a record file: what outline-list writes for it (document 01, "Sums to hold it to"), and what outline-cut does (document 02, request 3). The file is read as a
-- record file, the outline of its shape and records is drawn, with even steps or with steps chosen by tolerance, and its points are listed; a refusal on the way is one line.
-- Definitions only.
use Rattle.std.specs.Prelude.{List, ℕ, ◌+◌, ◌*◌, ◌^◌, ℤ, pos, replicate, take, Option, Some, None, Result, Ok, Err}
use Rattle.whole.specs.Outcome.{Outcome, outcome}
use Rattle.curve.specs.Ways.{deepest}
use Rattle.shape.specs.declared.Shape.{Shape}
use Rattle.shape.specs.declared.Refusal.{Refusal}
use Rattle.shape.specs.Shape.{most_records}
use Rattle.shape.specs.Refusals.{plan_of}
use Rattle.outline.specs.Outline.{draws}
use Rattle.pieces.specs.Tree.{finest}
use Rattle.tolerance.specs.Reading.{chooses}
use Rattle.record_file.specs.Rows.{reading}
use Rattle.listing.specs.Listing.{outline_text, chosen_text, refusal_text}
use Rattle.listing.specs.Written.{written}
use Rattle.outline.specs.declared.Figures.{Figures}
use Rattle.tolerance.specs.declared.Steps.{Steps}

-- The most spans of an outline: of a loop, each record starts one.
abbrev pub most_spans : ℕ
most_spans = most_records

-- And its points at a depth.
abbrev pub most_listed : ℕ → ℕ
most_listed k = most_spans * 2 ^ k + 1

-- The lists that are lent to the calls, zeros alone: room for the most records, and for the most points at a depth.
abbrev pub controls : List ℤ
controls = replicate (2 * most_records) (pos 0)

abbrev pub points : ℕ → List ℤ
points k = replicate (2 * most_listed k) (pos 0)

-- The text of a refusal.
abbrev pub refused_text : Refusal → List ℕ
refused_text r = refusal_text r.number r.place

-- The text of what drawing a shape came to: the listing of the points that were drawn, or the refusal's.
abbrev pub drawn_text : Shape → List ℤ → Result Figures Refusal → List ℕ
drawn_text s held (Ok f) = outline_text s.basis s.depth (plan_of s).spans (take (2 * f.points) held)
drawn_text s held (Err r) = refused_text r

-- The same of steps chosen by tolerance.
abbrev pub cut_text : Shape → ℕ → List ℤ → Result Steps Refusal → List ℕ
cut_text s tolerance held (Ok f) = chosen_text s.basis tolerance (plan_of s).spans f.cuts (take (2 * f.points) held)
cut_text s tolerance held (Err r) = refused_text r

-- The text of a shape and its controls, with even steps, and with steps chosen by tolerance.
unfoldable pub even_text : Shape → List ℤ → List ℕ
even_text s held = let o = draws s held (points deepest) in drawn_text s o.held o.answer

unfoldable pub by_tolerance : ℕ → ℕ → Shape → List ℤ → List ℕ
by_tolerance tolerance most s held = let o = chooses s tolerance most held (points finest) in cut_text s tolerance o.held o.answer

-- The text of what reading a file came to, where `text` makes a shape's: its shape's and controls', or the refusal's.
abbrev pub read_text : (Shape → List ℤ → List ℕ) → List ℤ → Result Shape Refusal → List ℕ
read_text text held (Ok s) = text s held
read_text text held (Err r) = refused_text r

-- The text of a file.
unfoldable pub text_by : (Shape → List ℤ → List ℕ) → List ℕ → List ℕ
text_by text file = let o = reading file controls in read_text text o.held o.answer

abbrev pub file_text : List ℕ → List ℕ
file_text file = text_by even_text file

abbrev pub cut_file_text : ℕ → ℕ → List ℕ → List ℕ
cut_file_text tolerance most file = text_by (by_tolerance tolerance most) file

-- The numbers of the longer heading, that of chosen steps, have at most 1, 5, 2, 4 and 4 digits, and a character after each.
abbrev pub most_heading : ℕ
most_heading = 21

-- A point's number has at most 5 digits and its coordinates of 32 bits 11 characters each, and there is one more after each of the three.
abbrev pub most_line : ℕ
most_line = 30

-- Room for the longest listing of chosen steps.
abbrev pub most_text : ℕ
most_text = most_heading + most_line * most_listed finest

-- Text from the start on counts up to its end; 0 where it did not fit.
abbrev pub count_of : Option ℕ → ℕ
count_of (Some n) = n
count_of None = 0

abbrev pub counted : Outcome (Option ℕ) (List ℕ) → Outcome ℕ (List ℕ)
counted o = outcome (count_of o.answer) o.held

-- How many characters were written of a text, and the lent list then: the text from its start on, and all past it kept; where it does not fit, nothing.
unfoldable pub writes : List ℕ → List ℕ → Outcome ℕ (List ℕ)
writes text lent = counted (written lent 0 text)
