-- P1 to P12 of document 01 ("Sums to hold it to") as one list of cases. A case is what the definitions give and what the paper gives, each as a list of whole numbers: of
-- P1 to P11 the number and the values of the call's answer and what the lent lists then hold.
use Rattle.std.specs.Prelude.{List, [], ◌∷◌, ◌++◌, map, ℕ, ◌+◌, ◌*◌, ◌^◌, ℤ, pos, replicate, Ok, Result}
use Rattle.whole.specs.Outcome.{Outcome, outcome}
use Rattle.curve.specs.Numbers.{neg}
use Rattle.outline.specs.Outline as outline
use Rattle.outline.specs.Outline.{draws}
use Rattle.outline.specs.Cases as outline-cases
use Rattle.doubles.specs.Exact.{dyadic}
use Rattle.doubles.specs.Number.{measure}
use Rattle.doubles.specs.Number as number
use Rattle.shape.specs.declared.Shape.{Shape}
use Rattle.shape.specs.Exactly as answer
use Rattle.asked.specs.declared.Edit.TheVariants.{Move, Insert, Remove}
use Rattle.edit.specs.Cases as edit
use Rattle.edit.specs.Reading as reading
use Rattle.edit.specs.Reading.{edits}
use Rattle.edit.specs.declared.Change.{Change}
use Rattle.outline.specs.declared.Figures.{Figures}
use Rattle.shape.specs.declared.Refusal.{Refusal}

pub record Case : Type 0 where
  pub given : List ℤ
  pub paper : List ℤ

-- P1 to P8: what drawing a span comes to.
abbrev pub told_drawn : Outcome (Result Figures Refusal) (List ℤ) → List ℤ
told_drawn o = pos (answer.number (outline.told o.answer)) ∷ answer.values (outline.told o.answer) ++ o.held

abbrev pub of_drawing : outline-cases.Case → Case
of_drawing c = record { given = told_drawn (outline-cases.given c); paper = told_drawn (outline-cases.paper c) }

-- The cardinal outline 0, 10, 20, 30, 40, 50, which gives 10, 20, 30, 40, every coordinate exact, and from which each of the next three starts.
abbrev pub start : Case
start =
    record {
      given = told_drawn (draws (edit.cardinal 6) edit.controls_before (replicate 10 (neg 1)));
      paper = told_drawn (outcome (Ok (record { points = 4; exact = 8 })) edit.held_before);
    }

-- P9 to P11: what an edit of it comes to.
abbrev pub told : Outcome (Result Change Refusal) (List ℤ × List ℤ) → List ℤ
told o = pos (answer.number (reading.told o.answer)) ∷ answer.values (reading.told o.answer) ++ (o.held.0 ++ o.held.1)

abbrev pub of_edit : edit.Case → Case
of_edit c =
    record {
      given = told (edits c.edit (edit.cardinal 6) c.place edit.controls_before edit.held_before);
      paper = told (outcome (Ok (record { shape = edit.cardinal c.count; first = c.first; fresh = c.fresh; exact = c.exact })) (c.controls, c.held));
    }

-- P12: 0.0625 mm is 63, -0.0625 mm is -63 (document 02, request 1); 4000.00048828125 mm is accepted, 4000.0009765625 mm gives 11. These doubles are 1/2^4, -1/2^4, 4000 + 1/2^11 and
-- 4000 + 1/2^10 exactly.
abbrev pub of_double : ℤ → ℕ → List ℤ
of_double z k = pos (number.paper (measure (dyadic z k))).0 ∷ (number.paper (measure (dyadic z k))).1 ∷ []

abbrev pub p12 : Case
p12 =
    record {
      given = of_double (pos 1) 4 ++ (of_double (neg 1) 4 ++ (of_double (pos (4000 * 2 ^ 11 + 1)) 11 ++ of_double (pos (4000 * 2 ^ 10 + 1)) 10));
      paper = pos 0 ∷ pos 63 ∷ pos 0 ∷ neg 63 ∷ pos 0 ∷ pos 4000000 ∷ pos 11 ∷ pos 0 ∷ [];
    }

abbrev pub cases : List Case
cases = map of_drawing outline-cases.cases ++ (start ∷ map of_edit edit.cases ++ (p12 ∷ []))

-- Document 02, request 7: cardinal spans at other parameters, the farthest point of any among them.
abbrev pub tauter : List Case
tauter = map of_drawing outline-cases.tauter

-- Document 02, request 8: a loop of four at depth 1; and the loop of 0, 6, 12, 18, 24, 12 at depth 0, with an insert and a move whose runs go round its end and a remove whose run ends with it. The lent
-- lists have room for one record and one point more, and hold -1 there; y is 0 throughout.
abbrev pub loop_of : ℕ → ℕ → Shape
loop_of k n = record { basis = 5; depth = k; count = n; parameter = 0 }

abbrev pub square : Case
square =
    record {
      given = told_drawn (draws (loop_of 1 4) (edit.flat (0 ∷ 12 ∷ 24 ∷ 12 ∷ [])) (replicate 20 (neg 1)));
      paper = told_drawn (outcome (Ok (record { points = 9; exact = 14 })) (edit.flat (12 ∷ 18 ∷ 20 ∷ 18 ∷ 12 ∷ 7 ∷ 4 ∷ 7 ∷ 12 ∷ []) ++ edit.free));
    }

abbrev pub loop_controls : List ℤ
loop_controls = edit.flat (0 ∷ 6 ∷ 12 ∷ 18 ∷ 24 ∷ 12 ∷ []) ++ edit.free

abbrev pub loop_held : List ℤ
loop_held = edit.flat (6 ∷ 12 ∷ 18 ∷ 21 ∷ 12 ∷ 3 ∷ 6 ∷ []) ++ edit.free

abbrev pub six : Case
six =
    record {
      given = told_drawn (draws (loop_of 0 6) loop_controls (replicate 16 (neg 1)));
      paper = told_drawn (outcome (Ok (record { points = 7; exact = 14 })) loop_held);
    }

-- An edit of it and its place; the count, the first of the run going round, its spans and how many of their coordinates are exact; and what the lent lists then hold.
abbrev pub of_loop : edit.Case → Case
of_loop c =
    record {
      given = told (edits c.edit (loop_of 0 6) c.place loop_controls loop_held);
      paper = told (outcome (Ok (record { shape = loop_of 0 c.count; first = c.first; fresh = c.fresh; exact = c.exact })) (c.controls, c.held));
    }

abbrev pub inserted : edit.Case
inserted =
    record {
      edit = Insert (pos 30) (pos 0);
      place = 0;
      count = 7;
      first = 4;
      fresh = 4;
      exact = 12;
      controls = edit.flat (30 ∷ 0 ∷ 6 ∷ 12 ∷ 18 ∷ 24 ∷ 12 ∷ []);
      held = edit.flat (6 ∷ 6 ∷ 12 ∷ 18 ∷ 21 ∷ 17 ∷ 22 ∷ 6 ∷ []);
    }

-- The seventh point is past the last one then, and still 6; so is the sixth record, still 12.
abbrev pub removed : edit.Case
removed =
    record {
      edit = Remove;
      place = 5;
      count = 5;
      first = 2;
      fresh = 3;
      exact = 10;
      controls = edit.flat (0 ∷ 6 ∷ 12 ∷ 18 ∷ 24 ∷ 12 ∷ []) ++ edit.free;
      held = edit.flat (6 ∷ 12 ∷ 18 ∷ 19 ∷ 5 ∷ 6 ∷ 6 ∷ []) ++ edit.free;
    }

abbrev pub moved : edit.Case
moved =
    record {
      edit = Move (pos 6) (pos 0);
      place = 0;
      count = 6;
      first = 3;
      fresh = 4;
      exact = 12;
      controls = edit.flat (6 ∷ 6 ∷ 12 ∷ 18 ∷ 24 ∷ 12 ∷ []) ++ edit.free;
      held = edit.flat (7 ∷ 12 ∷ 18 ∷ 21 ∷ 13 ∷ 7 ∷ 7 ∷ []) ++ edit.free;
    }

-- A move in a loop of four, at its last record: all four spans, from the first. The lent points hold -1 throughout.
abbrev pub whole : Case
whole =
    record {
      given = told (edits (Move (pos 36) (pos 0)) (loop_of 0 4) 3 (edit.flat (0 ∷ 12 ∷ 24 ∷ 12 ∷ [])) (replicate 10 (neg 1)));
      paper = told (outcome (Ok (record { shape = loop_of 0 4; first = 0; fresh = 4; exact = 10 })) (edit.flat (0 ∷ 12 ∷ 24 ∷ 36 ∷ []), edit.flat (12 ∷ 24 ∷ 28 ∷ 8 ∷ 12 ∷ [])));
    }

abbrev pub loops : List Case
loops = square ∷ six ∷ whole ∷ map of_loop (inserted ∷ removed ∷ moved ∷ [])
