-- Document 01's "Sums to hold it to" for the edits, P9 to P11, as one list. Each starts from the cardinal outline of 0, 10, 20, 30, 40, 50 at depth 0, which is 10, 20,
-- 30, 40; y is 0 throughout. The lent lists have room for one record and one point more, and hold -1 there.
use Rattle.std.specs.Prelude.{List, [], ◌∷◌, ◌++◌, ℕ, ℤ, pos}
use Rattle.curve.specs.Numbers.{neg}
use Rattle.shape.specs.declared.Shape.{Shape}
use Rattle.asked.specs.declared.Edit.{Edit}
use Rattle.asked.specs.declared.Edit.TheVariants.{Move, Insert, Remove}

-- An edit and its place; the count, the first fresh span, their number and how many of their coordinates are exact, which it answers; and what the lent lists hold afterwards. At depth 0
-- every point of a cardinal outline is a record, so each fresh coordinate is exact, and no kept one is counted.
pub record Case : Type 0 where
  pub edit : Edit
  pub place : ℕ
  pub count : ℕ
  pub first : ℕ
  pub fresh : ℕ
  pub exact : ℕ
  pub controls : List ℤ
  pub held : List ℤ

-- Records on the x axis.
unfoldable pub flat : List ℕ → List ℤ
flat [] = []
flat (n ∷ l) = pos n ∷ pos 0 ∷ flat l

abbrev pub free : List ℤ
free = neg 1 ∷ neg 1 ∷ []

-- The shape, the controls and the points that each starts from.
abbrev pub cardinal : ℕ → Shape
cardinal n = record { basis = 3; depth = 0; count = n; parameter = 0 }

abbrev pub controls_before : List ℤ
controls_before = flat (0 ∷ 10 ∷ 20 ∷ 30 ∷ 40 ∷ 50 ∷ []) ++ free

abbrev pub held_before : List ℤ
held_before = flat (10 ∷ 20 ∷ 30 ∷ 40 ∷ []) ++ free

abbrev pub p9 : Case
p9 =
    record {
      edit = Insert (pos 60) (pos 0);
      place = 6;
      count = 7;
      first = 3;
      fresh = 1;
      exact = 4;
      controls = flat (0 ∷ 10 ∷ 20 ∷ 30 ∷ 40 ∷ 50 ∷ 60 ∷ []);
      held = flat (10 ∷ 20 ∷ 30 ∷ 40 ∷ 50 ∷ []);
    }

-- The fourth point is past the last one then, and still 40; so is the sixth record, still 50.
abbrev pub p10 : Case
p10 =
    record {
      edit = Remove;
      place = 0;
      count = 5;
      first = 0;
      fresh = 0;
      exact = 0;
      controls = flat (10 ∷ 20 ∷ 30 ∷ 40 ∷ 50 ∷ 50 ∷ []) ++ free;
      held = flat (20 ∷ 30 ∷ 40 ∷ 40 ∷ []) ++ free;
    }

-- The paper leaves the new record open: here it is 33.
abbrev pub p11 : Case
p11 =
    record {
      edit = Move (pos 33) (pos 0);
      place = 3;
      count = 6;
      first = 0;
      fresh = 3;
      exact = 8;
      controls = flat (0 ∷ 10 ∷ 20 ∷ 33 ∷ 40 ∷ 50 ∷ []) ++ free;
      held = flat (10 ∷ 20 ∷ 33 ∷ 40 ∷ []) ++ free;
    }

abbrev pub cases : List Case
cases = p9 ∷ p10 ∷ p11 ∷ []
