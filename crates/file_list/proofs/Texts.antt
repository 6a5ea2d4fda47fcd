-- The text of a file follows what each call on the way answered: reading, the shape's checks, drawing.
use Rattle.std.specs.Prelude.{Err, Ok, Result}
use mathlib.Core.Path.{◌≡◌, refl, sym, ap, ◌∙◌}
use mathlib.Core.Bool.{Bool, true, cond}
use mathlib.Core.List.{List, ◌++◌}
use mathlib.Core.Logic.{⊎_elim}
use Prim.Native.Nat.{ℕ, ◌+◌, ◌*◌, ◌≤◌}
use native.Mathlib.Omega.{arith}
use lib.IntN.{ℤ}
use borrow.Author.Tests.{le-leb}
use lib.Dec.{leb}
use lib.ListN.{length, length-append, length-drop, take, drop}
use lib.Seq.{length-take-le, take_at}
use Rattle.std.specs.Prelude.{Option, Some, None}
use Rattle.whole.specs.Outcome.{Outcome, outcome}
use Rattle.shape.specs.declared.Shape.{Shape}
use Rattle.shape.specs.declared.Refusal.{Refusal}
use Rattle.shape.specs.Refusals.{judge_shape, plan_of}
use Rattle.shape.proofs.Tests.{passes}
use Rattle.outline.specs.Outline.{draws}
use Rattle.curve.specs.Ways.{deepest}
use Rattle.pieces.specs.Tree.{finest}
use Rattle.tolerance.specs.declared.Steps.{Steps}
use Rattle.tolerance.specs.Reading.{chooses}
use Rattle.tolerance.proofs.Chooses.{chooses-unsound}
use Rattle.tolerance.proofs.Answered.{answered-keeps, answered-room}
use Rattle.record_file.specs.Rows.{reading}
use Rattle.listing.specs.Listing.{chosen_text, listed_chosen}
use Rattle.listing.specs.Written.{Within, written}
use Rattle.listing.proofs.Listed.{in-full}
use Rattle.file_list.specs.Files.{controls, points, refused_text, drawn_text, cut_text, even_text, by_tolerance, read_text, text_by, count_of, counted, writes}
use Rattle.outline.specs.declared.Figures.{Figures}

-- ---- even steps: what drawing answered, and left in the points

pub text-then : (s : Shape) (c : List ℤ) (o : Outcome (Result Figures Refusal) (List ℤ)) → draws s c (points deepest) ≡ o → even_text s c ≡ drawn_text s o.held o.answer
unfolding even_text
text-then s c o e = ap (λ (o : Outcome (Result Figures Refusal) (List ℤ)). drawn_text s o.held o.answer) e

-- ---- steps chosen by tolerance

module _ (tolerance most : ℕ) (s : Shape) (c : List ℤ) where
  -- what choosing answered, and left in the points
  pub cut-then : (o : Outcome (Result Steps Refusal) (List ℤ)) → chooses s tolerance most c (points finest) ≡ o → by_tolerance tolerance most s c ≡ cut_text s tolerance o.held o.answer
  unfolding by_tolerance
  cut-then o e = ap (λ (o : Outcome (Result Steps Refusal) (List ℤ)). cut_text s tolerance o.held o.answer) e

  -- the points that were answered are all there
  all-chosen : (fs : Steps) (held : List ℤ) → chooses s tolerance most c (points finest) ≡ outcome (Ok fs) held → 2 * fs.points ≤ length held
  all-chosen fs held e = omega (arith, (answered-keeps s tolerance most c (points finest) fs held e).long, answered-room s tolerance most c (points finest) fs held e)

  pub listed-cut : (fs : Steps) (held : List ℤ) (text : List ℕ) → chooses s tolerance most c (points finest) ≡ outcome (Ok fs) held
      → listed_chosen text s.basis tolerance (plan_of s).spans held fs.points fs.cuts ≡ written text 0 (by_tolerance tolerance most s c)
  listed-cut fs held text e =
      sym (in-full text held fs.points (chosen_text s.basis tolerance (plan_of s).spans fs.cuts) (all-chosen fs held e))
      ∙ ap (written text 0) (sym (cut-then (outcome (Ok fs) held) e))

  -- a shape that is not sound is refused
  pub unsound-cut : (r : Refusal) → judge_shape s ≡ Err r → by_tolerance tolerance most s c ≡ refused_text r
  unsound-cut r e = cut-then (outcome (Err r) (points finest)) (chooses-unsound s tolerance most c (points finest) r e)

-- ---- a file

module _ (text : Shape → List ℤ → List ℕ) (file : List ℕ) where
  text-after : (o : Outcome (Result Shape Refusal) (List ℤ)) → reading file controls ≡ o → text_by text file ≡ read_text text o.held o.answer
  unfolding text_by
  text-after o e = ap (λ (o : Outcome (Result Shape Refusal) (List ℤ)). read_text text o.held o.answer) e

  pub read-text : (s : Shape) (held : List ℤ) → reading file controls ≡ outcome (Ok s) held → text_by text file ≡ text s held
  read-text s held e = text-after (outcome (Ok s) held) e

  pub unread-text : (r : Refusal) (held : List ℤ) → reading file controls ≡ outcome (Err r) held → text_by text file ≡ refused_text r
  unread-text r held e = text-after (outcome (Err r) held) e

-- ---- counting what was written

-- a text that was written is no text that did not fit
some-or-none : (n : ℕ) → ◌≡◌ {A = Option ℕ} None (Some n) → ⊥
some-or-none n e = let z : ◌≡◌ {A = ℕ} 0 1 = cc in omega arith

-- a text that was written ends inside the list that holds it
pub ends-inside : (lent text : List ℕ) (n : ℕ) (held : List ℕ) → written lent 0 text ≡ outcome (Some n) held → n ≤ length held
unfolding written
ends-inside lent text n held e =
    ⊎_elim inside (λ f. absurd (some-or-none n (λ i. ((sym (ap choice f) ∙ e) i).answer))) (passes (leb (0 + length text) (length lent)))
  where
    laid : Outcome (Option ℕ) (List ℕ)
    laid = outcome (Some (0 + length text)) (take 0 lent ++ text ++ drop (0 + length text) lent)

    choice : Bool → Outcome (Option ℕ) (List ℕ)
    choice t = cond t laid (outcome None lent)

    inside : leb (0 + length text) (length lent) ≡ true → n ≤ length held
    inside t =
        let is : laid ≡ outcome (Some n) held = sym (ap choice t) ∙ e in
        let count : 0 + length text ≡ n = ap (λ (o : Outcome (Option ℕ) (List ℕ)). count_of o.answer) is in
        let long : length (text ++ drop (0 + length text) lent) ≡ length held = ap (λ (o : Outcome (Option ℕ) (List ℕ)). length o.held) is in
        omega (arith, count, long, length-append text (drop (0 + length text) lent))

-- what was written ends there, and is counted; what did not fit counts 0
pub count-within : (lent text : List ℕ) (put : Option ℕ) (held : List ℕ) → outcome put held ≡ written lent 0 text → Within (count_of put) held
count-within lent text (Some n) held e = let inside = ends-inside lent text n held (sym e) in (inside, sym (length-take-le n held inside))
count-within lent text None held e = (omega arith, refl)

pub counted-text : (lent text : List ℕ) (put : Option ℕ) (held : List ℕ) → outcome put held ≡ written lent 0 text → outcome (count_of put) held ≡ writes text lent
unfolding writes
counted-text lent text put held e = ap counted e

-- a text that fits stands at the start of the list, and is counted; the list is as long as it was
pub record Stands (text lent : List ℕ) : Type 0 where
  pub counts : (writes text lent).answer ≡ length text
  pub first : take (writes text lent).answer (writes text lent).held ≡ text
  pub long : length (writes text lent).held ≡ length lent

pub stands : (lent text : List ℕ) → length text ≤ length lent → Stands text lent
unfolding writes written
stands lent text fits =
    let rest = drop (0 + length text) lent in
    let room = le-leb (0 + length text) (length lent) (omega arith) in
    record {
      counts = rw room (omega arith);
      first = rw room (take_at text rest (0 + length text) (omega arith));
      long = rw room (omega (arith, length-append text rest, length-drop (0 + length text) lent));
    }
