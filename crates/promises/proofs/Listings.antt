-- The listings of a record file, as outline-list and outline-cut write them. What `list_part` writes is the part's text, and what `cut_file` writes the listing by tolerance, for every lent text
-- (their contracts); here is what those are never short of, and that outline-list's parts are the listing of the whole outline.
use Rattle.std.specs.Prelude.{Err, Result}
use mathlib.Core.Path.{◌≡◌, refl, sym, ap, ◌∙◌, subst}
use mathlib.Core.Bool.{false}
use mathlib.Core.List.{List, [], ◌++◌}
use mathlib.Core.Logic.{inl}
use Prim.Native.Nat.{ℕ, zero, suc, ◌+◌, ◌≤◌, ◌<◌}
use native.Mathlib.Omega.{arith}
use denote.Ref.{Bor, MutBor}
use borrow.Author.Tests.{lt-ltb, ne_eqb}
use lib.IntN.{ℤ}
use lib.Dec.{eqb}
use lib.ListN.{length, replicate, take}
use lib.Seq.{sets, length-take-le}
use Rattle.whole.specs.Outcome.{Outcome, outcome}
use Rattle.curve.specs.Ways.{deepest}
use Rattle.shape.specs.Refusals.{NoRow, plan_of}
use Rattle.outline.specs.Outline.{accepts, draws}
use Rattle.record_file.specs.Format.{numbers}
use Rattle.record_file.specs.Rows.{most_bytes, record_count, shape_of, file_rows, reading}
use Rattle.record_file.proofs.Exactly.{first-refused}
use Rattle.file_list.specs.Files.{controls, points, most_text, file_text, cut_file_text, writes}
use Rattle.file_list.specs.Parts.{most_part, part_text, parts_of, joined}
use Rattle.file_list.proofs.Texts.{stands}
use Rattle.file_list.proofs.Joined.{file-joined}
use Rattle.file_list.proofs.Fits as fits
use Rattle.file_list.proofs.Read as read
use Rattle.file_list.proofs.Examples as examples
use Rattle.promises.specs.Listings.{Hands, Lists}
use Rattle.shape.specs.declared.Refusal.{Refusal}
use Rattle.shape.specs.declared.Shape.{Shape}

-- a file that no row of its own refuses is drawn: nothing is refused after it was read
pub read-then-drawn :
    (file : List ℕ) → NoRow (file_rows file controls)
    → draws (shape_of file (record_count file)) (sets controls 0 (numbers file (record_count file))) (points deepest)
    ≡ accepts (plan_of (shape_of file (record_count file))) (sets controls 0 (numbers file (record_count file))) (points deepest)
read-then-drawn = read.read-drawn

-- ---- what the programs read of their input

-- a file that is too long is refused with 3
too_long : (file : List ℕ) (lent : List ℤ) → most_bytes < length file → reading file lent ≡ outcome (Err (record { number = 3; place = 0 })) lent
too_long file lent long =
    let some : eqb (length file) 0 ≡ false = ne_eqb (length file) 0 (λ e. omega (arith, e)) in
    first-refused file lent (record { number = 3; place = 0 }) (inl (rw (some, lt-ltb most_bytes (length file) long), refl))

-- so one byte more than the longest file has is enough to read of a longer input: it is refused as the whole would be
pub enough-read : (input : List ℕ) (lent : List ℤ) → most_bytes < length input → reading (take (most_bytes + 1) input) lent ≡ reading input lent
enough-read input lent long =
    too_long (take (most_bytes + 1) input) lent (omega (arith, length-take-le (most_bytes + 1) input (omega arith))) ∙ sym (too_long input lent long)

-- ---- outline-list, part by part

-- the parts one after another are the listing of the whole outline, or the line of the refusal
pub parts-joined : (file : List ℕ) → joined (part_text (reading file controls).answer (reading file controls).held) 0 (parts_of (reading file controls).answer) ≡ file_text file
parts-joined = file-joined

-- each of them fits the program's room for one
pub parts-fit : (file : List ℕ) (i : ℕ) → length (part_text (reading file controls).answer (reading file controls).held i) ≤ most_part
parts-fit = fits.part-fits

-- what turns of the code hand on are the parts
hands-joined : (r : Result Shape Refusal) (held : List ℤ) → ((i : ℕ) → length (part_text r held i) ≤ most_part) → (n i : ℕ) (text out : List ℕ) → length text ≡ most_part → Hands r held text i n out → out ≡ joined (part_text r held) i n
unfolding Hands joined
hands-joined r held fit zero i text out long hands = hands
hands-joined r held fit (suc n) i text out long hands =
    let o = hands.0 in
    let call = hands.1 in
    let rest = hands.2 in
    let is : o ≡ writes (part_text r held i) text = sym call.leaves ∙ call.meets.1 ∙ ap (λ (a : Result Shape Refusal × ℕ × List ℤ × List ℕ). writes (part_text a.0 a.2 a.1) a.3) call.asks in
    let written = stands text (part_text r held i) (omega (arith, fit i, long)) in
    let first : take o.answer o.held ≡ part_text r held i = ap (λ (o : Outcome ℕ (List ℕ)). take o.answer o.held) is ∙ written.first in
    let same : length o.held ≡ most_part = ap (λ (o : Outcome ℕ (List ℕ)). length o.held) is ∙ written.long ∙ long in
    hands.3 ∙ (λ k. first k ++ hands-joined r held fit n (suc i) o.held rest same hands.4 k)

-- whatever answers that meet the contracts a run of outline-list has, what it hands on is the listing of the file
pub code-listed : (file out : List ℕ) → Lists file out → out ≡ file_text file
code-listed file out run =
    let o = run.0 in
    let is : o ≡ reading file controls = sym run.1.leaves ∙ run.1.meets ∙ ap (λ (a : List ℕ × List ℤ). reading a.0 a.1) run.1.asks in
    let count : run.2 ≡ parts_of o.answer = sym run.3.leaves ∙ run.3.meets ∙ ap parts_of run.3.asks in
    let fit = subst (λ (o : Outcome (Result Shape Refusal) (List ℤ)). (i : ℕ) → length (part_text o.answer o.held i) ≤ most_part) (sym is) (parts-fit file) in
    hands-joined o.answer o.held fit run.2 0 (replicate most_part 0) out refl run.4
    ∙ ap (joined (part_text o.answer o.held) 0) count
    ∙ ap (λ (o : Outcome (Result Shape Refusal) (List ℤ)). joined (part_text o.answer o.held) 0 (parts_of o.answer)) is
    ∙ parts-joined file

-- and there is such a run for every file
abbrev lent : {A : Type 0} → A → Bor A
lent l = record { ref_ptr = (0, 0); now = l }

abbrev lent_to_write : {A : Type 0} → A → MutBor A
lent_to_write l = record { ref_ptr = (0, 0); ghost_name = 0; now = l }

parts-handed : (r : Result Shape Refusal) (held : List ℤ) → ((i : ℕ) → length (part_text r held i) ≤ most_part) → (n i : ℕ) (text : List ℕ) → length text ≡ most_part → Hands r held text i n (joined (part_text r held) i n)
unfolding Hands joined
parts-handed r held fit zero i text long = refl
parts-handed r held fit (suc n) i text long =
    let part = part_text r held i in
    let o = writes part text in
    let written = stands text part (omega (arith, fit i, long)) in (
      o,
      record {
        lifetimes = ([], ([], tt));
        arguments = (r, (i, (lent held, (lent_to_write text, tt))));
        result = o.answer;
        last = (tt, (tt, (tt, (o.held, tt))));
        asks = refl;
        leaves = refl;
        meets = ((omega (arith, fit i, long, written.counts, written.long), written.counts ∙ sym (ap length written.first)), refl);
      },
      joined (part_text r held) (suc i) n,
      ap (λ (l : List ℕ). l ++ joined (part_text r held) (suc i) n) (sym written.first),
      parts-handed r held fit n (suc i) o.held (written.long ∙ long),
    )

pub listed-by-code : (file : List ℕ) → Lists file (file_text file)
listed-by-code file =
    let o = reading file controls in
    let n = parts_of o.answer in (
      o,
      record { lifetimes = ([], ([], tt)); arguments = (lent file, (lent_to_write controls, tt)); result = o.answer; last = (tt, (o.held, tt)); asks = refl; leaves = refl; meets = refl },
      n,
      record { lifetimes = tt; arguments = (o.answer, tt); result = n; last = (tt, tt); asks = refl; leaves = refl; meets = refl },
      subst (Hands o.answer o.held (replicate most_part 0) 0 n) (parts-joined file) (parts-handed o.answer o.held (parts-fit file) n 0 (replicate most_part 0) refl),
    )

-- ---- outline-cut: the listing by any tolerance, with any most, fits its room
pub cut-always-fits : (tolerance most : ℕ) (file : List ℕ) → length (cut_file_text tolerance most file) ≤ most_text
cut-always-fits = fits.cut_fits

-- document 01's own file has document 01's own listing
pub paper-listed : file_text examples.file ≡ examples.listing
paper-listed = examples.paper-listed
