-- Which part a view is, by the checks that were made; that it is empty in the paper's cases and no others; and that after a drawing it is its span's points.
use Rattle.std.specs.Prelude.{Err, Ok}
use mathlib.Core.Path.{◌≡◌, sym, ap, ◌∙◌}
use mathlib.Core.Bool.{cond, ◌||◌}
use mathlib.Core.List.{List, []}
use mathlib.Core.Logic.{inl, inr, ⊎_elim}
use Prim.Native.Nat.{ℕ, suc, ◌+◌, ◌*◌, ◌-◌, ◌/◌, ◌%◌, ◌^◌, min, ◌≤◌, ◌<◌}
use native.Mathlib.Nat.{zero-add, mul_left_comm, mul-le-mul_right, suc-mul, min-eq_left}
use native.Mathlib.Omega.{arith}
use borrow.Author.Tests.{le-leb, lt-leb, lt-ltb, le-ltb}
use lib.Dec.{ltb}
use lib.IntN.{ℤ, pos}
use lib.ListN.{length, take, drop, length-take, length-drop}
use lib.Seq.{ext_get_or, get_or-take, get_or-drop}
use Rattle.whole.specs.Outcome.{outcome}
use Rattle.curve.specs.Tab.{tab}
use Rattle.curve.specs.Span.{coordinate, records, point}
use Rattle.curve.proofs.Tab.{length-tab, get_or-tab}
use Rattle.shape.specs.declared.Shape.{Shape}
use Rattle.shape.specs.declared.Plan.{Plan}
use Rattle.shape.specs.declared.Refusal.{Refusal}
use Rattle.shape.specs.Refusals.{First, judge, shape_rows, judge_shape, plan_of}
use Rattle.shape.specs.Shape.{points_of}
use Rattle.shape.proofs.Refusals.{verdict, sound, unsound, sound-plan, first-unsound, none-sound}
use Rattle.shape.proofs.Tests.{either}
use Rattle.spans.specs.Numbers.{per_span}
use Rattle.spans.proofs.Numbers.{span-point}
use Rattle.outline.specs.declared.Figures.{Figures}
use Rattle.outline.specs.Outline.{draws}
use Rattle.outline.specs.View.{Part, empty_part, out_of_sight, part_of, viewed, Unseen}
use Rattle.outline.proofs.Held.{held-sound, held-room, held_number}

-- where span t of a plan lies in the list
abbrev pub span_part : Plan → ℕ → Part
span_part p t = record { start = t * per_span p.depth; size = per_span p.depth + 2 }

pub part-unsound : (s : Shape) (r : Refusal) (t : ℕ) (l : List ℤ) → judge_shape s ≡ Err r → part_of s t l ≡ empty_part
unfolding part_of judge
part-unsound s r t l e = unsound s r e [] (λ q. empty_part) (cond (out_of_sight (plan_of s) t l) empty_part (span_part (plan_of s) t))

part_sound : (s : Shape) (p : Plan) (t : ℕ) (l : List ℤ) → judge_shape s ≡ Ok p → part_of s t l ≡ cond (out_of_sight p t l) empty_part (span_part p t)
unfolding part_of judge
part_sound s p t l e =
    sound s p e [] (λ q. empty_part) (cond (out_of_sight (plan_of s) t l) empty_part (span_part (plan_of s) t))
    ∙ ap (λ q. cond (out_of_sight q t l) empty_part (span_part q t)) (sym (sound-plan s p e))

module _ (s : Shape) (p : Plan) (t : ℕ) (l : List ℤ) (e : judge_shape s ≡ Ok p) where
  pub part-past : p.spans ≤ t → part_of s t l ≡ empty_part
  part-past h = part_sound s p t l e ∙ ap (λ b. cond (b || ltb (length l) (2 * points_of p.depth p.spans)) empty_part (span_part p t)) (le-leb p.spans t h)

  -- the span is there: what is left is the list's length
  part-there : t < p.spans → part_of s t l ≡ cond (ltb (length l) (2 * points_of p.depth p.spans)) empty_part (span_part p t)
  part-there h = part_sound s p t l e ∙ ap (λ b. cond (b || ltb (length l) (2 * points_of p.depth p.spans)) empty_part (span_part p t)) (lt-leb p.spans t h)

  pub part-short : t < p.spans → length l < 2 * points_of p.depth p.spans → part_of s t l ≡ empty_part
  part-short h short = part-there h ∙ ap (λ b. cond b empty_part (span_part p t)) (lt-ltb (length l) (2 * points_of p.depth p.spans) short)

  pub part-good : t < p.spans → 2 * points_of p.depth p.spans ≤ length l → part_of s t l ≡ span_part p t
  part-good h long = part-there h ∙ ap (λ b. cond b empty_part (span_part p t)) (le-ltb (length l) (2 * points_of p.depth p.spans) long)

-- the end of a span that is there lies within all points
pub span-within : (k m t : ℕ) → t < m → t * per_span k + per_span k + 2 ≤ 2 * points_of k m
unfolding points_of
span-within k m t h = omega (arith, suc-mul t (per_span k), mul-le-mul_right {m = suc t} {n = m} (per_span k) h, mul_left_comm m 2 (2 ^ k))

-- No good view is empty: it has 2^k + 1 points, two numbers each.
pub good-view : (s : Shape) (p : Plan) (t : ℕ) (l : List ℤ) → judge_shape s ≡ Ok p → t < p.spans → 2 * points_of p.depth p.spans ≤ length l
    → length (viewed (part_of s t l) l) ≡ 2 * (2 ^ p.depth + 1)
unfolding viewed
good-view s p t l e h long =
    let k = p.depth in
    let n = per_span k + 2 in
    let within = span-within k p.spans t h in
    let room : n ≤ length l - t * per_span k = omega arith in
    let two : n ≡ 2 * (2 ^ k + 1) = omega arith in
    ap (λ (v : Part). length (take v.size (drop v.start l))) (part-good s p t l e h long)
    ∙ length-take n (drop (t * per_span k) l)
    ∙ ap (min n) (length-drop (t * per_span k) l)
    ∙ min-eq_left room
    ∙ two

-- ---- empty in the paper's cases, and in no others

refused-empty : (s : Shape) (t : ℕ) (l : List ℤ) → (r : Refusal) × First (shape_rows s) r → viewed (part_of s t l) l ≡ []
unfolding viewed
refused-empty s t l (r, first) = ap (λ v. viewed v l) (part-unsound s r t l (first-unsound s r first))

pub unseen-empty : (s : Shape) (t : ℕ) (l : List ℤ) → Unseen s t l → viewed (part_of s t l) l ≡ []
unfolding viewed
unseen-empty s t l (inl refused) = refused-empty s t l refused
unseen-empty s t l (inr unseen) =
    ⊎_elim (refused-empty s t l)
    (λ none.
    let e = none-sound s none in
    ap (λ v. viewed v l)
    (⊎_elim (part-past s (plan_of s) t l e)
    (λ short. ⊎_elim (λ h. part-short s (plan_of s) t l e h short) (part-past s (plan_of s) t l e) (either t (plan_of s).spans))
    unseen))
    (verdict (shape_rows s))

pub empty-unseen : (s : Shape) (t : ℕ) (l : List ℤ) → viewed (part_of s t l) l ≡ [] → Unseen s t l
empty-unseen s t l empty =
    let p = plan_of s in
    ⊎_elim (λ (v : (r : Refusal) × First (shape_rows s) r). inl v)
    (λ none.
    inr
    (⊎_elim
    (λ there.
    ⊎_elim (λ short. inr short)
    (λ long. absurd (omega (arith, good-view s p t l (none-sound s none) there long, ap length empty)))
    (either (length l) (2 * points_of p.depth p.spans)))
    (λ past. inl past)
    (either t p.spans)))
    (verdict (shape_rows s))

-- ---- after a drawing

-- the view of a span is the span's own 2^k + 1 points, x then y
pub drawn-view : (s : Shape) (controls lent : List ℤ) (fs : Figures) (held : List ℤ) → draws s controls lent ≡ outcome (Ok fs) held → (t : ℕ) → t < (plan_of s).spans
    → viewed (part_of s t held) held ≡ tab (λ (j : ℕ). point (plan_of s).basis (plan_of s).depth (records (plan_of s).basis t (coordinate controls (j % 2))) (j / 2)) 0 (2 * (2 ^ (plan_of s).depth + 1))
unfolding viewed
drawn-view s controls lent fs held answered t there =
    let p = plan_of s in
    let k = p.depth in
    let size = 2 * (2 ^ k + 1) in
    let f : ℕ → ℤ = λ j. point p.basis k (records p.basis t (coordinate controls (j % 2))) (j / 2) in
    let sound = held-sound s controls lent fs held answered in
    let long = held-room s controls lent fs held answered in
    let part = part-good s p t held sound there long in
    let two : per_span k + 2 ≡ size = omega arith in
    let shown : viewed (part_of s t held) held ≡ take size (drop (t * per_span k) held) = ap (λ v. viewed v held) part ∙ ap (λ (i : ℕ). take i (drop (t * per_span k) held)) two in
    let many : length (take size (drop (t * per_span k) held)) ≡ size = ap length (sym shown) ∙ good-view s p t held sound there long in
    shown
    ∙ ext_get_or (pos 0) (take size (drop (t * per_span k) held)) (tab f 0 size) (many ∙ sym (length-tab f 0 size))
    (λ j h.
    let below : j < size = omega (arith, many) in
    get_or-take size (drop (t * per_span k) held) j (pos 0) below
    ∙ get_or-drop (t * per_span k) held j (pos 0)
    ∙ held_number s controls lent fs held answered (t * per_span k + j) (omega (arith, span-within k p.spans t there))
    ∙ span-point p controls t j there (omega arith)
    ∙ ap f (sym (zero-add j))
    ∙ sym (get_or-tab f 0 size j below (pos 0)))
