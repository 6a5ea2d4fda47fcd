-- A span of a sound outline whose records are inside the limits: its own four records are drawn, and the lines of its own points are those of the outline's points.
use mathlib.Core.Bool.{true, false, not, ◌&&◌}
use mathlib.Core.List.{List}
use mathlib.Core.Logic.{⊎_elim}
use mathlib.Core.Path.{◌≡◌, refl, sym, ap, ◌∙◌}
use Prim.Native.Nat.{ℕ, zero, suc, ◌+◌, ◌*◌, ◌/◌, ◌^◌, ◌≤◌, ◌<◌}
use native.Mathlib.Omega.{arith}
use borrow.Author.Tests.{le-ltb}
use lib.Dec.{leb, ltb, eqb}
use lib.IntN.{ℤ, pos, nat_abs}
use lib.ListN.{length, take}
use lib.Seq.{ext_get_or, get_or-take, length-take-le}
use Rattle.curve.specs.declared.Basis.{Basis}
use Rattle.curve.specs.declared.Basis.TheVariants.{Bezier, BSpline, Cardinal, Hermite, Loop}
use Rattle.curve.specs.Published.{most_parameter}
use Rattle.curve.specs.Limits.{limit, beyond}
use Rattle.curve.specs.Span.{coordinate}
use Rattle.curve.specs.Tab.{tab}
use Rattle.curve.proofs.Tab.{length-tab, get_or-tab}
use Rattle.shape.specs.declared.Shape.{Shape}
use Rattle.shape.specs.declared.Plan.{Plan}
use Rattle.shape.specs.Inner.{Good, Lent}
use Rattle.shape.specs.Shape.{loop, last_basis, cardinal, least_records, basis_of, basis_in, spans_of, records_of, allowed, points_of}
use Rattle.shape.specs.Refusals.{NoRow, shape_rows, list_rows, outside, plan_of}
use Rattle.shape.proofs.Refusals.{none_both, row-fails, good-plan, good-records}
use Rattle.shape.proofs.Seek.{seek-none}
use Rattle.shape.proofs.Tests.{passes}
use Rattle.spans.specs.Numbers.{number, per_span}
use Rattle.spans.proofs.Alone.{by_itself, alone, number-alone}
use Rattle.outline.specs.Outline as outline
use Rattle.outline.specs.Outline.{draws, accepts, figures_of, drawn}
use Rattle.outline.proofs.Exactly.{none-drawn}
use Rattle.outline.proofs.Held.{held_number, held-room}
use Rattle.listing.specs.Listing.{point_lines}
use Rattle.file_list.specs.Parts.{alone_basis, one_span, span_room, own_points, own_records, span_text}
use Rattle.file_list.specs.Inner.{own_numbers}
use Rattle.file_list.proofs.EachPart.{steps-few, own-most, records-then}
use Rattle.file_list.proofs.OwnRecords.{among, place, own-length, own-coordinate}

-- four records are allowed for a span of every basis by itself, and are one span
one-allowed : (b : Basis) → allowed (by_itself b) least_records ≡ true
unfolding allowed spans_of records_of
one-allowed Bezier = refl
one-allowed BSpline = refl
one-allowed (Cardinal c) = refl
one-allowed Hermite = refl
one-allowed (Loop n) = refl

one_span_lem : (b : Basis) → spans_of (by_itself b) least_records ≡ 1
unfolding spans_of
one_span_lem Bezier = refl
one_span_lem BSpline = refl
one_span_lem (Cardinal c) = refl
one_span_lem Hermite = refl
one_span_lem (Loop n) = refl

-- the number that a span's basis has by itself is the number of that basis
number-alone-is : (b c n m : ℕ) → 1 ≤ b → b ≤ last_basis → basis_of (alone_basis b) c m ≡ by_itself (basis_of b c n)
unfolding basis_of
number-alone-is zero c n m least most = absurd (omega arith)
number-alone-is (suc zero) c n m least most = refl
number-alone-is (suc (suc zero)) c n m least most = refl
number-alone-is (suc (suc (suc zero))) c n m least most = refl
number-alone-is (suc (suc (suc (suc zero)))) c n m least most = refl
number-alone-is (suc (suc (suc (suc (suc zero))))) c n m least most = refl
number-alone-is (suc (suc (suc (suc (suc (suc b)))))) c n m least most = absurd (omega arith)

-- rows 1 and 24 pass for it where they do for the shape
alone-rows : (b c : ℕ) → not (leb 1 b && leb b last_basis) ≡ false → (eqb b cardinal && ltb most_parameter c) ≡ false
    → (not (leb 1 (alone_basis b) && leb (alone_basis b) last_basis) ≡ false) × ((eqb (alone_basis b) cardinal && ltb most_parameter c) ≡ false)
alone-rows b c known offered =
    ⊎_elim (λ (t : eqb b loop ≡ true). (rw t refl, rw t refl)) (λ (f : eqb b loop ≡ false). (rw f known, rw f offered)) (passes (eqb b loop))

module _ (s : Shape) (sound : NoRow (shape_rows s)) (c : List ℤ) (m len : ℕ) (lent : Lent s.count c m len) (t : ℕ) (there : t < (plan_of s).spans) where
  abbrev p : Plan
  p = plan_of s

  ok : Good s p
  ok = good-plan s sound

  basis-alone : basis_in (one_span s) ≡ by_itself (basis_in s)
  basis-alone = number-alone-is s.basis s.parameter s.count least_records ok.basis-least ok.basis-most

  plan-alone : plan_of (one_span s) ≡ alone p
  unfolding plan_of
  plan-alone = (λ k. record { basis = basis-alone k; depth = s.depth; spans = spans_of (basis-alone k) least_records }) ∙ ap (λ (m : ℕ). record { basis = by_itself (basis_in s); depth = s.depth; spans = m }) (one_span_lem (basis_in s))

  -- its own records
  abbrev own : List ℤ
  own = own_records p.basis c t

  -- the four of them are in the list, inside the limits
  abbrev at : ℕ → ℕ
  at j = among p.basis c t j

  last : (j : ℕ) → j < least_records → at j < s.count
  last j few = good-records s p ok t j there few

  all_there : (q : ℕ) → q < own_numbers → place p.basis c t q < length c
  all_there q few = omega (arith, last (q / 2) (omega arith), lent.room)

  inside : (j : ℕ) → j < least_records → outside own j ≡ false
  unfolding outside
  inside j h =
      let near : (axis : ℕ) (z : ℤ) → axis < 2 → coordinate c axis (at j) ≡ z → nat_abs z ≤ limit → beyond limit (coordinate own axis j) ≡ false =
      λ axis z two is size. ap (beyond limit) (own-coordinate p.basis c t all_there axis j two h ∙ is) ∙ le-ltb limit (nat_abs z) size in
      rw (near 0 (coordinate c 0 (at j)) (omega arith) refl (lent.x (at j) (last j h)), near 1 (coordinate c 1 (at j)) (omega arith) refl (lent.y (at j) (last j h)))

  shape-rows : NoRow (shape_rows (one_span s))
  shape-rows =
      let rows = shape_rows s in
      let passed = alone-rows s.basis s.parameter (row-fails 1 rows sound) (row-fails 24 rows sound) in
      (passed.0, (row-fails 2 rows sound, (passed.1, (ap (λ b. not (allowed b least_records)) basis-alone ∙ ap not (one-allowed (basis_in s)), tt))))

  all-points : outline.points (plan_of (one_span s)) ≡ 2 ^ p.depth + 1
  unfolding points_of
  all-points = ap outline.points plan-alone ∙ omega arith

  room : 2 * outline.points (plan_of (one_span s)) ≤ length span_room
  room = omega (arith, all-points, steps-few p ok.depth-most)

  rows : NoRow (list_rows least_records own (outline.points (plan_of (one_span s))) (length span_room))
  rows = (
    le-ltb (length own) (2 * least_records) (omega (arith, own-length p.basis c t all_there)),
    (
      ap (λ (r : ℕ). ltb r least_records) (seek-none (outside own) 0 least_records (λ j _ h. inside j h)),
      (le-ltb (length span_room) (2 * outline.points (plan_of (one_span s))) room, tt),
    ),
  )

  alone-drawn : draws (one_span s) own span_room ≡ accepts (plan_of (one_span s)) own span_room
  alone-drawn = none-drawn (one_span s) own span_room (none_both (shape_rows (one_span s)) (list_rows least_records own (outline.points (plan_of (one_span s))) (length span_room)) shape-rows rows)

  -- what its own points' lines say
  pub span_lines : span_text s p c t ≡ point_lines (t * 2 ^ p.depth) (tab (number p c) (t * per_span p.depth) (2 * own_points p t))
  span_lines =
      let w = t * per_span p.depth in
      let n = 2 * own_points p t in
      let one = plan_of (one_span s) in
      let held = drawn one own span_room in
      let long : length (take n held) ≡ n = length-take-le n held (omega (arith, own-most p t, all-points, held-room (one_span s) own span_room (figures_of one own) held alone-drawn)) in
      records-then s p t own (accepts one own span_room) alone-drawn
      ∙ ap (point_lines (t * 2 ^ p.depth))
      (ext_get_or (pos 0) (take n held) (tab (number p c) w n) (long ∙ sym (length-tab (number p c) w n))
      (λ j h.
      let below : j < n = omega (arith, long) in
      get_or-take n held j (pos 0) below
      ∙ held_number (one_span s) own span_room (figures_of one own) held alone-drawn j (omega (arith, own-most p t, all-points))
      ∙ ap (λ (q : Plan). number q own j) plan-alone
      ∙ number-alone p c own t j there (omega (arith, own-most p t)) (λ axis i two few. own-coordinate p.basis c t all_there axis i two few)
      ∙ sym (get_or-tab (number p c) w n j below (pos 0))))
