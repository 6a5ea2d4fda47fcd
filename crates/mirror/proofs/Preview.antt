-- A preview of mirrored controls is the mirrored preview, refusals too, with zero as +0 in both; and since what was lent is not looked at, its points are the mirrored ones in any
-- other list as long.
use Rattle.std.specs.Prelude.{Err, Ok}
use mathlib.Core.Path.{◌≡◌, refl, sym, ap, ◌∙◌, subst}
use mathlib.Core.List.{List, ◌∷◌, ◌++◌}
use Prim.Native.Nat.{ℕ, ◌+◌, ◌*◌, ◌-◌, ◌/◌, ◌%◌, ◌^◌, min, ◌<◌}
use native.Mathlib.Nat.{zero-add}
use native.Mathlib.Omega.{arith}
use borrow.Author.Tests.{ltb-false}
use lib.IntN.{ℤ, pos, neg_ℤ}
use lib.Ieee.{Float, nan}
use lib.ListN.{length, get_or}
use lib.Seq.{sets}
use Rattle.whole.specs.Outcome.{outcome, refuses}
use Rattle.curve.specs.declared.Basis.TheVariants.{Bezier}
use Rattle.curve.specs.Span.{coordinate, records_from, records, weighted}
use Rattle.curve.specs.Tab.{tab}
use Rattle.curve.proofs.Fills.{in-sets}
use Rattle.curve.proofs.Tab.{length-tab, get_or-tab, tab-same}
use Rattle.doubles.specs.Exact.{dyadic, Value}
use Rattle.shape.specs.declared.Shape.{Shape}
use Rattle.shape.specs.Shape.{points_of}
use Rattle.shape.specs.Refusals.{NoRow, judge, shape_rows, point_rows, plan_of}
use Rattle.shape.proofs.Refusals.{row-fails, ok-same}
use Rattle.preview.specs.Preview.{sum, value, bezier_row, preview_rows, accepts, previewing}
use Rattle.preview.proofs.Curve.{drawn-exact}
use Rattle.preview.proofs.Exactly.{drawn-none, none-drawn}
use Rattle.mirror.specs.Mirror.{Axis, across, mirrored, mirror}
use Rattle.mirror.specs.Steps.{opposite, mirror_previewed}
use Rattle.mirror.proofs.Lists.{across-cases, across-through, coordinate-mirror, length-mirrored, mirrored-tab, control_rows-mirror, judge-mirror}
use Rattle.mirror.proofs.Points.{plain-minus}
use Rattle.mirror.proofs.Doubles.{minus-dyadic}

-- ---- a sum, and its double

mirror-sum : (axis : Axis) (k m : ℕ) (controls : List ℤ) (q : ℕ) → sum k m (mirror axis controls) q ≡ across neg_ℤ axis q (sum k m controls q)
unfolding sum records_from
mirror-sum axis k m controls q =
    let s = min (q / 2 / 2 ^ k) (m - 1) in
    let step = pos (q / 2 - s * 2 ^ k) in
    let at = coordinate controls (q % 2) in
    (λ j. weighted (records Bezier s (λ r. coordinate-mirror axis controls q r j)) step (pos (2 ^ k)))
    ∙ across-cases neg_ℤ axis (λ g. weighted (records Bezier s (λ r. g (at r))) step (pos (2 ^ k)) ≡ g (weighted (records Bezier s at) step (pos (2 ^ k))))
    refl
    (plain-minus (records Bezier s at) step (pos (2 ^ k)))
    q

-- an exact value in the mirror
mirror-value : (axis : Axis) (k m : ℕ) (controls : List ℤ) (q : ℕ) → Value (value k m controls q) (sum k m controls q) (2 ^ (3 * k))
    → value k m (mirror axis controls) q ≡ across opposite axis q (value k m controls q)
unfolding value
mirror-value axis k m controls q exact =
    ap (λ z. dyadic z (3 * k)) (mirror-sum axis k m controls q)
    ∙ across-through neg_ℤ opposite (λ z. dyadic z (3 * k)) (sum k m controls q) (minus-dyadic (sum k m controls q) (3 * k) exact) axis q

-- ---- the checks: they see how far a control is from zero, and how long the lists are

mirror-rows : (axis : Axis) (s : Shape) (controls : List ℤ) (len : ℕ) → preview_rows s (mirror axis controls) len ≡ preview_rows s controls len
mirror-rows axis s controls len =
    λ j. shape_rows s ++ bezier_row s ∷ (control_rows-mirror axis controls s.count s.count j ++ point_rows (points_of (plan_of s).depth (plan_of s).spans) len)

-- ---- what is drawn where no row holds

module _ (s : Shape) (controls : List ℤ) (lent : List Float) (none : NoRow (preview_rows s controls (length lent))) where
  abbrev points : ℕ
  points = points_of (plan_of s).depth (plan_of s).spans

  abbrev rule : ℕ → Float
  rule = value (plan_of s).depth (plan_of s).spans controls

  number-drawn : (q : ℕ) → q < 2 * points → get_or (accepts (plan_of s) controls lent).held q nan ≡ rule q
  number-drawn q h =
      let long = length-tab rule 0 (2 * points) in
      let room = ltb-false (length lent) (2 * points) (row-fails 9 (preview_rows s controls (length lent)) none) in
      ap (λ (n : ℕ). get_or (accepts (plan_of s) controls lent).held n nan) (sym (zero-add q))
      ∙ in-sets (tab rule 0 (2 * points)) lent 0 q nan (omega arith) (omega arith)
      ∙ get_or-tab rule 0 (2 * points) q h nan
      ∙ ap rule (zero-add q)

  number-exact : (q : ℕ) → q < 2 * points → Value (rule q) (sum (plan_of s).depth (plan_of s).spans controls q) (2 ^ (3 * (plan_of s).depth))
  unfolding plan_of
  number-exact q h =
      let held = (accepts (plan_of s) controls lent).held in
      subst (λ x. Value x (sum s.depth (plan_of s).spans controls q) (2 ^ (3 * s.depth))) (number-drawn q h) (drawn-exact s controls lent points held (none-drawn s controls lent none) q h).0

  mirror-number : (axis : Axis) (q : ℕ) → q < 2 * points → value (plan_of s).depth (plan_of s).spans (mirror axis controls) q ≡ across opposite axis q (rule q)
  mirror-number axis q h = mirror-value axis (plan_of s).depth (plan_of s).spans controls q (number-exact q h)

-- ---- the mirrored preview

module _ (axis : Axis) (s : Shape) (controls : List ℤ) (lent : List Float) where
  mirror-accepts : NoRow (preview_rows s controls (length lent)) → accepts (plan_of s) (mirror axis controls) (mirrored opposite axis lent) ≡ mirror_previewed axis (accepts (plan_of s) controls lent)
  mirror-accepts none =
      let k = (plan_of s).depth in
      let m = (plan_of s).spans in
      let n = points_of k m in
      let same = tab-same (value k m (mirror axis controls)) (λ q. across opposite axis q (value k m controls q)) 0 0 (2 * n) (λ q b. mirror-number s controls lent none axis (0 + q) (within q b)) in
      ap (outcome (Ok n)) (ap (sets (mirrored opposite axis lent) 0) same ∙ sym (mirrored-tab opposite axis lent (value k m controls) 0 (2 * n)))
    where
      within : {n : ℕ} (q : ℕ) → q < n → 0 + q < n
      within q b = omega arith

  -- for every shape and all lent lists, refusals too
  pub mirror-previewing : previewing s (mirror axis controls) (mirrored opposite axis lent) ≡ mirror_previewed axis (previewing s controls lent)
  unfolding previewing
  mirror-previewing =
      let refused = refuses Err (mirrored opposite axis lent) in
      let accepted = accepts (plan_of s) (mirror axis controls) (mirrored opposite axis lent) in
      ap (λ (len : ℕ). judge (preview_rows s (mirror axis controls) len) refused accepted) (length-mirrored opposite axis lent)
      ∙ ap (λ r. judge r refused accepted) (mirror-rows axis s controls (length lent))
      ∙ judge-mirror (mirror_previewed axis) (preview_rows s controls (length lent)) (refuses Err lent) (accepts (plan_of s) controls lent) accepted mirror-accepts

  -- in any other list as long
  pub mirror-preview-points :
      (n : ℕ) (l : List Float)
      → previewing s controls lent ≡ outcome (Ok n) l
      → (other : List Float)
      → length other ≡ length lent
      → (l' : List Float)
      × (previewing s (mirror axis controls) other ≡ outcome (Ok n) l')
      × ((q : ℕ) → q < 2 * n → get_or l' q nan ≡ across opposite axis q (get_or l q nan))
  mirror-preview-points n l answered other long =
      let p = plan_of s in
      let points = points_of p.depth p.spans in
      let none = drawn-none s controls lent n l answered in
      let none' : NoRow (preview_rows s (mirror axis controls) (length other)) =
      subst (λ (len : ℕ). NoRow (preview_rows s (mirror axis controls) len)) (sym long) (subst NoRow (sym (mirror-rows axis s controls (length lent))) none) in
      let here = sym (none-drawn s controls lent none) ∙ answered in
      let l' = (accepts p (mirror axis controls) other).held in
      let count : points ≡ n = ok-same points n (λ j. (here j).answer) in (
        l',
        none-drawn s (mirror axis controls) other none' ∙ ap (λ (m : ℕ). outcome (Ok m) l') count,
        λ q h.
            let b : q < 2 * points = omega arith in
            number-drawn s (mirror axis controls) other none' q b
            ∙ mirror-number s controls lent none axis q b
            ∙ ap (across opposite axis q) (sym (number-drawn s controls lent none q b) ∙ (λ j. get_or (here j).held q nan)),
      )
