-- Each point is found again at every deeper depth: step g·2^l of depth k + l is at the same t as step g of depth k, so its sum is 2^(3l) times as large over a divisor as many times as large. It is
-- rounded to the same number, and what is left over of it is as many times as large.
use Rattle.std.specs.Prelude.{Ok}
use mathlib.Core.Path.{◌≡◌, sym, ap, ◌∙◌, subst}
use mathlib.Core.List.{List}
use Prim.Native.Nat.{ℕ, ◌+◌, ◌*◌, ◌-◌, ◌/◌, ◌%◌, ◌^◌, min, ◌≤◌, ◌<◌}
use native.Mathlib.Nat.{mul_comm, mul_assoc, mul-sub, mul-div-mul_right, mul-le-mul, le_refl}
use native.Mathlib.Omega.{arith}
use borrow.Author.Tests.{le-ltb}
use lib.IntN.{ℤ, pos, nat_abs, ◌-ℤ◌, ◌*ℤ◌}
use lib.ListN.{get_or, length}
use lib.Pow.{pow-add, pow_pos}
use Rattle.whole.specs.Nearest.{nearest, remainder}
use Rattle.whole.specs.Outcome.{outcome}
use Rattle.whole.proofs.Nearest.{nearest-rounded, nearest-scale}
use Rattle.whole.proofs.Remainder.{remainder-scale}
use Rattle.curve.specs.declared.Four.{Four}
use Rattle.curve.specs.declared.Basis.{Basis}
use Rattle.curve.specs.Span.{coordinate, records, whole_controls, weighted, divisor, sum_at}
use Rattle.curve.specs.Ways.{deepest}
use Rattle.curve.proofs.Bits.{divisor-again}
use Rattle.curve.proofs.Powers.{cube, thrice}
use Rattle.curve.proofs.Span.{divisor-pos}
use Rattle.curve.proofs.Table.{weighted-scale}
use Rattle.shape.specs.declared.Shape.{Shape}
use Rattle.shape.specs.declared.Plan.{Plan}
use Rattle.shape.specs.Depth.{shape_at, plan_at}
use Rattle.shape.specs.Refusals.{NoRow, shape_rows, control_rows, point_rows, plan_of}
use Rattle.shape.specs.Shape.{points_of}
use Rattle.shape.proofs.Refusals.{none-earlier, none-later, none_both, none-at}
use Rattle.spans.specs.Numbers.{sum_of, number, remainder_of}
use Rattle.outline.specs.declared.Figures.{Figures}
use Rattle.outline.specs.Outline.{points, plan_rows, draw_rows, figures_of, drawn, draws}
use Rattle.outline.proofs.Exactly.{done_none, none-drawn, done-figures}
use Rattle.outline.proofs.Held.{held_number}
use Rattle.stray.specs.Chord.{finer}

-- ---- a sum, and a number of an outline

pub sum-again : (b : Basis) (k l : ℕ) (p : Four) (i : ℕ) → sum_at b (k + l) p (i * 2 ^ l) ≡ finer l (sum_at b k p i)
unfolding cube
sum-again b k l p i =
    ap (λ (n : ℕ). weighted (whole_controls b p) (pos (i * 2 ^ l)) (pos n)) (pow-add 2 k l)
    ∙ weighted-scale (pos (2 ^ l)) (whole_controls b p) (pos i) (pos (2 ^ k))
    ∙ ap (λ (n : ℕ). pos n *ℤ sum_at b k p i) (sym (thrice l))

-- the number that a sum is rounded to is at most a half away from it over the finer divisor too
pub close-again : (b : Basis) (k l : ℕ) (z n : ℤ) → n ≡ nearest z (divisor b k) → 2 * nat_abs (finer l z -ℤ pos (divisor b (k + l)) *ℤ n) ≤ divisor b (k + l)
close-again b k l z n e =
    let d = divisor b (k + l) in
    let is : nearest (finer l z) d ≡ n = ap (nearest (finer l z)) (divisor-again b k l) ∙ nearest-scale (2 ^ (3 * l)) z (divisor b k) (pow_pos (3 * l)) (divisor-pos b k) ∙ sym e in
    subst (λ m. 2 * nat_abs (finer l z -ℤ pos d *ℤ m) ≤ d) is (nearest-rounded (finer l z) d (divisor-pos b (k + l))).close

module _ (p : Plan) (controls : List ℤ) (k l g axis : ℕ) (a : axis < 2) where
  abbrev q : ℕ
  q = 2 * g + axis

  abbrev again : ℕ
  again = 2 * (g * 2 ^ l) + axis

  -- as the outline has it: step i of span s on the axis
  abbrev at : ℕ → ℕ → ℕ → ℤ
  at depth s i = sum_at p.basis depth (records p.basis s (coordinate controls axis)) i

  stands : (depth n step : ℕ) → n / 2 ≡ step → n % 2 ≡ axis → sum_of (plan_at depth p) controls n ≡ at depth (min (step / 2 ^ depth) (p.spans - 1)) (step - min (step / 2 ^ depth) (p.spans - 1) * 2 ^ depth)
  unfolding sum_of
  stands depth n step half odd =
      λ x. let s = min (half x / 2 ^ depth) (p.spans - 1) in sum_at p.basis depth (records p.basis s (coordinate controls (odd x))) (half x - s * 2 ^ depth)

  pub sums-again : sum_of (plan_at (k + l) p) controls again ≡ finer l (sum_of (plan_at k p) controls q)
  sums-again =
      let s = min (g / 2 ^ k) (p.spans - 1) in
      let same_span : g * 2 ^ l / 2 ^ (k + l) ≡ g / 2 ^ k = ap (λ (n : ℕ). g * 2 ^ l / n) (pow-add 2 k l) ∙ mul-div-mul_right g (2 ^ k) (pow_pos l) in
      let same_step : g * 2 ^ l - s * 2 ^ (k + l) ≡ (g - s * 2 ^ k) * 2 ^ l =
      ap (λ (n : ℕ). g * 2 ^ l - s * n) (pow-add 2 k l)
      ∙ ap (λ (n : ℕ). g * 2 ^ l - n) (sym (mul_assoc s (2 ^ k) (2 ^ l)))
      ∙ (λ x. mul_comm g (2 ^ l) x - mul_comm (s * 2 ^ k) (2 ^ l) x)
      ∙ sym (mul-sub (2 ^ l) g (s * 2 ^ k))
      ∙ mul_comm (2 ^ l) (g - s * 2 ^ k) in
      stands (k + l) again (g * 2 ^ l) (omega arith) (omega arith)
      ∙ ap (λ (n : ℕ). at (k + l) (min n (p.spans - 1)) (g * 2 ^ l - min n (p.spans - 1) * 2 ^ (k + l))) same_span
      ∙ ap (at (k + l) s) same_step
      ∙ sum-again p.basis k l (records p.basis s (coordinate controls axis)) (g - s * 2 ^ k)
      ∙ ap (finer l) (sym (stands k q g (omega arith) (omega arith)))

  pub number-again : number (plan_at (k + l) p) controls again ≡ number (plan_at k p) controls q
  unfolding number
  number-again =
      (λ x. nearest (sums-again x) (divisor-again p.basis k l x))
      ∙ nearest-scale (2 ^ (3 * l)) (sum_of (plan_at k p) controls q) (divisor p.basis k) (pow_pos (3 * l)) (divisor-pos p.basis k)

  pub remainder-again : remainder_of (plan_at (k + l) p) controls again ≡ finer l (remainder_of (plan_at k p) controls q)
  unfolding remainder_of
  remainder-again =
      (λ x. remainder (sums-again x) (divisor-again p.basis k l x))
      ∙ remainder-scale (2 ^ (3 * l)) (sum_of (plan_at k p) controls q) (divisor p.basis k) (pow_pos (3 * l)) (divisor-pos p.basis k)

-- ---- the calls: a shape was drawn

pub points-are : (s : Shape) (controls lent : List ℤ) (fs : Figures) (held : List ℤ) → draws s controls lent ≡ outcome (Ok fs) held → fs.points ≡ (plan_of s).spans * 2 ^ s.depth + 1
unfolding points_of plan_of
points-are s controls lent fs held done = ap (λ (f : Figures). f.points) (sym (done-figures s controls lent fs held done))

module _ (s : Shape) (controls lent : List ℤ) (fs : Figures) (held : List ℤ) (done : draws s controls lent ≡ outcome (Ok fs) held) (l : ℕ) where
  abbrev deeper : Shape
  deeper = shape_at (s.depth + l) s

  -- so is the deeper one, where the depth is allowed and the list has room
  none-deeper : (list : List ℤ) → s.depth + l ≤ deepest → 2 * points (plan_of deeper) ≤ length list → NoRow (draw_rows deeper controls list)
  unfolding plan_of
  none-deeper list shallow room =
      let none = done_none s controls lent fs held done in
      let mine = none-earlier (shape_rows s) (plan_rows s.count (plan_of s) controls lent) none in
      let lists = none-earlier (control_rows s.count s.count controls) (point_rows (points (plan_of s)) (length lent)) (none-later (shape_rows s) (plan_rows s.count (plan_of s) controls lent) none) in
      none_both (shape_rows deeper) (plan_rows s.count (plan_of deeper) controls list) (none-at s (s.depth + l) shallow mine)
      (none_both (control_rows s.count s.count controls) (point_rows (points (plan_of deeper)) (length list)) lists (le-ltb (length list) (2 * points (plan_of deeper)) room, tt))

  pub drawn-deeper : (list : List ℤ) → s.depth + l ≤ deepest → 2 * points (plan_of deeper) ≤ length list
      → (gs : Figures) × (now : List ℤ) × (draws deeper controls list ≡ outcome (Ok gs) now)
  drawn-deeper list shallow room = (figures_of (plan_of deeper) controls, drawn (plan_of deeper) controls list, none-drawn deeper controls list (none-deeper list shallow room))

  -- and each of its points is there, at 2^l times its number
  pub found-again : (list : List ℤ) (gs : Figures) (now : List ℤ) → draws deeper controls list ≡ outcome (Ok gs) now → (g axis : ℕ) → g < fs.points → axis < 2 → get_or now (2 * (g * 2 ^ l) + axis) (pos 0) ≡ get_or held (2 * g + axis) (pos 0)
  unfolding points_of plan_of
  found-again list gs now drawn-now g axis h a =
      let p = plan_of s in
      let k = s.depth in
      let all : p.spans * 2 ^ (k + l) ≡ p.spans * 2 ^ k * 2 ^ l = ap (λ (n : ℕ). p.spans * n) (pow-add 2 k l) ∙ sym (mul_assoc p.spans (2 ^ k) (2 ^ l)) in
      let low : g ≤ p.spans * 2 ^ k = omega (arith, points-are s controls lent fs held done) in
      let there : g * 2 ^ l ≤ p.spans * 2 ^ k * 2 ^ l = mul-le-mul low (le_refl (2 ^ l)) in
      held_number deeper controls list gs now drawn-now (2 * (g * 2 ^ l) + axis) (omega (arith, all, there))
      ∙ number-again p controls k l g axis a
      ∙ sym (held_number s controls lent fs held done (2 * g + axis) (omega (arith, low)))
