-- An induction on the cuts left. None left: the piece's first controls are its one pair of sums. Else the left half's and then the right half's are the piece's, rounded one after the
-- other (`halves-rounded`).
use mathlib.Core.Path.{◌≡◌, sym, ap, ◌∙◌, subst}
use mathlib.Core.List.{[], ◌∷◌}
use Prim.Native.Nat.{ℕ, ◌+◌, ◌*◌, ◌-◌, ◌^◌, ◌≤◌, ◌<◌}
use native.Mathlib.Nat.{mul-le-mul, le_refl}
use native.Mathlib.Omega.{arith}
use lib.IntN.{nat_abs}
use lib.ListN.{length}
use lib.Pow.{pow_mono}
use mir.Syntax.{w64}
use Rattle.whole.specs.Outcome.{outcome}
use Rattle.whole.proofs.Fit.{kept, kept-is}
use Rattle.curve.specs.declared.Four.{Four}
use Rattle.curve.proofs.Tab.{length-tab}
use Rattle.curve.specs.Inner.{far_reach, divisor_of}
use Rattle.curve.specs.Ways.{deepest, left_half, right_half}
use Rattle.curve.proofs.Powers.{shift_one}
use Rattle.spans.specs.Numbers.{per_span}
use Rattle.spans.specs.Inner.{paired, rounds, Cuttable}
use Rattle.spans.proofs.Halves.{piece_sums, cut_on, cuttable-small, leaf-fits, leaf-near, leaf-sums, halves-rounded, halved}
use Rattle.spans.proofs.Rounds.{rounds-from, rounds-most}
use Rattle.spans.proofs.halving.+fill_pieces.Goals as goal
use Rattle.spans.proofs.halving.+fill_pieces.Goals.{After-fill_pieces-on_left, After-fill_pieces-on_right}

-- a first control as the machine keeps it
near : (left d : ℕ) (q : Four) → left ≡ 0 → Cuttable left d q → nat_abs (kept w64 q.a) ≤ d * far_reach
near left d q e cut = subst (λ z. nat_abs z ≤ d * far_reach) (sym (kept-is w64 q.a (leaf-fits left d q cut))) (leaf-near left d q e cut)

pub put_point-requires-clause-x_bound : goal.put_point-requires-clause-x_bound
put_point-requires-clause-x_bound t c =
    let a = c.args in
    let (x, y) = c.requires.cuttable in
    let none = c.if-left-eq0.true in
    (near a.left (divisor_of a.bits) a.x none x, near a.left (divisor_of a.bits) a.y none y)

pub returns-then-left-eq0 : goal.returns-then-left-eq0
returns-then-left-eq0 t c =
    let a = c.args in
    let d = divisor_of a.bits in
    let (cut_x, cut_y) = c.requires.cuttable in
    let x = kept-is w64 a.x.a (leaf-fits a.left d a.x cut_x) in
    let y = kept-is w64 a.y.a (leaf-fits a.left d a.y cut_y) in
    c.put_point.ensures
    ∙ (λ i. rounds d (x i ∷ y i ∷ []) a.at 0 a.points.now)
    ∙ ap (λ sums. rounds d sums a.at 0 a.points.now) (leaf-sums a.left a.x a.y c.if-left-eq0.true)

pub left_half-requires : goal.left_half-requires
left_half-requires t c = let a = c.args in cuttable-small a.left (divisor_of a.bits) a.x c.requires.cuttable.0

pub left_half-requires-2 : goal.left_half-requires-2
left_half-requires-2 t c = let a = c.args in cuttable-small a.left (divisor_of a.bits) a.y c.requires.cuttable.1

pub fill_pieces-on_left-requires : goal.fill_pieces-on_left-requires
fill_pieces-on_left-requires t c =
    let a = c.args in
    let d = divisor_of a.bits in
    let (deep, few) = c.requires.left_le_deepest in
    let x = (cut_on a.left d a.x (omega arith) deep c.requires.cuttable.0).0 in
    let y = (cut_on a.left d a.y (omega arith) deep c.requires.cuttable.1).0 in (
      omega arith,
      (
        (omega arith, few),
        (
          (subst (Cuttable (a.left - 1) d) (sym c.left_half.ensures) x, subst (Cuttable (a.left - 1) d) (sym c.left_half-2.ensures) y),
          omega (arith, halved a.left (omega arith), c.requires.left_in_bounds),
        ),
      ),
    )

pub right_half-requires : goal.right_half-requires
right_half-requires t c = let a = c.args in cuttable-small a.left (divisor_of a.bits) a.x c.requires.cuttable.0

pub right_half-requires-2 : goal.right_half-requires-2
right_half-requires-2 t c = let a = c.args in cuttable-small a.left (divisor_of a.bits) a.y c.requires.cuttable.1

pub fill_pieces-on_right-requires : goal.fill_pieces-on_right-requires
fill_pieces-on_right-requires t c =
    let a = c.args in
    let d = divisor_of a.bits in
    let (deep, few) = c.requires.left_le_deepest in
    let x = (cut_on a.left d a.x (omega arith) deep c.requires.cuttable.0).1 in
    let y = (cut_on a.left d a.y (omega arith) deep c.requires.cuttable.1).1 in (
      omega arith,
      (
        (omega arith, few),
        (
          (subst (Cuttable (a.left - 1) d) (sym c.right_half.ensures) x, subst (Cuttable (a.left - 1) d) (sym c.right_half-2.ensures) y),
          omega (arith, shift_one a.left (omega (arith, deep)), halved a.left (omega arith), c.requires.left_in_bounds, c.fill_pieces-on_left.auto.points),
        ),
      ),
    )

-- what the left half comes to
left-rounded : (t : ℕ) (c : After-fill_pieces-on_left t) → outcome c.fill_pieces-on_left.result c.fill_pieces-on_left.new.points
    ≡ rounds (divisor_of c.args.bits)
    (piece_sums (c.args.left - 1) (left_half c.args.x) (left_half c.args.y))
    c.args.at 0 c.args.points.now
left-rounded t c =
    let a = c.args in
    c.fill_pieces-on_left.ensures ∙ (λ i. rounds (divisor_of a.bits) (piece_sums (a.left - 1) (c.left_half.ensures i) (c.left_half-2.ensures i)) a.at 0 a.points.now)

-- and what the right half comes to, after it
module _ (t : ℕ) (c : After-fill_pieces-on_right t) where
  abbrev left : After-fill_pieces-on_left t
  left = c.before.before.before.before.before

  right-rounded : outcome c.fill_pieces-on_right.result c.fill_pieces-on_right.new.points
      ≡ rounds (divisor_of c.args.bits)
      (piece_sums (c.args.left - 1) (right_half c.args.x) (right_half c.args.y))
      (c.args.at + 2 ^ c.args.left) 0 c.fill_pieces-on_left.new.points
  right-rounded =
      let a = c.args in
      let half = shift_one a.left (omega (arith, c.requires.left_le_deepest)) in
      c.fill_pieces-on_right.ensures
      ∙ (λ i. rounds (divisor_of a.bits) (piece_sums (a.left - 1) (c.right_half.ensures i) (c.right_half-2.ensures i)) (a.at + half i) 0 c.fill_pieces-on_left.new.points)

pub overflow_add-result : goal.overflow_add-result
overflow_add-result t c =
    let a = c.args in
    let d = divisor_of a.bits in
    let m = a.left - 1 in
    let l = c.fill_pieces-on_left in
    let r = c.fill_pieces-on_right in
    let first = rounds-most d (piece_sums m (left_half a.x) (left_half a.y)) a.at 0 a.points.now (outcome l.result l.new.points) (left-rounded t (left t c.before)) in
    let second = rounds-most d (piece_sums m (right_half a.x) (right_half a.y)) (a.at + 2 ^ a.left) 0 l.new.points (outcome r.result r.new.points) (right-rounded t c.before) in
    let most : per_span m ≤ per_span deepest = mul-le-mul (le_refl 2) (pow_mono {i = m} {j = deepest} (omega (arith, c.requires.left_le_deepest))) in
    let sums : (x y : Four) → length (piece_sums m x y) ≡ per_span m = λ x y. length-tab (paired m x y) 0 (per_span m) in
    omega (arith, first, second, sums (left_half a.x) (left_half a.y), sums (right_half a.x) (right_half a.y), most)

pub returns : goal.returns
returns t c =
    let a = c.args in
    let d = divisor_of a.bits in
    let l = c.fill_pieces-on_left in
    let r = c.fill_pieces-on_right in
    let some : 0 < a.left = omega (arith, c.if-left-eq0.false) in
    halves-rounded a.left d a.x a.y a.at 0 a.points.now some (left-rounded t (left t c.before))
    (rounds-from d (piece_sums (a.left - 1) (right_half a.x) (right_half a.y)) (a.at + 2 ^ a.left) l.result l.new.points (outcome r.result r.new.points) (right-rounded t c.before))
