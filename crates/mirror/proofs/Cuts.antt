-- An outline by tolerance of mirrored controls is the mirrored one, refusals too: second differences keep their sizes, so the trees have the same cuts, and each start is turned as its controls are.
use Rattle.std.specs.Prelude.{Err, Ok}
use mathlib.Core.Path.{◌≡◌, refl, sym, ap, ◌∙◌, subst}
use mathlib.Core.Bool.{Bool, true, false, cond, ◌&&◌}
use mathlib.Core.List.{List, [], ◌∷◌, ◌++◌, append_assoc}
use Prim.Native.Nat.{ℕ, zero, suc, ◌+◌, ◌*◌, ◌-◌, max}
use lib.Dec.{leb}
use lib.IntN.{ℤ, pos, neg_ℤ, nat_abs, ◌-ℤ◌}
use lib.Seq.{sets}
use Rattle.whole.specs.Nearest.{nearest, remainder}
use Rattle.whole.specs.Outcome.{outcome, refuses}
use Rattle.whole.proofs.Fit.{nat_abs-neg}
use Rattle.whole.proofs.Nearest.{nearest-minus}
use Rattle.whole.proofs.Remainder.{remainder-minus}
use Rattle.whole.proofs.Ring.{Same, ev, ◌⊕◌, ◌⊖◌, ◌⊗◌, solve, minus}
use Rattle.curve.specs.declared.Four.{Four}
use Rattle.curve.specs.declared.Basis.{Basis}
use Rattle.curve.specs.declared.Basis.TheVariants.{Bezier, BSpline, Cardinal, Hermite, Loop}
use Rattle.curve.specs.Bend.{bend, first_bend, last_bend}
use Rattle.curve.specs.Four.{four}
use Rattle.curve.specs.Span.{coordinate, divisor, records_from, records, whole_controls}
use Rattle.curve.specs.Tab.{tab}
use Rattle.curve.specs.Ways.{left_half, right_half}
use Rattle.curve.proofs.Reflect.{Fourᵉ, num, p, values_with, wholeᵉ, leftᵉ, rightᵉ}
use Rattle.shape.specs.declared.Shape.{Shape}
use Rattle.shape.specs.declared.Plan.{Plan}
use Rattle.shape.specs.Refusals.{judge, shape_rows, point_rows, plan_of}
use Rattle.spans.specs.Numbers.{nought, noughts}
use Rattle.pieces.specs.declared.Piece.{Piece}
use Rattle.pieces.specs.Tree.{finest, piece, left_piece, right_piece, is_flat, Tree, Flat, Rough, Cut, tree, cuts, all_cuts}
use Rattle.pieces.specs.Walk.{and_then, walk, walk_all}
use Rattle.pieces.specs.Values.{Value, both, starts, all_starts, end, numbers, exact_of}
use Rattle.tolerance.specs.Reading.{controls_of, tree_of, walk_of, cuts_of, values_of, points_for, steps_of, tolerance_row, walk_rows, choose_rows, chosen, accepts, chooses}
use Rattle.mirror.specs.Mirror.{Axis, X, Y, mirror_x, mirror_y, mirrored, mirror, mirror_chosen}
use Rattle.pieces.specs.declared.Uncut.TheVariants.{TooMany}
use Rattle.mirror.proofs.Lists.{length-mirrored, mirrored-sets, coordinate-mirror, control_rows-mirror, judge-mirror}
use Rattle.mirror.proofs.Points.{from_zero, from_zeroᵉ, negated, nought-minus}

-- ---- four controls turned, as a whole: u, and each number: g

record Turning (u : Four → Four) (g : ℤ → ℤ) : Type 0 where
  lefts : (q : Four) → left_half (u q) ≡ u (left_half q)
  rights : (q : Four) → right_half (u q) ≡ u (right_half q)
  bends : (q : Four) → bend (u q) ≡ bend q
  firsts : (q : Four) → (u q).a ≡ g q.a
  lasts : (q : Four) → (u q).d ≡ g q.d
  rounded : (z : ℤ) (d : ℕ) → nearest (g z) d ≡ g (nearest z d)
  exact : (z : ℤ) (d : ℕ) → nought (remainder (g z) d) ≡ nought (remainder z d)

same : Turning (λ q. q) (λ z. z)
same = record { lefts = λ q. refl; rights = λ q. refl; bends = λ q. refl; firsts = λ q. refl; lasts = λ q. refl; rounded = λ z d. refl; exact = λ z d. refl }

-- negated, where -z is written 0 - z: what makes four numbers of four by sums turns with them
from_zero_lem : (q : Four) → negated q ≡ from_zero q
from_zero_lem q = λ j. four (minus q.a j) (minus q.b j) (minus q.c j) (minus q.d j)

turned : (f : Four → Four) (q : Four) → f (from_zero q) ≡ from_zero (f q) → f (negated q) ≡ negated (f q)
turned f q is = ap f (from_zero_lem q) ∙ is ∙ sym (from_zero_lem (f q))

-- four identities at once
ev_four : List ℤ → Fourᵉ → Four
ev_four r e = four (ev r e.a) (ev r e.b) (ev r e.c) (ev r e.d)

alike : (r : List ℤ) (l m : Fourᵉ) → Same l.a m.a → Same l.b m.b → Same l.c m.c → Same l.d m.d → ev_four r l ≡ ev_four r m
unfolding ev_four
alike r l m a b c d = λ j. four (solve r l.a m.a a j) (solve r l.b m.b b j) (solve r l.c m.c c j) (solve r l.d m.d d j)

module _ (q : Four) where
  abbrev r : List ℤ
  r = q.a ∷ q.b ∷ q.c ∷ q.d ∷ []

  left-turned : left_half (negated q) ≡ negated (left_half q)
  unfolding left_half ev_four
  left-turned = turned left_half q (alike r (leftᵉ (from_zeroᵉ p)) (from_zeroᵉ (leftᵉ p)) tt tt tt tt)

  right-turned : right_half (negated q) ≡ negated (right_half q)
  unfolding right_half ev_four
  right-turned = turned right_half q (alike r (rightᵉ (from_zeroᵉ p)) (from_zeroᵉ (rightᵉ p)) tt tt tt tt)

  controls-turned : (b : Basis) → whole_controls b (negated q) ≡ negated (whole_controls b q)
  unfolding whole_controls ev_four
  controls-turned Bezier = turned (whole_controls Bezier) q (alike (values_with Bezier q (pos 0) (pos 0)) (wholeᵉ Bezier (from_zeroᵉ p)) (from_zeroᵉ (wholeᵉ Bezier p)) tt tt tt tt)
  controls-turned BSpline = turned (whole_controls BSpline) q (alike (values_with BSpline q (pos 0) (pos 0)) (wholeᵉ BSpline (from_zeroᵉ p)) (from_zeroᵉ (wholeᵉ BSpline p)) tt tt tt tt)
  controls-turned (Cardinal c) = turned (whole_controls (Cardinal c)) q (alike (values_with (Cardinal c) q (pos 0) (pos 0)) (wholeᵉ (Cardinal c) (from_zeroᵉ p)) (from_zeroᵉ (wholeᵉ (Cardinal c) p)) tt tt tt tt)
  controls-turned Hermite = turned (whole_controls Hermite) q (alike (values_with Hermite q (pos 0) (pos 0)) (wholeᵉ Hermite (from_zeroᵉ p)) (from_zeroᵉ (wholeᵉ Hermite p)) tt tt tt tt)
  controls-turned (Loop n) = turned (whole_controls (Loop n)) q (alike (values_with (Loop n) q (pos 0) (pos 0)) (wholeᵉ (Loop n) (from_zeroᵉ p)) (from_zeroᵉ (wholeᵉ (Loop n) p)) tt tt tt tt)

  -- its second differences are negated, and keep their sizes
  size-turned : (f : Four → ℤ) → f (from_zero q) ≡ pos 0 -ℤ f q → nat_abs (f (negated q)) ≡ nat_abs (f q)
  size-turned f is = ap nat_abs (ap f (from_zero_lem q) ∙ is ∙ sym (minus (f q))) ∙ nat_abs-neg (f q)

  bend-turned : bend (negated q) ≡ bend q
  unfolding bend
  bend-turned =
      let e = from_zeroᵉ p in
      λ j. max (size-turned first_bend (solve r (e.a ⊖ num 2 ⊗ e.b ⊕ e.c) (num 0 ⊖ (p.a ⊖ num 2 ⊗ p.b ⊕ p.c)) tt) j) (size-turned last_bend (solve r (e.b ⊖ num 2 ⊗ e.c ⊕ e.d) (num 0 ⊖ (p.b ⊖ num 2 ⊗ p.c ⊕ p.d)) tt) j)

opposite : Turning negated neg_ℤ
opposite =
    record {
      lefts = left-turned;
      rights = right-turned;
      bends = bend-turned;
      firsts = λ q. refl;
      lasts = λ q. refl;
      rounded = nearest-minus;
      exact = λ z d. ap nought (remainder-minus z d) ∙ nought-minus (remainder z d);
    }

-- ---- trees of turned pieces

module _ (axis : Axis) (u v : Four → Four) (tx : Turning u (mirror_x neg_ℤ axis)) (ty : Turning v (mirror_y neg_ℤ axis)) (d : ℕ → ℕ) where
  abbrev over : Piece → Piece
  over p = piece p.level (u p.x) (v p.y)

  over_tree : Tree → Tree
  over_tree (Flat p) = Flat (over p)
  over_tree (Rough p) = Rough (over p)
  over_tree (Cut l r) = Cut (over_tree l) (over_tree r)

  over-cond : (b : Bool) (s t : Tree) → over_tree (cond b s t) ≡ cond b (over_tree s) (over_tree t)
  over-cond true s t = refl
  over-cond false s t = refl

  flat-over : (tolerance : ℕ) (p : Piece) → is_flat d tolerance (over p) ≡ is_flat d tolerance p
  unfolding is_flat
  flat-over tolerance p = let n = 4 * (tolerance * d p.level) in λ j. leb (3 * tx.bends p.x j) n && leb (3 * ty.bends p.y j) n

  left_over : (p : Piece) → left_piece (over p) ≡ over (left_piece p)
  left_over p = λ j. piece (p.level + 1) (tx.lefts p.x j) (ty.lefts p.y j)

  right-over : (p : Piece) → right_piece (over p) ≡ over (right_piece p)
  right-over p = λ j. piece (p.level + 1) (tx.rights p.x j) (ty.rights p.y j)

  tree_over : (tolerance left : ℕ) (p : Piece) → tree d tolerance left (over p) ≡ over_tree (tree d tolerance left p)
  unfolding tree over_tree
  tree_over tolerance zero p = ap (λ b. cond b (Flat (over p)) (Rough (over p))) (flat-over tolerance p) ∙ sym (over-cond (is_flat d tolerance p) (Flat p) (Rough p))
  tree_over tolerance (suc left) p =
      let l = ap (tree d tolerance left) (left_over p) ∙ tree_over tolerance left (left_piece p) in
      let r = ap (tree d tolerance left) (right-over p) ∙ tree_over tolerance left (right_piece p) in
      (λ j. cond (flat-over tolerance p j) (Flat (over p)) (Cut (l j) (r j)))
      ∙ sym (over-cond (is_flat d tolerance p) (Flat p) (Cut (tree d tolerance left (left_piece p)) (tree d tolerance left (right_piece p))))

  -- they are walked and cut alike
  walk-over : (most made : ℕ) (t : Tree) → walk most made (over_tree t) ≡ walk most made t
  unfolding walk over_tree
  walk-over most made (Flat p) = refl
  walk-over most made (Rough p) = refl
  walk-over most made (Cut l r) = λ j. cond (leb most made) (Err TooMany) (and_then (walk-over most (made + 1) l j) (λ n. walk-over most n r j))

  cuts-over : (t : Tree) → cuts (over_tree t) ≡ cuts t
  unfolding cuts over_tree
  cuts-over (Flat p) = refl
  cuts-over (Rough p) = refl
  cuts-over (Cut l r) = λ j. suc (cuts-over l j + cuts-over r j)

  -- values in front of others that turn: they round to the turned numbers, and as many are exact
  record Turned (now was : List Value) : Type 0 where
    turned-numbers : numbers now ≡ mirror axis (numbers was)
    same-exact : exact_of now ≡ exact_of was

  point-over : (n : ℕ) (x y x' y' : ℤ) (now was : List Value) → x' ≡ mirror_x neg_ℤ axis x → y' ≡ mirror_y neg_ℤ axis y → Turned now was → Turned (both n x' y' ++ now) (both n x y ++ was)
  unfolding mirrored noughts
  point-over n x y x' y' now was e f t =
      record {
        turned-numbers = λ j. (ap (λ z. nearest z n) e ∙ tx.rounded x n) j ∷ (ap (λ z. nearest z n) f ∙ ty.rounded y n) j ∷ t.turned-numbers j;
        same-exact = λ j. (ap (λ z. nought (remainder z n)) e ∙ tx.exact x n) j + ((ap (λ z. nought (remainder z n)) f ∙ ty.exact y n) j + t.same-exact j);
      }

  starts-over : (t : Tree) (now was : List Value) → Turned now was → Turned (starts d (over_tree t) ++ now) (starts d t ++ was)
  unfolding starts over_tree
  starts-over (Flat p) now was e = point-over (d p.level) p.x.a p.y.a (u p.x).a (v p.y).a now was (tx.firsts p.x) (ty.firsts p.y) e
  starts-over (Rough p) now was e = point-over (d p.level) p.x.a p.y.a (u p.x).a (v p.y).a now was (tx.firsts p.x) (ty.firsts p.y) e
  starts-over (Cut l r) now was e =
      subst (λ n. Turned n ((starts d l ++ starts d r) ++ was)) (sym (append_assoc (starts d (over_tree l)) (starts d (over_tree r)) now))
      (subst (Turned (starts d (over_tree l) ++ (starts d (over_tree r) ++ now))) (sym (append_assoc (starts d l) (starts d r) was))
      (starts-over l (starts d (over_tree r) ++ now) (starts d r ++ was) (starts-over r now was e)))

  -- of all spans
  walk-all : (most made : ℕ) (f g : ℕ → Tree) → ((s : ℕ) → g s ≡ over_tree (f s)) → (i n : ℕ) → walk_all most made (tab g i n) ≡ walk_all most made (tab f i n)
  unfolding walk_all tab
  walk-all most made f g e i zero = refl
  walk-all most made f g e i (suc n) = λ j. and_then ((ap (walk most made) (e i) ∙ walk-over most made (f i)) j) (λ m. walk-all most m f g e (suc i) n j)

  cuts-all : (f g : ℕ → Tree) → ((s : ℕ) → g s ≡ over_tree (f s)) → (i n : ℕ) → all_cuts (tab g i n) ≡ all_cuts (tab f i n)
  unfolding all_cuts tab
  cuts-all f g e i zero = refl
  cuts-all f g e i (suc n) = λ j. (ap cuts (e i) ∙ cuts-over (f i)) j + cuts-all f g e (suc i) n j

  starts-all : (f g : ℕ → Tree) → ((s : ℕ) → g s ≡ over_tree (f s)) → (i n : ℕ) (now was : List Value) → Turned now was → Turned (all_starts d (tab g i n) ++ now) (all_starts d (tab f i n) ++ was)
  unfolding all_starts tab
  starts-all f g e i zero now was t = t
  starts-all f g e i (suc n) now was t =
      let here = starts-over (f i) (all_starts d (tab g (suc i) n) ++ now) (all_starts d (tab f (suc i) n) ++ was) (starts-all f g e (suc i) n now was t) in
      subst (λ a. Turned a ((starts d (f i) ++ all_starts d (tab f (suc i) n)) ++ was)) (sym (append_assoc (starts d (g i)) (all_starts d (tab g (suc i) n)) now))
      (subst (Turned (starts d (g i) ++ (all_starts d (tab g (suc i) n) ++ now))) (sym (append_assoc (starts d (f i)) (all_starts d (tab f (suc i) n)) was))
      (subst (λ s. Turned (starts d s ++ (all_starts d (tab g (suc i) n) ++ now)) (starts d (f i) ++ (all_starts d (tab f (suc i) n) ++ was))) (sym (e i)) here))

-- ---- the call

-- what turns on each axis
abbrev turn_x : Axis → Four → Four
turn_x X q = negated q
turn_x Y q = q

abbrev turn_y : Axis → Four → Four
turn_y X q = q
turn_y Y q = negated q

turning-x : (axis : Axis) → Turning (turn_x axis) (mirror_x neg_ℤ axis)
turning-x X = opposite
turning-x Y = same

turning-y : (axis : Axis) → Turning (turn_y axis) (mirror_y neg_ℤ axis)
turning-y X = same
turning-y Y = opposite

module _ (axis : Axis) (p : Plan) (tolerance : ℕ) (controls : List ℤ) where
  abbrev d : ℕ → ℕ
  d = divisor p.basis

  controls-x : (s : ℕ) → controls_of p (mirror axis controls) s 0 ≡ turn_x axis (controls_of p controls s 0)
  unfolding records_from
  controls-x s = ap (λ c. whole_controls p.basis (records p.basis s c)) (λ j r. coordinate-mirror axis controls 0 r j) ∙ go axis
    where
      go : (a : Axis) → whole_controls p.basis (records p.basis s (λ r. mirror_x neg_ℤ a (coordinate controls 0 r))) ≡ turn_x a (controls_of p controls s 0)
      go X = controls-turned (records p.basis s (coordinate controls 0)) p.basis
      go Y = refl

  controls-y : (s : ℕ) → controls_of p (mirror axis controls) s 1 ≡ turn_y axis (controls_of p controls s 1)
  unfolding records_from
  controls-y s = ap (λ c. whole_controls p.basis (records p.basis s c)) (λ j r. coordinate-mirror axis controls 1 r j) ∙ go axis
    where
      go : (a : Axis) → whole_controls p.basis (records p.basis s (λ r. mirror_y neg_ℤ a (coordinate controls 1 r))) ≡ turn_y a (controls_of p controls s 1)
      go X = refl
      go Y = controls-turned (records p.basis s (coordinate controls 1)) p.basis

  turn-tree : Tree → Tree
  turn-tree = over_tree axis (turn_x axis) (turn_y axis) (turning-x axis) (turning-y axis) d

  tree-mirror : (s : ℕ) → tree_of p tolerance (mirror axis controls) s ≡ turn-tree (tree_of p tolerance controls s)
  unfolding tree_of turn-tree
  tree-mirror s =
      (λ j. tree d tolerance finest (piece 0 (controls-x s j) (controls-y s j)))
      ∙ tree_over axis (turn_x axis) (turn_y axis) (turning-x axis) (turning-y axis) d tolerance finest (piece 0 (controls_of p controls s 0) (controls_of p controls s 1))

  pub walk-mirror : (most : ℕ) → walk_of p tolerance most (mirror axis controls) ≡ walk_of p tolerance most controls
  unfolding turn-tree
  walk-mirror most = walk-all axis (turn_x axis) (turn_y axis) (turning-x axis) (turning-y axis) d most 0 (tree_of p tolerance controls) (tree_of p tolerance (mirror axis controls)) tree-mirror 0 p.spans

  pub cuts-mirror : cuts_of p tolerance (mirror axis controls) ≡ cuts_of p tolerance controls
  unfolding turn-tree
  cuts-mirror = cuts-all axis (turn_x axis) (turn_y axis) (turning-x axis) (turning-y axis) d (tree_of p tolerance controls) (tree_of p tolerance (mirror axis controls)) tree-mirror 0 p.spans

  values-mirror : Turned axis (turn_x axis) (turn_y axis) (turning-x axis) (turning-y axis) d (values_of p tolerance (mirror axis controls)) (values_of p tolerance controls)
  unfolding turn-tree mirrored noughts
  values-mirror =
      let last = p.spans - 1 in
      let tx = turning-x axis in
      let ty = turning-y axis in
      let x = controls_of p controls last 0 in
      let y = controls_of p controls last 1 in
      starts-all axis (turn_x axis) (turn_y axis) tx ty d (tree_of p tolerance controls) (tree_of p tolerance (mirror axis controls)) tree-mirror 0 p.spans
      (end d (controls_of p (mirror axis controls) last 0) (controls_of p (mirror axis controls) last 1)) (end d x y)
      (point-over axis (turn_x axis) (turn_y axis) tx ty d (d 0) x.d y.d (controls_of p (mirror axis controls) last 0).d (controls_of p (mirror axis controls) last 1).d [] []
      (ap (λ (q : Four). q.d) (controls-x last) ∙ tx.lasts x) (ap (λ (q : Four). q.d) (controls-y last) ∙ ty.lasts y) (record { turned-numbers = refl; same-exact = refl }))

  pub steps-mirror : steps_of p tolerance (mirror axis controls) ≡ steps_of p tolerance controls
  steps-mirror = λ j. record { points = points_for p (cuts-mirror j); cuts = cuts-mirror j; exact = values-mirror.same-exact j }

  pub chosen-mirror : (lent : List ℤ) → chosen p tolerance (mirror axis controls) (mirror axis lent) ≡ mirror axis (chosen p tolerance controls lent)
  chosen-mirror lent = ap (sets (mirror axis lent) 0) values-mirror.turned-numbers ∙ sym (mirrored-sets neg_ℤ axis lent 0 (numbers (values_of p tolerance controls)))

rows-mirror : (axis : Axis) (s : Shape) (tolerance most : ℕ) (controls lent : List ℤ) → choose_rows s tolerance most (mirror axis controls) (mirror axis lent) ≡ choose_rows s tolerance most controls lent
rows-mirror axis s tolerance most controls lent =
    let p = plan_of s in
    λ j.
    shape_rows s ++ (control_rows-mirror axis controls s.count s.count j
    ++ (tolerance_row tolerance ∷ walk_rows (walk-mirror axis p tolerance controls most j) ++ point_rows (points_for p (cuts-mirror axis p tolerance controls j)) (length-mirrored neg_ℤ axis lent j)))

pub mirror-chooses : (axis : Axis) (s : Shape) (tolerance most : ℕ) (controls lent : List ℤ) → chooses s tolerance most (mirror axis controls) (mirror axis lent) ≡ mirror_chosen axis (chooses s tolerance most controls lent)
unfolding chooses
mirror-chooses axis s tolerance most controls lent =
    let p = plan_of s in
    let there = accepts p tolerance (mirror axis controls) (mirror axis lent) in
    ap (λ rows. judge rows (refuses Err (mirror axis lent)) there) (rows-mirror axis s tolerance most controls lent)
    ∙ judge-mirror (mirror_chosen axis) (choose_rows s tolerance most controls lent) (refuses Err lent) (accepts p tolerance controls lent) there
    (λ _ j. outcome (Ok (steps-mirror axis p tolerance controls j)) (chosen-mirror axis p tolerance controls lent j))
