-- A plan's spans, one after another: each can be walked from its controls, and what a loop still has to walk or to write, after what it has, makes the whole.
use Rattle.std.specs.Prelude.{Ok}
use mathlib.Core.Path.{◌≡◌, refl, sym, ap, ◌∙◌, subst}
use mathlib.Core.List.{List, [], ◌∷◌, ◌++◌, append_assoc}
use Prim.Native.Nat.{ℕ, zero, suc, ◌+◌, ◌*◌, ◌-◌, ◌^◌, ◌≤◌, ◌<◌}
use native.Mathlib.Numerals.{add-one}
use native.Mathlib.Omega.{arith}
use lib.IntN.{ℤ, pos, nat_abs}
use lib.ListN.{length, length-append}
use Rattle.whole.proofs.Ring.{var, lit, ◌⊗◌, solve}
use Rattle.curve.specs.Inner.{widest, far_reach}
use Rattle.curve.specs.Span.{divisor, weighted}
use Rattle.curve.specs.Tab.{tab}
use Rattle.curve.proofs.Span.{weighted-end}
use Rattle.curve.proofs.Tab.{length-tab}
use Rattle.shape.specs.declared.Plan.{Plan}
use Rattle.shape.specs.Depth.{plan_at}
use Rattle.spans.specs.Inner.{Ready, Drawable}
use Rattle.spans.proofs.Drawables.{span-ready}
use Rattle.spans.proofs.Halves.{ready-cuttable}
use Rattle.pieces.specs.declared.Filled.{Filled}
use Rattle.pieces.specs.declared.Piece.{Piece}
use Rattle.pieces.specs.Tree.{finest, piece, Tree, cuts, most_cuts, all_cuts}
use Rattle.pieces.specs.Walk.{and_then, walk, walk_all}
use Rattle.pieces.specs.Values.{Value, starts, all_starts, end}
use Rattle.pieces.specs.Inner.{tree_at}
use Rattle.pieces.specs.Inner as pieces
use Rattle.pieces.proofs.Starts.{length-starts, cuts-most}
use Rattle.tolerance.specs.Reading.{controls_of, tree_of, trees_of, values_of, cuts_of, points_for}

-- ---- one span

module _ (p : Plan) (controls : List ℤ) (d : Drawable p controls) (s : ℕ) (h : s < p.spans) where
  ready : (k axis : ℕ) → axis < 2 → Ready k (divisor p.basis k) (controls_of p controls s axis)
  ready k axis a =
      span-ready (plan_at k p) controls (record { few = d.few; offered = d.offered; round = d.round; held = d.held; inside = d.inside }) s axis h a

  pub span-walkable : pieces.Walkable p.basis 0 (controls_of p controls s 0) (controls_of p controls s 1)
  span-walkable =
      record {
        shallow = omega arith;
        on-x = ready-cuttable finest (divisor p.basis finest) (controls_of p controls s 0) (ready finest 0 (omega arith));
        on-y = ready-cuttable finest (divisor p.basis finest) (controls_of p controls s 1) (ready finest 1 (omega arith));
      }

  -- its end is within the reach of its divisor, and far inside 64 bits
  pub end-near : (axis : ℕ) → axis < 2 → nat_abs (controls_of p controls s axis).d ≤ divisor p.basis 0 * far_reach
  end-near axis a =
      let q = controls_of p controls s axis in
      let last : weighted q (pos 1) (pos 1) ≡ q.d = weighted-end q (pos 1) ∙ solve (q.d ∷ []) (lit (pos 1) ⊗ lit (pos 1) ⊗ lit (pos 1) ⊗ var 0) (var 0) tt in
      subst (λ z. nat_abs z ≤ divisor p.basis 0 * far_reach) last ((ready 0 axis a).near 1 (omega arith))

  pub end-inside : (axis : ℕ) → axis < 2 → nat_abs (controls_of p controls s axis).d ≤ widest
  end-inside axis a = (ready 0 axis a).inside.d

-- the piece that the code walks is the span, before any cut
abbrev pub whole_piece : Plan → List ℤ → ℕ → Piece
whole_piece p controls s = piece 0 (controls_of p controls s 0) (controls_of p controls s 1)

-- and its tree is the span's
pub same_span : (p : Plan) (tolerance : ℕ) (controls : List ℤ) (s : ℕ) {q : Piece} → q ≡ whole_piece p controls s → tree_at p.basis tolerance q.level q.x q.y ≡ tree_of p tolerance controls s
unfolding tree_of
same_span p tolerance controls s e = λ i. tree_at p.basis tolerance (e i).level (e i).x (e i).y

-- ---- what is left

module _ (f : ℕ → Tree) where
  -- the trees from number s on are number s and those after it
  next : (s m : ℕ) → s < m → tab f s (m - s) ≡ f s ∷ tab f (s + 1) (m - (s + 1))
  unfolding tab
  next s m h =
      let one : m - s ≡ suc (m - (s + 1)) = omega arith in
      ap (tab f s) one ∙ ap (λ (n : ℕ). f s ∷ tab f n (m - (s + 1))) (sym (add-one s))

  none : (s m : ℕ) → m ≤ s → tab f s (m - s) ≡ []
  unfolding tab
  none s m h = let nothing : m - s ≡ 0 = omega arith in ap (tab f s) nothing

  pub walk-next : (most made s m : ℕ) → s < m → walk_all most made (tab f s (m - s)) ≡ and_then (walk most made (f s)) (λ n. walk_all most n (tab f (s + 1) (m - (s + 1))))
  unfolding walk_all
  walk-next most made s m h = ap (walk_all most made) (next s m h)

  pub walk-done : (most made s m : ℕ) → m ≤ s → walk_all most made (tab f s (m - s)) ≡ Ok made
  unfolding walk_all
  walk-done most made s m h = ap (walk_all most made) (none s m h)

  pub starts-next : (d : ℕ → ℕ) (e : List Value) (s m : ℕ) → s < m → all_starts d (tab f s (m - s)) ++ e ≡ starts d (f s) ++ (all_starts d (tab f (s + 1) (m - (s + 1))) ++ e)
  unfolding all_starts
  starts-next d e s m h = ap (λ trees. all_starts d trees ++ e) (next s m h) ∙ append_assoc (starts d (f s)) (all_starts d (tab f (s + 1) (m - (s + 1)))) e

  pub starts-done : (d : ℕ → ℕ) (e : List Value) (s m : ℕ) → m ≤ s → all_starts d (tab f s (m - s)) ++ e ≡ e
  unfolding all_starts
  starts-done d e s m h = ap (λ trees. all_starts d trees ++ e) (none s m h)

-- what is left to write from a span on
abbrev pub rest : Plan → ℕ → List ℤ → ℕ → List Value
rest p tolerance controls s =
    all_starts (divisor p.basis) (tab (tree_of p tolerance controls) s (p.spans - s)) ++ end (divisor p.basis) (controls_of p controls (p.spans - 1) 0) (controls_of p controls (p.spans - 1) 1)

-- nothing written yet
abbrev pub unfilled : Filled
unfilled = record { next = 0; exact = 0 }

-- ---- how many numbers there are

pub length-all : (d : ℕ → ℕ) (trees : List Tree) → length (all_starts d trees) ≡ 2 * (length trees + all_cuts trees)
unfolding all_starts all_cuts
length-all d [] = refl
length-all d (t ∷ trees) = length-append (starts d t) (all_starts d trees) ∙ omega (arith, length-starts d t, length-all d trees)

pub values_length : (p : Plan) (tolerance : ℕ) (controls : List ℤ) → length (values_of p tolerance controls) ≡ 2 * points_for p (cuts_of p tolerance controls)
values_length p tolerance controls =
    let d = divisor p.basis in
    let trees = trees_of p tolerance controls in
    length-append (all_starts d trees) (end d (controls_of p controls (p.spans - 1) 0) (controls_of p controls (p.spans - 1) 1))
    ∙ omega (arith, length-all d trees, length-tab (tree_of p tolerance controls) 0 p.spans)

-- ---- how many cuts there can be

all-cuts : (p : Plan) (tolerance : ℕ) (controls : List ℤ) (i n : ℕ) → all_cuts (tab (tree_of p tolerance controls) i n) ≤ most_cuts * n
unfolding all_cuts tab tree_of
all-cuts p tolerance controls i zero = omega arith
all-cuts p tolerance controls i (suc n) =
    let here : cuts (tree_of p tolerance controls i) < 2 ^ finest = cuts-most (divisor p.basis) tolerance finest (piece 0 (controls_of p controls i 0) (controls_of p controls i 1)) in
    omega (arith, here, all-cuts p tolerance controls (suc i) n)

pub cuts-below : (p : Plan) (tolerance : ℕ) (controls : List ℤ) → cuts_of p tolerance controls ≤ most_cuts * p.spans
cuts-below p tolerance controls = all-cuts p tolerance controls 0 p.spans
