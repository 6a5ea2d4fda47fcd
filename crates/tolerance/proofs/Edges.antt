-- Which spans can be cut flat by the finest level: exactly those whose larger second difference is at most 4096 times what a flat piece's may be, on both axes. And a straight edge of a drawing, A, A, B, B.
use mathlib.Core.Path.{◌≡◌, ap, ◌∙◌}
use mathlib.Core.List.{List, [], ◌∷◌}
use mathlib.Core.Logic.{◌↔◌}
use Prim.Native.Nat.{ℕ, ◌*◌, ◌^◌, ◌≤◌}
use native.Mathlib.Omega.{arith}
use lib.IntN.{ℤ, pos, negsuc, nat_abs, ◌-ℤ◌}
use Rattle.whole.proofs.Ring.{var, lit, ◌⊕◌, ◌⊖◌, ◌⊗◌, solve}
use Rattle.whole.proofs.Fit.{nat_abs_mul}
use Rattle.curve.specs.declared.Basis.TheVariants.{Bezier}
use Rattle.curve.specs.Bend.{bend, first_bend, last_bend}
use Rattle.curve.specs.Four.{four}
use Rattle.curve.specs.Span.{coordinate, fold, divisor, records, whole_controls}
use Rattle.curve.proofs.Reflect.{num}
use Rattle.shape.specs.declared.Plan.{Plan}
use Rattle.pieces.specs.Tree.{finest, piece, Sound}
use Rattle.pieces.proofs.Deep.{within-sound, sound-within}
use Rattle.tolerance.specs.Reading.{controls_of, tree_of}

pub sound-exactly : (p : Plan) (tolerance : ℕ) (controls : List ℤ) (t : ℕ)
    → Sound (tree_of p tolerance controls t) ↔ ((3 * bend (controls_of p controls t 0) ≤ 4 * (tolerance * (divisor p.basis 0 * 4 ^ finest))) × (3 * bend (controls_of p controls t 1) ≤ 4 * (tolerance * (divisor p.basis 0 * 4 ^ finest))))
unfolding tree_of
sound-exactly p tolerance controls t =
    let span = piece 0 (controls_of p controls t 0) (controls_of p controls t 1) in
    ((λ s. let w = sound-within p.basis tolerance finest span s in (w.on-x, w.on-y)), (λ w. within-sound p.basis tolerance finest span (record { on-x = w.0; on-y = w.1 })))

-- ---- a straight edge

-- its second differences are the way from A to B and back
line-bend : (a b : ℤ) → bend (whole_controls Bezier (four a a b b)) ≡ 6 * nat_abs (b -ℤ a)
unfolding bend whole_controls
line-bend a b =
    let q = whole_controls Bezier (four a a b b) in
    let there : nat_abs (first_bend q) ≡ 6 * nat_abs (b -ℤ a) =
    ap nat_abs (solve (a ∷ b ∷ []) (num 6 ⊗ var 0 ⊖ num 2 ⊗ (num 6 ⊗ var 0) ⊕ num 6 ⊗ var 1) (num 6 ⊗ (var 1 ⊖ var 0)) tt) ∙ nat_abs_mul (pos 6) (b -ℤ a) in
    let back : nat_abs (last_bend q) ≡ 6 * nat_abs (b -ℤ a) =
    ap nat_abs (solve (a ∷ b ∷ []) (num 6 ⊗ var 0 ⊖ num 2 ⊗ (num 6 ⊗ var 1) ⊕ num 6 ⊗ var 1) (lit (negsuc 5) ⊗ (var 1 ⊖ var 0)) tt) ∙ nat_abs_mul (negsuc 5) (b -ℤ a) in
    omega (arith, there, back)

-- An edge is cut by its length: it can be cut flat exactly where three times that is at most 4 · 4^6, 16,384, times the tolerance, on each axis.
pub line-exactly : (p : Plan) (tolerance : ℕ) (controls : List ℤ) (t : ℕ) (ax bx ay by : ℤ)
    → p.basis ≡ Bezier
    → records p.basis t (coordinate controls 0) ≡ four ax ax bx bx
    → records p.basis t (coordinate controls 1) ≡ four ay ay by by
    → Sound (tree_of p tolerance controls t) ↔ ((3 * nat_abs (bx -ℤ ax) ≤ 4 * 4 ^ finest * tolerance) × (3 * nat_abs (by -ℤ ay) ≤ 4 * 4 ^ finest * tolerance))
line-exactly p tolerance controls t ax bx ay by b ex ey =
    let x : bend (controls_of p controls t 0) ≡ 6 * nat_abs (bx -ℤ ax) = (λ i. bend (whole_controls (b i) (ex i))) ∙ line-bend ax bx in
    let y : bend (controls_of p controls t 1) ≡ 6 * nat_abs (by -ℤ ay) = (λ i. bend (whole_controls (b i) (ey i))) ∙ line-bend ay by in
    let six : fold p.basis ≡ 6 = ap fold b in
    let over : tolerance * (divisor p.basis 0 * 4 ^ finest) ≡ tolerance * (6 * 4 ^ finest) = ap (λ (n : ℕ). tolerance * (n * 1 * 4 ^ finest)) six in
    let span = sound-exactly p tolerance controls t in
    ((λ s. let w = span.0 s in (omega (arith, x, over, w.0), omega (arith, y, over, w.1))), (λ w. span.1 (omega (arith, x, over, w.0), omega (arith, y, over, w.1))))
