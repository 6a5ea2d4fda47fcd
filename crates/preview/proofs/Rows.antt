-- The preview's table after the shape's rows: row 4 decides, or leaves the rest to the rows of the lent lists. The last record of a sound shape of basis 1
-- is where a next span would start, so what those rows find is what drawing needs.
use Rattle.std.specs.Prelude.{Err, Ok}
use mathlib.Core.Path.{◌≡◌, refl, sym, ap, ◌∙◌}
use mathlib.Core.List.{List, [], ◌∷◌}
use mathlib.Core.Logic.{inl}
use Prim.Native.Nat.{ℕ, ◌+◌, ◌<◌}
use native.Mathlib.Omega.{arith}
use borrow.Author.Tests.{eq-eqb, ne_eqb}
use lib.IntN.{ℤ}
use lib.Ieee.{Float}
use lib.ListN.{length}
use lib.Seq.{sets}
use Rattle.whole.specs.Outcome.{outcome, refuses}
use Rattle.curve.specs.declared.Basis.TheVariants.{Bezier}
use Rattle.curve.specs.Limits.{Inside, limit}
use Rattle.curve.specs.Span.{first_record}
use Rattle.shape.specs.declared.Shape.{Shape}
use Rattle.shape.specs.declared.Plan.{Plan}
use Rattle.shape.specs.declared.Refusal.{Refusal}
use Rattle.shape.specs.Shape.{basis_of, records_of, points_of}
use Rattle.shape.specs.Refusals.{judge, judge_lists, list_rows}
use Rattle.shape.specs.Inner.{Good, Lent}
use Rattle.shape.proofs.Refusals.{judge-first, judge-none, judge-append, bad-first, fine-none, lent-inside}
use Rattle.shape.proofs.Spans.{records-first}
use Rattle.preview.specs.Halving.{halved}
use Rattle.preview.specs.Preview.{bezier_row, later_rows, accepts}
use Rattle.preview.proofs.Spans.{records-before}
use Rattle.preview.proofs.Numbers.{plain, halved_is}

module _ (s : Shape) (p : Plan) (controls : List ℤ) (points : List Float) where
  abbrev count : ℕ
  count = points_of p.depth p.spans

  pub not-offered : (s.basis ≡ 1 → ⊥) → refuses Err points (record { number = 4; place = 0 }) ≡ judge (later_rows s p controls (length points)) (refuses Err points) (accepts p controls points)
  not-offered h =
      sym (judge-first (later_rows s p controls (length points)) (refuses Err points) (accepts p controls points) (record { number = 4; place = 0 }) (inl (simp (ne_eqb s.basis 1 h), refl)))

  -- basis 1: the rows of the lists are left
  offered : s.basis ≡ 1 → judge (later_rows s p controls (length points)) (refuses Err points) (accepts p controls points) ≡ judge (list_rows s.count controls count (length points)) (refuses Err points) (accepts p controls points)
  offered e =
      let rest = list_rows s.count controls count (length points) in
      judge-append (bezier_row s ∷ []) rest (refuses Err points) (accepts p controls points)
      ∙ judge-none (bezier_row s ∷ []) (refuses Err points) (judge rest (refuses Err points) (accepts p controls points)) (simp (eq-eqb s.basis 1 e), tt)

  pub lists-fail : s.basis ≡ 1 → (n : ℕ) → n ≡ count → (r : Refusal) → judge_lists s.count controls n (length points) ≡ Err r
      → refuses Err points r ≡ judge (later_rows s p controls (length points)) (refuses Err points) (accepts p controls points)
  lists-fail e n c r f =
      let g = ap (λ (i : ℕ). judge_lists s.count controls i (length points)) (sym c) ∙ f in
      sym
      (offered e
      ∙ judge-first (list_rows s.count controls count (length points)) (refuses Err points) (accepts p controls points) r (bad-first s.count controls count (length points) r g))

  pub lists-pass : s.basis ≡ 1 → (n : ℕ) → n ≡ count → judge_lists s.count controls n (length points) ≡ Ok tt
      → accepts p controls points ≡ judge (later_rows s p controls (length points)) (refuses Err points) (accepts p controls points)
  lists-pass e n c f =
      let g = ap (λ (i : ℕ). judge_lists s.count controls i (length points)) (sym c) ∙ f in
      sym (offered e ∙ judge-none (list_rows s.count controls count (length points)) (refuses Err points) (accepts p controls points) (fine-none s.count controls count (length points) g))

  -- ---- what drawing needs

  module _ (good : Good s p) (e : s.basis ≡ 1) where
    pub bezier-count : first_record Bezier p.spans + 1 ≡ s.count
    unfolding basis_of
    bezier-count = sym (records-first Bezier p.spans) ∙ ap (λ (n : ℕ). records_of (basis_of n s.parameter s.count) p.spans) (sym e) ∙ ap (λ b. records_of b p.spans) (sym good.basis) ∙ good.records

    pub bezier-inside : (n len : ℕ) → Lent s.count controls n len → (t axis : ℕ) → t < p.spans → axis < 2 → Inside limit (plain p.depth p.spans controls t axis)
    bezier-inside n len lent t axis h a = lent-inside s.count controls n len lent Bezier t axis a (λ i few. omega (arith, bezier-count, records-before t p.spans h))

    pub drawn-is : (n len : ℕ) → Lent s.count controls n len → (r : ℕ) → r ≡ count → (l : List Float) → l ≡ sets points 0 (halved controls p.depth 0 p.spans) → outcome (Ok r) l ≡ accepts p controls points
    drawn-is n len lent r c l f =
        let g = f ∙ ap (sets points 0) (halved_is p.depth p.spans controls good.depth-most (bezier-inside n len lent) good.spans-least) in
        λ k. outcome (Ok (c k)) (g k)
