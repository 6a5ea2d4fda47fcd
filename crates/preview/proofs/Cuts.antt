-- One cut of exact doubles is the whole cut of curve's `left_half` and `right_half`, three powers of two further down: each midpoint is the exact half of an exact sum, and
-- a numerator may be scaled by a power of two.
use mathlib.Core.Path.{◌≡◌, sym, ap, ◌∙◌}
use mathlib.Core.List.{[], ◌∷◌}
use Prim.Native.Nat.{ℕ, suc, ◌+◌, ◌*◌, ◌^◌, ◌≤◌}
use native.Mathlib.Omega.{arith}
use lib.IntN.{ℤ, pos, nat_abs, ◌+ℤ◌, ◌*ℤ◌}
use Rattle.whole.proofs.Ring.{var, ◌⊗◌, solve}
use Rattle.whole.proofs.Fit.{nat_abs-add}
use Rattle.curve.specs.declared.Four.{Four}
use Rattle.curve.specs.Limits.{Inside}
use Rattle.curve.specs.Ways.{left_half, right_half}
use Rattle.doubles.specs.Exact.{dyadic}
use Rattle.doubles.specs.Midpoint.{mid}
use Rattle.doubles.proofs.Exact.{dyadic-mid, dyadic-scale}

-- the same value with 2^j times its numerator
raised : (z : ℤ) (j e f : ℕ) → e + j ≡ f → dyadic z e ≡ dyadic (pos (2 ^ j) *ℤ z) f
raised z j e f h =
    sym (dyadic-scale z j e)
    ∙ ap (λ x. dyadic x (e + j)) (solve (z ∷ pos (2 ^ j) ∷ []) (var 0 ⊗ var 1) (var 1 ⊗ var 0) tt)
    ∙ ap (dyadic (pos (2 ^ j) *ℤ z)) h

module _ (e n : ℕ) (q : Four) (inside : Inside n q) (small : 8 * n ≤ 2 ^ 53) (deep : e + 2 ≤ 1074) where
  -- midpoints of neighbours, of those, and of those again
  m-is : mid (dyadic q.a e) (dyadic q.b e) ≡ dyadic (q.a +ℤ q.b) (suc e)
  m-is = dyadic-mid q.a q.b e (omega (arith, inside.a)) (omega (arith, inside.b)) (omega (arith, nat_abs-add q.a q.b, inside.a, inside.b)) (omega arith)

  n-is : mid (dyadic q.b e) (dyadic q.c e) ≡ dyadic (q.b +ℤ q.c) (suc e)
  n-is = dyadic-mid q.b q.c e (omega (arith, inside.b)) (omega (arith, inside.c)) (omega (arith, nat_abs-add q.b q.c, inside.b, inside.c)) (omega arith)

  o_is : mid (dyadic q.c e) (dyadic q.d e) ≡ dyadic (q.c +ℤ q.d) (suc e)
  o_is = dyadic-mid q.c q.d e (omega (arith, inside.c)) (omega (arith, inside.d)) (omega (arith, nat_abs-add q.c q.d, inside.c, inside.d)) (omega arith)

  m-size : nat_abs (q.a +ℤ q.b) ≤ 2 * n
  m-size = omega (arith, nat_abs-add q.a q.b, inside.a, inside.b)

  n-size : nat_abs (q.b +ℤ q.c) ≤ 2 * n
  n-size = omega (arith, nat_abs-add q.b q.c, inside.b, inside.c)

  o-size : nat_abs (q.c +ℤ q.d) ≤ 2 * n
  o-size = omega (arith, nat_abs-add q.c q.d, inside.c, inside.d)

  u-size : nat_abs (q.a +ℤ q.b +ℤ (q.b +ℤ q.c)) ≤ 4 * n
  u-size = omega (arith, nat_abs-add (q.a +ℤ q.b) (q.b +ℤ q.c), m-size, n-size)

  v-size : nat_abs (q.b +ℤ q.c +ℤ (q.c +ℤ q.d)) ≤ 4 * n
  v-size = omega (arith, nat_abs-add (q.b +ℤ q.c) (q.c +ℤ q.d), n-size, o-size)

  u-is : mid (mid (dyadic q.a e) (dyadic q.b e)) (mid (dyadic q.b e) (dyadic q.c e)) ≡ dyadic (q.a +ℤ q.b +ℤ (q.b +ℤ q.c)) (suc (suc e))
  u-is = (λ k. mid (m-is k) (n-is k)) ∙ dyadic-mid (q.a +ℤ q.b) (q.b +ℤ q.c) (suc e) (omega (arith, m-size)) (omega (arith, n-size)) (omega (arith, u-size)) (omega arith)

  v-is : mid (mid (dyadic q.b e) (dyadic q.c e)) (mid (dyadic q.c e) (dyadic q.d e)) ≡ dyadic (q.b +ℤ q.c +ℤ (q.c +ℤ q.d)) (suc (suc e))
  v-is = (λ k. mid (n-is k) (o_is k)) ∙ dyadic-mid (q.b +ℤ q.c) (q.c +ℤ q.d) (suc e) (omega (arith, n-size)) (omega (arith, o-size)) (omega (arith, v-size)) (omega arith)

  -- the same as the controls of the halves, all over 2^(e + 3)
  pub left-a : dyadic q.a e ≡ dyadic (left_half q).a (e + 3)
  unfolding left_half
  left-a = raised q.a 3 e (e + 3) (omega arith)

  pub left-b : mid (dyadic q.a e) (dyadic q.b e) ≡ dyadic (left_half q).b (e + 3)
  unfolding left_half
  left-b = m-is ∙ raised (q.a +ℤ q.b) 2 (suc e) (e + 3) (omega arith)

  pub left-c : mid (mid (dyadic q.a e) (dyadic q.b e)) (mid (dyadic q.b e) (dyadic q.c e)) ≡ dyadic (left_half q).c (e + 3)
  unfolding left_half
  left-c = u-is ∙ raised (q.a +ℤ q.b +ℤ (q.b +ℤ q.c)) 1 (suc (suc e)) (e + 3) (omega arith)

  middle :
      mid (mid (mid (dyadic q.a e) (dyadic q.b e)) (mid (dyadic q.b e) (dyadic q.c e))) (mid (mid (dyadic q.b e) (dyadic q.c e)) (mid (dyadic q.c e) (dyadic q.d e)))
      ≡ dyadic (q.a +ℤ q.b +ℤ (q.b +ℤ q.c) +ℤ (q.b +ℤ q.c +ℤ (q.c +ℤ q.d))) (e + 3)
  middle =
      let three : suc (suc (suc e)) ≡ e + 3 = omega arith in
      let u = q.a +ℤ q.b +ℤ (q.b +ℤ q.c) in
      let v = q.b +ℤ q.c +ℤ (q.c +ℤ q.d) in
      (λ k. mid (u-is k) (v-is k))
      ∙ dyadic-mid u v (suc (suc e)) (omega (arith, u-size)) (omega (arith, v-size)) (omega (arith, nat_abs-add u v, u-size, v-size)) (omega arith)
      ∙ ap (dyadic (u +ℤ v)) three

  pub left-d :
      mid (mid (mid (dyadic q.a e) (dyadic q.b e)) (mid (dyadic q.b e) (dyadic q.c e))) (mid (mid (dyadic q.b e) (dyadic q.c e)) (mid (dyadic q.c e) (dyadic q.d e)))
      ≡ dyadic (left_half q).d (e + 3)
  unfolding left_half
  left-d = middle

  pub right-a :
      mid (mid (mid (dyadic q.a e) (dyadic q.b e)) (mid (dyadic q.b e) (dyadic q.c e))) (mid (mid (dyadic q.b e) (dyadic q.c e)) (mid (dyadic q.c e) (dyadic q.d e)))
      ≡ dyadic (right_half q).a (e + 3)
  unfolding right_half
  right-a = middle

  pub right-b : mid (mid (dyadic q.b e) (dyadic q.c e)) (mid (dyadic q.c e) (dyadic q.d e)) ≡ dyadic (right_half q).b (e + 3)
  unfolding right_half
  right-b = v-is ∙ raised (q.b +ℤ q.c +ℤ (q.c +ℤ q.d)) 1 (suc (suc e)) (e + 3) (omega arith)

  pub right-c : mid (dyadic q.c e) (dyadic q.d e) ≡ dyadic (right_half q).c (e + 3)
  unfolding right_half
  right-c = o_is ∙ raised (q.c +ℤ q.d) 2 (suc e) (e + 3) (omega arith)

  pub right-d : dyadic q.d e ≡ dyadic (right_half q).d (e + 3)
  unfolding right_half
  right-d = raised q.d 3 e (e + 3) (omega arith)
