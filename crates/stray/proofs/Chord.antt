-- The chord theorem for four controls, over any number n of steps and any number m of finer ones in each. With f and g the two second differences and u = j / m, the curve less the chord between
-- the points i and i + 1 is -u(1-u)((2-u)·e + (1+u)·e') / n^2, where e and e' are f and g mixed by i / n and by (i + 1) / n. Neither is larger than the larger of f and g, and u(1-u) is at most 1/4.
use mathlib.Core.Path.{◌≡◌, refl, sym, ap, ◌∙◌, subst}
use mathlib.Core.List.{[], ◌∷◌}
use Prim.Native.Nat.{ℕ, ◌+◌, ◌*◌, ◌-◌, ◌≤◌, ◌<◌}
use native.Mathlib.Nat.{le_refl, le_trans, le_of_eq, mul-le-mul, mul_assoc}
use native.Mathlib.Omega.{arith}
use lib.IntN.{ℤ, pos, negsuc, nat_abs, neg_ℤ, ◌+ℤ◌, ◌-ℤ◌, ◌*ℤ◌, +ℤ_idl}
use Rattle.whole.proofs.Ring.{var, ◌⊕◌, ◌⊖◌, ◌⊗◌, solve}
use Rattle.whole.proofs.Order.{pos-injective, pos-less}
use Rattle.whole.proofs.Fit.{ev-size, nat_abs-neg, nat_abs_mul}
use Rattle.curve.specs.declared.Four.{Four}
use Rattle.curve.specs.Bend.{bend, first_bend, last_bend}
use Rattle.curve.specs.Four.{dot}
use Rattle.curve.specs.Published.{weights}
use Rattle.curve.specs.Span.{weighted}
use Rattle.curve.proofs.Powers.{cube}
use Rattle.curve.proofs.Reflect.{p, num, weightedᵉ, first_bendᵉ, last_bendᵉ}
use Rattle.stray.specs.Chord.{off_chord}

-- how far the curve at step i·m + j of n·m is from the chord between its points i and i + 1 of n
abbrev pub off_curve : Four → ℕ → ℕ → ℕ → ℕ → ℤ
off_curve q i n j m = off_chord m j (pos (cube m) *ℤ weighted q (pos i) (pos n)) (pos (cube m) *ℤ weighted q (pos (i + 1)) (pos n)) (weighted q (pos (i * m + j)) (pos (n * m)))

-- ---- the identity

-- what the curve is less than the chord, over m·(n·m)^3: of the n steps `left` are left from point i on and `next` from the next one, and of the m finer ones `rest` are left from step j on
abbrev less : ℤ → ℤ → ℤ → ℤ → ℤ → ℤ → ℤ → ℤ → ℤ
less f g i left next m j rest = m *ℤ (j *ℤ rest) *ℤ ((m +ℤ rest) *ℤ (left *ℤ f +ℤ i *ℤ g) +ℤ (m +ℤ j) *ℤ (next *ℤ f +ℤ (i +ℤ pos 1) *ℤ g))

off-is : (q : Four) (i n j m : ℤ)
    → m *ℤ weighted q (i *ℤ m +ℤ j) (n *ℤ m) -ℤ ((m -ℤ j) *ℤ (m *ℤ m *ℤ m *ℤ weighted q i n) +ℤ j *ℤ (m *ℤ m *ℤ m *ℤ weighted q (i +ℤ pos 1) n))
    ≡ pos 0 -ℤ less (first_bend q) (last_bend q) i (n -ℤ i) (n -ℤ i -ℤ pos 1) m j (m -ℤ j)
unfolding weighted weights dot
off-is q x y z w =
    let i = var 4 in
    let n = var 5 in
    let j = var 6 in
    let m = var 7 in
    let f = first_bendᵉ p in
    let g = last_bendᵉ p in
    solve (q.a ∷ q.b ∷ q.c ∷ q.d ∷ x ∷ y ∷ z ∷ w ∷ [])
    (m ⊗ weightedᵉ p (i ⊗ m ⊕ j) (n ⊗ m) ⊖ ((m ⊖ j) ⊗ (m ⊗ m ⊗ m ⊗ weightedᵉ p i n) ⊕ j ⊗ (m ⊗ m ⊗ m ⊗ weightedᵉ p (i ⊕ num 1) n)))
    (num 0 ⊖ m ⊗ (j ⊗ (m ⊖ j)) ⊗ ((m ⊕ (m ⊖ j)) ⊗ ((n ⊖ i) ⊗ f ⊕ i ⊗ g) ⊕ (m ⊕ j) ⊗ ((n ⊖ i ⊖ num 1) ⊗ f ⊕ (i ⊕ num 1) ⊗ g))) tt

-- with m = j + u and n = i + 1 + v, so that all but f and g are natural numbers
module _ (f g : ℤ) (i v j u : ℕ) where
  abbrev lessened : ℤ
  lessened = less f g (pos i) (pos (1 + v)) (pos v) (pos (j + u)) (pos j) (pos u)

off-size : (q : Four) (i v j u : ℕ) → nat_abs (off_curve q i (i + 1 + v) j (j + u)) ≡ nat_abs (lessened (first_bend q) (last_bend q) i v j u)
unfolding cube
off-size q i v j u =
    let n = pos (i + 1 + v) in
    let m = pos (j + u) in
    let f = first_bend q in
    let g = last_bend q in
    let rest : m -ℤ pos j ≡ pos u = solve (pos j ∷ pos u ∷ []) (var 0 ⊕ var 1 ⊖ var 0) (var 1) tt in
    let left : n -ℤ pos i ≡ pos (1 + v) = solve (pos i ∷ pos v ∷ []) (var 0 ⊕ num 1 ⊕ var 1 ⊖ var 0) (num 1 ⊕ var 1) tt in
    let next : n -ℤ pos i -ℤ pos 1 ≡ pos v = solve (pos i ∷ pos v ∷ []) (var 0 ⊕ num 1 ⊕ var 1 ⊖ var 0 ⊖ num 1) (var 1) tt in
    let is : off_curve q i (i + 1 + v) j (j + u) ≡ pos 0 -ℤ lessened f g i v j u =
    ap (λ z. m *ℤ weighted q (pos i *ℤ m +ℤ pos j) (n *ℤ m) -ℤ (z *ℤ (m *ℤ m *ℤ m *ℤ weighted q (pos i) n) +ℤ pos j *ℤ (m *ℤ m *ℤ m *ℤ weighted q (pos (i + 1)) n))) (pos-less (j + u) j (omega arith))
    ∙ off-is q (pos i) n (pos j) m
    ∙ (λ x. pos 0 -ℤ less f g (pos i) (left x) (next x) m (pos j) (rest x)) in
    ap nat_abs (is ∙ +ℤ_idl (neg_ℤ (lessened f g i v j u))) ∙ nat_abs-neg (lessened f g i v j u)

-- ---- its size

-- j·u of m^2 is at most a quarter
square : (z : ℤ) → z *ℤ z ≡ pos (nat_abs z * nat_abs z)
square (pos n) = refl
square (negsuc n) = refl

four-times : (j u : ℕ) → 4 * (j * u) ≤ (j + u) * (j + u)
four-times j u =
    let d = pos j -ℤ pos u in
    let e : (j + u) * (j + u) ≡ 4 * (j * u) + nat_abs d * nat_abs d =
    pos-injective (solve (pos j ∷ pos u ∷ []) ((var 0 ⊕ var 1) ⊗ (var 0 ⊕ var 1)) (num 4 ⊗ (var 0 ⊗ var 1) ⊕ (var 0 ⊖ var 1) ⊗ (var 0 ⊖ var 1)) tt ∙ ap (λ z. pos (4 * (j * u)) +ℤ z) (square d)) in
    omega arith

-- second differences of size b mix to n·b at the most, and exactly where they are the same
module _ (b i v j u : ℕ) where
  abbrev n : ℕ
  n = i + 1 + v

  abbrev m : ℕ
  m = j + u

  mixed : (m + u) * ((1 + v) * b + i * b) + (m + j) * (v * b + (i + 1) * b) ≡ 3 * m * (n * b)
  mixed =
      let iᵉ = var 0 in
      let vᵉ = var 1 in
      let jᵉ = var 2 in
      let uᵉ = var 3 in
      let bᵉ = var 4 in
      pos-injective
      (solve (pos i ∷ pos v ∷ pos j ∷ pos u ∷ pos b ∷ [])
      ((jᵉ ⊕ uᵉ ⊕ uᵉ) ⊗ ((num 1 ⊕ vᵉ) ⊗ bᵉ ⊕ iᵉ ⊗ bᵉ) ⊕ (jᵉ ⊕ uᵉ ⊕ jᵉ) ⊗ (vᵉ ⊗ bᵉ ⊕ (iᵉ ⊕ num 1) ⊗ bᵉ))
      (num 3 ⊗ (jᵉ ⊕ uᵉ) ⊗ ((iᵉ ⊕ num 1 ⊕ vᵉ) ⊗ bᵉ)) tt)

  size-most : (f g : ℤ) → nat_abs f ≤ b → nat_abs g ≤ b → nat_abs (lessened f g i v j u) ≤ m * (j * u) * (3 * m * (n * b))
  size-most f g hf hg =
      let most = ev-size (f ∷ g ∷ []) (b ∷ b ∷ []) (hf, (hg, tt)) (num (m * (j * u)) ⊗ (num (m + u) ⊗ (num (1 + v) ⊗ var 0 ⊕ num i ⊗ var 1) ⊕ num (m + j) ⊗ (num v ⊗ var 0 ⊕ num (i + 1) ⊗ var 1))) in
      le_trans most (le_of_eq (ap (λ (k : ℕ). m * (j * u) * k) mixed))

  size-met : (f : ℤ) → nat_abs f ≡ b → nat_abs (lessened f f i v j u) ≡ m * (j * u) * (3 * m * (n * b))
  size-met f size =
      let times = m * (j * u) * (3 * m * n) in
      let iᵉ = var 0 in
      let vᵉ = var 1 in
      let jᵉ = var 2 in
      let uᵉ = var 3 in
      let fᵉ = var 4 in
      let mᵉ = jᵉ ⊕ uᵉ in
      let is : lessened f f i v j u ≡ pos times *ℤ f =
      solve (pos i ∷ pos v ∷ pos j ∷ pos u ∷ f ∷ [])
      (mᵉ ⊗ (jᵉ ⊗ uᵉ) ⊗ ((mᵉ ⊕ uᵉ) ⊗ ((num 1 ⊕ vᵉ) ⊗ fᵉ ⊕ iᵉ ⊗ fᵉ) ⊕ (mᵉ ⊕ jᵉ) ⊗ (vᵉ ⊗ fᵉ ⊕ (iᵉ ⊕ num 1) ⊗ fᵉ)))
      (mᵉ ⊗ (jᵉ ⊗ uᵉ) ⊗ (num 3 ⊗ mᵉ ⊗ (iᵉ ⊕ num 1 ⊕ vᵉ)) ⊗ fᵉ) tt in
      ap nat_abs is
      ∙ nat_abs_mul (pos times) f
      ∙ ap (λ (k : ℕ). times * k) size
      ∙ mul_assoc (m * (j * u)) (3 * m * n) b
      ∙ ap (λ (k : ℕ). m * (j * u) * k) (mul_assoc (3 * m) n b)

-- with a for j·u: four times a, times what is left; and with m^2 for that, the bound
module _ (n m a b : ℕ) where
  abbrev rest : ℕ
  rest = n * n * (m * (3 * m * (n * b)))

  four-apart : 4 * (n * n * (m * a * (3 * m * (n * b)))) ≡ 4 * a * rest
  four-apart =
      pos-injective
      (solve (pos n ∷ pos m ∷ pos a ∷ pos b ∷ []) (num 4 ⊗ (var 0 ⊗ var 0 ⊗ (var 1 ⊗ var 2 ⊗ (num 3 ⊗ var 1 ⊗ (var 0 ⊗ var 3))))) (num 4 ⊗ var 2 ⊗ (var 0 ⊗ var 0 ⊗ (var 1 ⊗ (num 3 ⊗ var 1 ⊗ (var 0 ⊗ var 3))))) tt)

  whole : m * m * rest ≡ 3 * b * (m * cube (n * m))
  unfolding cube
  whole =
      pos-injective
      (solve (pos n ∷ pos m ∷ pos b ∷ []) (var 1 ⊗ var 1 ⊗ (var 0 ⊗ var 0 ⊗ (var 1 ⊗ (num 3 ⊗ var 1 ⊗ (var 0 ⊗ var 2))))) (num 3 ⊗ var 2 ⊗ (var 1 ⊗ (var 0 ⊗ var 1 ⊗ (var 0 ⊗ var 1) ⊗ (var 0 ⊗ var 1)))) tt)

-- ---- the theorem

-- the curve is within the bound, and it meets it
abbrev Most : Four → ℕ → ℕ → ℕ → ℕ → Type 0
Most q i n j m = 4 * (n * n * nat_abs (off_curve q i n j m)) ≤ 3 * bend q * (m * cube (n * m))

abbrev Met : Four → ℕ → ℕ → ℕ → ℕ → Type 0
Met q i n j m = 4 * (n * n * nat_abs (off_curve q i n j m)) ≡ 3 * bend q * (m * cube (n * m))

most-by : (q : Four) (i v j u : ℕ) → Most q i (i + 1 + v) j (j + u)
unfolding bend
most-by q i v j u =
    let n = i + 1 + v in
    let m = j + u in
    let b = bend q in
    let size : nat_abs (off_curve q i n j m) ≤ m * (j * u) * (3 * m * (n * b)) = le_trans (le_of_eq (off-size q i v j u)) (size-most b i v j u (first_bend q) (last_bend q) (omega arith) (omega arith)) in
    le_trans (mul-le-mul (le_refl 4) (mul-le-mul (le_refl (n * n)) size))
    (le_trans (le_of_eq (four-apart n m (j * u) b)) (le_trans (mul-le-mul (four-times j u) (le_refl (rest n m (j * u) b))) (le_of_eq (whole n m (j * u) b))))

met_by : (q : Four) (i v j : ℕ) → first_bend q ≡ last_bend q → Met q i (i + 1 + v) j (j + j)
unfolding bend
met_by q i v j same =
    let n = i + 1 + v in
    let m = j + j in
    let b = bend q in
    let larger : nat_abs (first_bend q) ≡ b = omega (arith, ap nat_abs same) in
    let size : nat_abs (off_curve q i n j m) ≡ m * (j * j) * (3 * m * (n * b)) = off-size q i v j j ∙ ap (λ g. nat_abs (lessened (first_bend q) g i v j j)) (sym same) ∙ size-met b i v j j (first_bend q) larger in
    let quarter : 4 * (j * j) ≡ m * m = pos-injective (solve (pos j ∷ []) (num 4 ⊗ (var 0 ⊗ var 0)) ((var 0 ⊕ var 0) ⊗ (var 0 ⊕ var 0)) tt) in
    ap (λ (k : ℕ). 4 * (n * n * k)) size ∙ four-apart n m (j * j) b ∙ ap (λ (k : ℕ). k * rest n m (j * j) b) quarter ∙ whole n m (j * j) b

-- at most three quarters of the larger second difference over n^2, both sides times 4·n^2·m·(n·m)^3
pub chord-most : (q : Four) (i n j m : ℕ) → i < n → j ≤ m → Most q i n j m
chord-most q i n j m hi hj =
    let en : i + 1 + (n - (i + 1)) ≡ n = omega arith in
    let em : j + (m - j) ≡ m = omega arith in
    subst (λ (y : ℕ). Most q i y j m) en (subst (λ (w : ℕ). Most q i (i + 1 + (n - (i + 1))) j w) em (most-by q i (n - (i + 1)) j (m - j)))

-- met in the middle, where both second differences are the same
pub chord-met : (q : Four) (i n j : ℕ) → i < n → first_bend q ≡ last_bend q → Met q i n j (j + j)
chord-met q i n j hi same = let en : i + 1 + (n - (i + 1)) ≡ n = omega arith in subst (λ (y : ℕ). Met q i y j (j + j)) en (met_by q i (n - (i + 1)) j same)
