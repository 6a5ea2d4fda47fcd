-- A number that is not fresh is what the same number of the old span held: no span that has it among its points is in the run, so its own span and the next one are on the same side of the place.
use mathlib.Core.Path.{◌≡◌, sym, ap, ◌∙◌}
use mathlib.Core.Bool.{true, false, cond}
use mathlib.Core.Logic.{⊎_elim, inl}
use mathlib.Core.List.{List}
use Prim.Native.Nat.{ℕ, ◌+◌, ◌*◌, ◌-◌, ◌/◌, min, ◌≤◌, ◌<◌}
use native.Mathlib.Nat.{mul-le-mul_right, div-lt_iff_lt-mul, le-div_iff_mul-le, div-mul-le_self, lt-div-mul-add, min-le_left, min-le_right}
use native.Mathlib.Omega.{arith}
use borrow.Author.Tests.{lt-ltb, le-ltb}
use lib.Dec.{ltb}
use lib.IntN.{ℤ, pos}
use lib.ListN.{get_or, length}
use lib.Pow.{pow_pos}
use Rattle.curve.specs.Span.{is_loop, record_at}
use Rattle.shape.specs.declared.Plan.{Plan}
use Rattle.shape.specs.Inner.{RunsRound}
use Rattle.shape.proofs.Spans.{record-below}
use Rattle.shape.proofs.Tests.{either, true-is-not-false}
use Rattle.spans.specs.Numbers.{per_span}
use Rattle.spans.proofs.Numbers.{per-span}
use Rattle.asked.specs.declared.Edit.{Edit}
use Rattle.asked.specs.declared.Edit.TheVariants.{Move, Insert, Remove}
use Rattle.asked.specs.Edits.{offered, run_of, carried_from, is_fresh, point_at}
use Rattle.asked.proofs.Runs.{cond_same}
use Rattle.asked.proofs.Splines.{spline-first}
use Rattle.asked.proofs.Fresh.{next-span}
use Rattle.edit.proofs.Worked as worked
use Rattle.sequences.specs.Touched.{Touched, Among, old_span}
use Rattle.sequences.proofs.Touched.{AtPlace, run-touched, held-fresh}

-- ---- the old span that span t holds: before the place its own, and from there on the one that is carried there

pub old-early : (e : Edit) (j t : ℕ) → t < j → old_span e j t ≡ t
old-early e j t early = simp (lt-ltb t j early)

pub old-late : (e : Edit) (j t : ℕ) → j ≤ t → old_span e j t ≡ carried_from e 1 t
old-late e j t late = simp (le-ltb t j late)

-- ---- the span that number q of m spans belongs to

module _ (k m q : ℕ) (some : 1 ≤ m) (h : q < m * per_span k + 2) where
  abbrev w : ℕ
  w = per_span k

  abbrev owner : ℕ
  owner = min (q / w) (m - 1)

  owner-exists : owner < m
  owner-exists = omega (arith, min-le_right (q / w) (m - 1))

  starts : owner * w ≤ q
  starts = omega (arith, mul-le-mul_right {m = owner} {n = q / w} w (min-le_left (q / w) (m - 1)), div-mul-le_self q w)

  ends : q < owner * w + w + 2
  ends =
      ⊎_elim (λ (g : q / w < m). let is : owner ≡ q / w = omega arith in omega (arith, ap (λ (n : ℕ). n * w) is, lt-div-mul-add {a = q} {b = w} (omega (arith, pow_pos k))))
      (λ (g : m ≤ q / w). let is : owner + 1 ≡ m = omega arith in omega (arith, next-span owner w, ap (λ (n : ℕ). n * w) is))
      (either (q / w) m)

  pub in-some-span : (t : ℕ) × (i : ℕ) × (t < m) × (i < w + 2) × (q ≡ t * w + i)
  in-some-span = (owner, q - owner * w, owner-exists, omega (arith, starts, ends), omega (arith, starts))

-- and span t has number i of its own
pub span-has : (p : Plan) (t i : ℕ) → i < per_span p.depth + 2 → Among p t (t * per_span p.depth + i)
span-has p t i few = inl (omega (arith, per-span t p.depth), omega (arith, per-span (t + 1) p.depth, next-span t (per_span p.depth)))

-- ---- the spans at the place are touched: the one that begins there by an insert, and the one before by an insert or a remove

module _ (p : Plan) (j t : ℕ) (round : RunsRound p.basis p.spans) where
  inserted : (x y : ℤ) (i : ℕ) → offered (Insert x y) p.basis ≡ true → (is_loop p.basis ≡ true → AtPlace (Insert x y) j p.spans) → i < 4 → t + i ≡ j → Touched (Insert x y) p.basis j t
  inserted x y i o at few is =
      (i, few, ap (λ (n : ℕ). record_at p.basis (n + i)) (spline-first p.basis o t) ∙ ap (record_at p.basis) is ∙ record-below p.basis p.spans round j at)

  removed : offered Remove p.basis ≡ true → t + 1 ≡ j → Touched Remove p.basis j t
  removed o is = (0, omega arith, ap (λ (n : ℕ). record_at p.basis (n + (0 + 1))) (spline-first p.basis o t) ∙ ap (record_at p.basis) is)

-- ---- a number that is not fresh

-- Number i of span t, of the plan that an edit leaves, with `lent` whatever stood there.
module _ (e : Edit) (p : Plan) (j : ℕ) (o : offered e p.basis ≡ true) (round : RunsRound p.basis p.spans) (at : is_loop p.basis ≡ true → AtPlace e j p.spans)
    (c lent : List ℤ) (some : 1 ≤ p.spans) (room : p.spans * per_span p.depth + 2 ≤ length lent)
    (t i : ℕ) (h : t < p.spans) (few : i < per_span p.depth + 2) where
  abbrev k : ℕ
  k = p.depth

  abbrev m : ℕ
  m = p.spans

  abbrev q : ℕ
  q = t * per_span k + i

  within : q < m * per_span k + 2
  within = omega (arith, next-span t (per_span k), mul-le-mul_right {m = t + 1} {n = m} (per_span k) (omega arith))

  -- its span is t, or the next one where it is their joint
  abbrev owned : ℕ
  owned = owner k m q some within

  wide : 0 < per_span k
  wide = omega (arith, pow_pos k)

  from : t ≤ owned
  from = let low : t ≤ q / per_span k = (le-div_iff_mul-le {k = per_span k} {x = t} {y = q} wide).1 (omega arith) in omega arith

  to : owned ≤ t + 1
  to =
      let next = next-span (t + 1) (per_span k) in
      let high : q / per_span k < t + 1 + 1 = (div-lt_iff_lt-mul {k = per_span k} {x = q} {y = t + 1 + 1} wide).1 (omega (arith, next-span t (per_span k), next, pow_pos k)) in
      omega (arith, min-le_left (q / per_span k) (m - 1))

  -- a span that has it among its points is not touched
  pub not-touched : is_fresh (run_of e p j) p q ≡ false → Touched e p.basis j t → ⊥
  not-touched stale touched =
      true-is-not-false ((held-fresh p q some within (run_of e p j)).0 (t, (run-touched e p j o round at t).1 (h, touched), span-has p t i few)) stale

-- what the edit makes of it
module _ (p : Plan) (j : ℕ) (round : RunsRound p.basis p.spans) (c lent : List ℤ) (some : 1 ≤ p.spans) (room : p.spans * per_span p.depth + 2 ≤ length lent)
    (t i : ℕ) (h : t < p.spans) (few : i < per_span p.depth + 2) where
  abbrev w' : ℕ
  w' = per_span p.depth

  abbrev at_place : ℕ
  at_place = t * w' + i

  abbrev Comes : Edit → Type 0
  Comes e = (offered e p.basis ≡ true) → (is_loop p.basis ≡ true → AtPlace e j p.spans) → is_fresh (run_of e p j) p at_place ≡ false
      → point_at e p j c lent at_place ≡ get_or lent (old_span e j t * w' + i) (pos 0)

  -- where it is not fresh it is number i of the old span
  pub stale-at : (e : Edit) → Comes e
  stale-at (Move x y) o at stale =
      worked.stale-at (Move x y) p j c lent round some room at_place stale
      ∙ cond_same (ltb (min (at_place / w') (p.spans - 1)) j) (get_or lent at_place (pos 0))
      ∙ ap (λ (n : ℕ). get_or lent (n * w' + i) (pos 0)) (sym (cond_same (ltb t j) t))
  stale-at (Insert x y) o at stale =
      let e = Insert x y in
      let not = not-touched e p j o round at c lent some room t i h few stale in
      let low = from e p j o round at c lent some room t i h few in
      let high = to e p j o round at c lent some room t i h few in
      let span = min (at_place / w') (p.spans - 1) in
      worked.stale-at e p j c lent round some room at_place stale
      ∙ ⊎_elim
      (λ (early : t < j).
      let before : span < j = ⊎_elim (λ (l : span < j). l) (λ (l : j ≤ span). absurd (not (inserted p j t round x y 1 o at (omega arith) (omega (arith, l, high))))) (either span j) in
      ap (λ v. cond v (get_or lent at_place (pos 0)) (get_or lent (at_place - w') (pos 0))) (lt-ltb span j before)
      ∙ ap (λ (n : ℕ). get_or lent (n * w' + i) (pos 0)) (sym (old-early e j t early)))
      (λ (late : j ≤ t).
      let past : j < t = ⊎_elim (λ (l : j < t). l) (λ (l : t ≤ j). absurd (not (inserted p j t round x y 0 o at (omega arith) (omega arith)))) (either j t) in
      let one : t - 1 + 1 ≡ t = omega arith in
      let back : at_place - w' ≡ (t - 1) * w' + i = omega (arith, next-span (t - 1) w', ap (λ (n : ℕ). n * w') one) in
      ap (λ v. cond v (get_or lent at_place (pos 0)) (get_or lent (at_place - w') (pos 0))) (le-ltb span j (omega (arith, low)))
      ∙ ap (λ (n : ℕ). get_or lent n (pos 0)) back
      ∙ ap (λ (n : ℕ). get_or lent (n * w' + i) (pos 0)) (sym (old-late e j t late)))
      (either t j)
  stale-at Remove o at stale =
      let not = not-touched Remove p j o round at c lent some room t i h few stale in
      let low = from Remove p j o round at c lent some room t i h few in
      let high = to Remove p j o round at c lent some room t i h few in
      let span = min (at_place / w') (p.spans - 1) in
      worked.stale-at Remove p j c lent round some room at_place stale
      ∙ ⊎_elim
      (λ (early : t < j).
      let before : span < j = ⊎_elim (λ (l : span < j). l) (λ (l : j ≤ span). absurd (not (removed p j t round o (omega (arith, l, high))))) (either span j) in
      ap (λ v. cond v (get_or lent at_place (pos 0)) (get_or lent (at_place + w') (pos 0))) (lt-ltb span j before)
      ∙ ap (λ (n : ℕ). get_or lent (n * w' + i) (pos 0)) (sym (old-early Remove j t early)))
      (λ (late : j ≤ t).
      let on : at_place + w' ≡ (t + 1) * w' + i = omega (arith, next-span t w') in
      ap (λ v. cond v (get_or lent at_place (pos 0)) (get_or lent (at_place + w') (pos 0))) (le-ltb span j (omega (arith, low)))
      ∙ ap (λ (n : ℕ). get_or lent n (pos 0)) on
      ∙ ap (λ (n : ℕ). get_or lent (n * w' + i) (pos 0)) (sym (old-late Remove j t late)))
      (either t j)
