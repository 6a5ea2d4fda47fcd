-- The spans of an edit's run are exactly those that it touches: in an open outline by two bounds, by the stride; in a loop by counting round. And the fresh numbers are exactly those that a span
-- of the run has among its points.
use mathlib.Core.Path.{◌≡◌, refl, sym, ap, ◌∙◌, subst}
use mathlib.Core.Bool.{true, false, cond}
use mathlib.Core.Logic.{◌⊎◌, inl, inr, ⊎_elim, ◌↔◌}
use Prim.Native.Nat.{ℕ, ◌+◌, ◌*◌, ◌-◌, ◌/◌, ◌^◌, min, ◌≤◌, ◌<◌}
use native.Mathlib.Nat.{zero-mul, mul-le-mul_right, le-div_iff_mul-le, div-mul-le_self, lt-div-mul-add, min-le_right}
use native.Mathlib.Omega.{arith}
use borrow.Author.Tests.{ltb-true, lt-ltb}
use lib.Pow.{pow_pos}
use Rattle.curve.specs.declared.Basis.{Basis}
use Rattle.curve.specs.declared.Basis.TheVariants.{Loop}
use Rattle.curve.specs.Span.{first_record, round_end, is_loop}
use Rattle.curve.proofs.Round.{by-round, round-below, round-past, round-within, record-open, loop-first}
use Rattle.shape.specs.declared.Plan.{Plan}
use Rattle.shape.specs.Inner.{RunsRound}
use Rattle.shape.specs.Shape.{least_records}
use Rattle.shape.proofs.Spans.{among_first, begins-past, runs-least, loop-is}
use Rattle.shape.proofs.Tests.{passes, either, true-is-not-false}
use Rattle.spans.specs.Numbers.{per_span}
use Rattle.spans.proofs.Numbers.{per-span}
use Rattle.asked.specs.declared.Run.{Run}
use Rattle.asked.specs.declared.Edit.{Edit}
use Rattle.asked.specs.declared.Edit.TheVariants.{Move, Insert, Remove}
use Rattle.asked.specs.Edits.{offered, first_fresh, past_fresh, clipped, count_round, run_round, run_of, in_run, span_in, span_before, is_fresh}
use Rattle.asked.proofs.Controls.{Beyond}
use Rattle.asked.proofs.Splines.{spline-first}
use Rattle.asked.proofs.Runs.{run-open, run-loop, clipped-none, clipped-most, clipped-spans, past-most}
use Rattle.asked.proofs.Fresh.{t, r, placed, wide, short, last, next-span, starts, ends, fresh-by, by-fresh}
use Rattle.sequences.specs.Touched.{record_in, Touched, Among}

-- ---- an open outline: the bounds of the run, by the records of a span

-- what is below the one exactly when the other is: what is not, likewise
not-below : {a b c d : ℕ} → ((a < b) ↔ (c < d)) → (b ≤ a) ↔ (d ≤ c)
not-below {a} {b} {c} {d} (to, from) = (
  (λ h. ⊎_elim (λ below. absurd (omega (arith, from below))) (λ past. past) (either c d)),
  (λ h. ⊎_elim (λ below. absurd (omega (arith, to below))) (λ past. past) (either a b)),
)

-- a span is not before the run exactly when the place is not past its last record
first-bound : (e : Edit) (p : Plan) (j t : ℕ) → is_loop p.basis ≡ false → offered e p.basis ≡ true → (first_fresh e p j ≤ t) ↔ (j ≤ first_record p.basis t + 3)
first-bound (Move x y) p j t ends o = not-below (among_first p.basis ends j t)
first-bound (Insert x y) p j t ends o = (omega (arith, spline-first p.basis o t), omega (arith, spline-first p.basis o t))
first-bound Remove p j t ends o = (omega (arith, spline-first p.basis o t), omega (arith, spline-first p.basis o t))

-- and it is past the run exactly when its first record is past the place
past_bound : (e : Edit) (p : Plan) (j t : ℕ) → offered e p.basis ≡ true → t < p.spans → (past_fresh e p j ≤ t) ↔ Beyond e j (first_record p.basis t)
past_bound (Move x y) p j t o h =
    let (to, from) = begins-past p.basis j t in
    ((λ past. to (omega arith)), (λ past. let last = from past in omega (arith, last)))
past_bound (Insert x y) p j t o h = (omega (arith, spline-first p.basis o t), omega (arith, spline-first p.basis o t))
past_bound Remove p j t o h = (omega (arith, spline-first p.basis o t), omega (arith, spline-first p.basis o t))

-- a span is touched where its first record is not past the place, nor the place past its last
pub not-past : (e : Edit) (b : Basis) (j t : ℕ) → is_loop b ≡ false → (Beyond e j (first_record b t) → ⊥) → j ≤ first_record b t + 3 → Touched e b j t
not-past (Move x y) b j t ends not high =
    let low : first_record b t ≤ j = ⊎_elim (λ past. absurd (not past)) (λ low. low) (either j (first_record b t)) in
    (j - first_record b t, omega arith, record-open b ends (first_record b t + (j - first_record b t)) ∙ omega arith)
not-past (Insert x y) b j t ends not high =
    let low : first_record b t ≤ j = ⊎_elim (λ past. absurd (not past)) (λ low. low) (either j (first_record b t)) in
    (j - first_record b t, omega arith, record-open b ends (first_record b t + (j - first_record b t)) ∙ omega arith)
not-past Remove b j t ends not high =
    let low : first_record b t < j = ⊎_elim (λ low. low) (λ past. absurd (not past)) (either (first_record b t) j) in
    let i = j - first_record b t - 1 in
    (i, omega arith, record-open b ends (first_record b t + (i + 1)) ∙ omega arith ∙ sym (record-open b ends j))

past-not : (e : Edit) (b : Basis) (j t : ℕ) → is_loop b ≡ false → Touched e b j t → (Beyond e j (first_record b t) → ⊥) × (j ≤ first_record b t + 3)
past-not (Move x y) b j t ends (i, few, is) = let here = sym (record-open b ends (first_record b t + i)) ∙ is in (omega (arith, here), omega (arith, here))
past-not (Insert x y) b j t ends (i, few, is) = let here = sym (record-open b ends (first_record b t + i)) ∙ is in (omega (arith, here), omega (arith, here))
past-not Remove b j t ends (i, few, is) = let here = sym (record-open b ends (first_record b t + (i + 1))) ∙ is ∙ record-open b ends j in (omega (arith, here), omega (arith, here))

-- ---- a loop: counting round from three before the place

module _ (m j t : ℕ) (least : least_records ≤ m) (here : t < m) (range : j ≤ m) where
  -- how far on the span is
  abbrev distance : ℕ
  distance = round_end m (t + m - round_end m (j + m - 3))

  -- two numbers counted round, and the distance, by their cases
  alike : (x : ℕ) → (x < m → j < m → x ≡ j) → (x < m → m ≤ j → x ≡ j - m) → (m ≤ x → j < m → x - m ≡ j) → (m ≤ x → m ≤ j → x - m ≡ j - m) → round_end m x ≡ round_end m j
  alike x f g h k =
      by-round (λ u. u ≡ round_end m j) m x (λ a. by-round (λ v. x ≡ v) m j (f a) (g a)) (λ a. by-round (λ v. x - m ≡ v) m j (h a) (k a))

  by-distance : (P : ℕ → Type 0)
      → ((d : ℕ) → d < m → d + j ≡ t + 3 → P d)
      → ((d : ℕ) → d < m → d + j + m ≡ t + 3 → P d)
      → ((d : ℕ) → d < m → d + j ≡ t + m + 3 → P d)
      → P distance
  by-distance P same less more =
      by-round (λ s. P (round_end m (t + m - s))) m (j + m - 3)
      (λ a. by-round P m (t + m - (j + m - 3)) (λ b. same (t + m - (j + m - 3)) b (omega arith)) (λ b. less (t + m - (j + m - 3) - m) (omega arith) (omega arith)))
      (λ a.
      let back : j + m - 3 - m ≡ j - 3 = omega arith in
      subst (λ (f : ℕ). P (round_end m (t + m - f))) (sym back)
      (by-round P m (t + m - (j - 3)) (λ b. more (t + m - (j - 3)) b (omega arith)) (λ b. same (t + m - (j - 3) - m) (omega arith) (omega arith))))

  -- and so which of its records the place is
  pub distance-record : distance ≤ 3 → round_end m (t + (3 - distance)) ≡ round_end m j
  distance-record =
      by-distance (λ d. d ≤ 3 → round_end m (t + (3 - d)) ≡ round_end m j)
      (λ d few is near. alike (t + (3 - d)) (omega arith) (omega arith) (omega arith) (omega arith))
      (λ d few is near. alike (t + (3 - d)) (omega arith) (omega arith) (omega arith) (omega arith))
      (λ d few is near. alike (t + (3 - d)) (omega arith) (omega arith) (omega arith) (omega arith))

  pub record-distance : (i : ℕ) → i < 4 → round_end m (t + i) ≡ round_end m j → distance ≡ 3 - i
  record-distance i few =
      by-round (λ u. u ≡ round_end m j → distance ≡ 3 - i) m (t + i)
      (λ a. by-round (λ v. t + i ≡ v → distance ≡ 3 - i) m j
      (λ b is. by-distance (λ d. d ≡ 3 - i) (omega arith) (omega arith) (omega arith))
      (λ b is. by-distance (λ d. d ≡ 3 - i) (omega arith) (omega arith) (omega arith)))
      (λ a. by-round (λ v. t + i - m ≡ v → distance ≡ 3 - i) m j
      (λ b is. by-distance (λ d. d ≡ 3 - i) (omega arith) (omega arith) (omega arith))
      (λ b is. by-distance (λ d. d ≡ 3 - i) (omega arith) (omega arith) (omega arith)))

-- The place of a move or an insert is a record of the new shape; that of a remove may be past its last.
abbrev pub AtPlace : Edit → ℕ → ℕ → Type 0
AtPlace (Move x y) j n = j < n
AtPlace (Insert x y) j n = j < n
AtPlace Remove j n = j ≤ n

place-most : (e : Edit) (j n : ℕ) → AtPlace e j n → j ≤ n
place-most (Move x y) j n h = omega arith
place-most (Insert x y) j n h = omega arith
place-most Remove j n h = h

-- one of its four is the record at the place
has-record : (m j t : ℕ) (least : least_records ≤ m) (here : t < m) → j < m → (round_end m (t + m - round_end m (j + m - 3)) < 4) ↔ ((i : ℕ) × (i < 4) × (record_in (Loop m) t i ≡ j))
has-record m j t least here range =
    let most : j ≤ m = omega arith in
    let d = distance m j t least here most in (
      (λ near. (3 - d, omega arith, ap (λ (n : ℕ). round_end m (n + (3 - d))) (loop-first m t) ∙ distance-record m j t least here most (omega (arith, near)) ∙ round-below m j range)),
      (λ (i, few, is). omega (arith, record-distance m j t least here most i few (ap (λ (n : ℕ). round_end m (n + i)) (sym (loop-first m t)) ∙ is ∙ sym (round-below m j range)))),
    )

-- a loop's span is in the run exactly where it is touched
round-touched : (e : Edit) (m j t : ℕ) → least_records ≤ m → t < m → AtPlace e j m
    → (round_end m (t + m - (run_round e m j).first) < (run_round e m j).count) ↔ Touched e (Loop m) j t
round-touched (Move x y) m j t least here range = has-record m j t least here range
round-touched (Insert x y) m j t least here range = has-record m j t least here range
round-touched Remove m j t least here range = (
  (λ near. let d = distance m j t least here range in (2 - d, omega (arith, near), ap (λ (n : ℕ). round_end m (n + (2 - d + 1))) (loop-first m t) ∙ ap (λ (n : ℕ). round_end m (t + n)) (omega (arith, near)) ∙ distance-record m j t least here range (omega (arith, near)))),
  (λ (i, few, is). omega (arith, record-distance m j t least here range (i + 1) (omega arith) (ap (λ (n : ℕ). round_end m (n + (i + 1))) (sym (loop-first m t)) ∙ is))),
)

-- a loop's run is never empty
count-some : (e : Edit) → 0 < count_round e
count-some (Move x y) = omega arith
count-some (Insert x y) = omega arith
count-some Remove = omega arith

-- ---- the run

module _ (e : Edit) (p : Plan) (j : ℕ) (o : offered e p.basis ≡ true) (round : RunsRound p.basis p.spans) (at : is_loop p.basis ≡ true → AtPlace e j p.spans) where
  abbrev m : ℕ
  m = p.spans

  abbrev Has : Run → ℕ → Type 0
  Has run s = (s < m) × (round_end m (s + m - run.first) < run.count)

  -- in an open outline, by the two bounds
  abbrev clip : Run
  clip = clipped (first_fresh e p j) (past_fresh e p j)

  clip-has : (s : ℕ) → s < m → (round_end m (s + m - clip.first) < clip.count) ↔ ((first_fresh e p j ≤ s) × (s < past_fresh e p j))
  clip-has s here =
      let most = clipped-most (first_fresh e p j) (past_fresh e p j) m (past-most e p j) in
      let (to, from) = clipped-spans (first_fresh e p j) (past_fresh e p j) s in (
        (λ near.
            to (by-round (λ v. v < clip.count → (clip.first ≤ s) × (s < clip.first + clip.count)) m (s + m - clip.first) (λ below v. absurd (omega (arith, most, below, v))) (λ past v. (omega (arith, past, v), omega (arith, past, v))) near)),
        (λ bounds. let (low, high) = from bounds in by-round (λ v. v < clip.count) m (s + m - clip.first) (λ below. omega (arith, low, high, below)) (λ past. omega (arith, low, high, past))),
      )

  open-touched : is_loop p.basis ≡ false → (s : ℕ) → Has clip s ↔ ((s < m) × Touched e p.basis j s)
  open-touched none s = (
    (λ (here, near).
        let (low, high) = (clip-has s here).0 near in
        (here, not-past e p.basis j s none (λ past. omega (arith, (past_bound e p j s o here).1 past)) ((first-bound e p j s none o).0 low))),
    (λ (here, touched).
        let (not, high) = past-not e p.basis j s none touched in
        (here, (clip-has s here).1 ((first-bound e p j s none o).1 high, ⊎_elim (λ inside. inside) (λ past. absurd (not ((past_bound e p j s o here).0 past))) (either s (past_fresh e p j))))),
  )

  -- in a loop, counted round
  loop-touched : is_loop p.basis ≡ true → (s : ℕ) → Has (run_round e m j) s ↔ ((s < m) × Touched e p.basis j s)
  loop-touched loop s =
      let least = runs-least p.basis m round loop in
      subst (λ b. Has (run_round e m j) s ↔ ((s < m) × Touched e b j s)) (sym (loop-is p.basis m round loop)) (
        (λ (here, near). (here, (round-touched e m j s least here (at loop)).0 near)),
        (λ (here, touched). (here, (round-touched e m j s least here (at loop)).1 touched)),
      )

  -- its spans are those of the plan that are touched
  pub run-touched : (s : ℕ) → Has (run_of e p j) s ↔ ((s < m) × Touched e p.basis j s)
  run-touched s =
      ⊎_elim (λ loop. subst (λ run. Has run s ↔ ((s < m) × Touched e p.basis j s)) (sym (run-loop e p j loop)) (loop-touched loop s))
      (λ none. subst (λ run. Has run s ↔ ((s < m) × Touched e p.basis j s)) (sym (run-open e p j none)) (open-touched none s))
      (passes (is_loop p.basis))

  -- both of its numbers are 0 exactly where none is
  pub nought-touched : (((run_of e p j).first ≡ 0) × ((run_of e p j).count ≡ 0)) ↔ ((s : ℕ) → s < m → Touched e p.basis j s → ⊥)
  nought-touched = (
    (λ (first, count) s h touched. let (_, near) = (run-touched s).1 (h, touched) in omega (arith, near, count)),
    (λ none.
        ⊎_elim (λ loop. absurd (some-in-loop loop none))
        (λ ends. subst (λ run. (run.first ≡ 0) × (run.count ≡ 0)) (sym (run-open e p j ends)) (none-clipped (λ s h touched. none s h touched) ends))
        (passes (is_loop p.basis))),
  )
    where
      none-clipped : ((s : ℕ) → s < m → Touched e p.basis j s → ⊥) → is_loop p.basis ≡ false → (clip.first ≡ 0) × (clip.count ≡ 0)
      none-clipped none ends =
          ⊎_elim
          (λ (some : first_fresh e p j < past_fresh e p j).
          let here : first_fresh e p j < m = omega (arith, past-most e p j) in
          absurd (none (first_fresh e p j) here ((open-touched ends (first_fresh e p j)).0 (here, (clip-has (first_fresh e p j) here).1 (omega arith, some))).1))
          (λ (empty : past_fresh e p j ≤ first_fresh e p j). (clipped-none (first_fresh e p j) (past_fresh e p j) empty, omega arith))
          (either (first_fresh e p j) (past_fresh e p j))

      some-in-loop : is_loop p.basis ≡ true → ((s : ℕ) → s < m → Touched e p.basis j s → ⊥) → ⊥
      some-in-loop loop none =
          let least = runs-least p.basis m round loop in
          let first = (run_round e m j).first in
          let here : first < m = round-within m (j + m - 3) (omega (arith, place-most e j m (at loop))) in
          let own : round_end m (first + m - first) < count_round e = by-round (λ v. v < count_round e) m (first + m - first) (λ below. absurd (omega (arith, below))) (λ past. omega (arith, count-some e)) in
          none first here ((loop-touched loop first).0 (here, own)).1

-- ---- the numbers of its points

-- The spans that have number q among their points are the one that it is in and, at a start, the one before.
module _ (p : Plan) (q : ℕ) (some : 1 ≤ p.spans) (within : q < p.spans * per_span p.depth + 2) where
  abbrev k : ℕ
  k = p.depth

  abbrev n : ℕ
  n = p.spans

  abbrev own : ℕ
  own = t p q

  abbrev off : ℕ
  off = r p q

  -- where a span has it
  has-own : (s : ℕ) → s * per_span k ≤ q → q < (s + 1) * per_span k + 2 → Among p s q
  has-own s low high = inl (omega (arith, per-span s k), omega (arith, per-span (s + 1) k))

  in-among : (span_in p own < n) × Among p (span_in p own) q
  in-among = ⊎_elim loops opens (passes (is_loop p.basis))
    where
      opens : is_loop p.basis ≡ false → (span_in p own < n) × Among p (span_in p own) q
      opens none =
          subst (λ (s : ℕ). (s < n) × Among p s q) (sym (ap (λ v. cond v (round_end n own) (min own (n - 1))) none))
          (⊎_elim (λ (early : own < n). subst (λ (s : ℕ). (s < n) × Among p s q) (omega arith) (early, has-own own (omega (arith, placed p q)) (omega (arith, placed p q, short p q, next-span own (per_span k)))))
          (λ (late : n ≤ own).
          let (most, end) = last p q within in
          let same : own ≡ n = omega (arith, most) in
          let one : n - 1 + 1 ≡ n = omega arith in
          subst (λ (s : ℕ). (s < n) × Among p s q) (omega (arith, same))
          (omega arith, has-own (n - 1) (omega (arith, placed p q, ap (λ (i : ℕ). i * per_span k) same, next-span (n - 1) (per_span k), ap (λ (i : ℕ). i * per_span k) one)) (omega (arith, within, ap (λ (i : ℕ). i * per_span k) one))))
          (either own n))

      loops : is_loop p.basis ≡ true → (span_in p own < n) × Among p (span_in p own) q
      loops loop =
          subst (λ (s : ℕ). (s < n) × Among p s q) (sym (ap (λ v. cond v (round_end n own) (min own (n - 1))) loop))
          (by-round (λ s. (s < n) × Among p s q) n own
          (λ early. (early, has-own own (omega (arith, placed p q)) (omega (arith, placed p q, short p q, next-span own (per_span k)))))
          (λ late.
          let (most, end) = last p q within in
          let same : own ≡ n = omega (arith, most) in
          (omega (arith, same), inr (loop, inr (omega (arith, placed p q, ap (λ (i : ℕ). i * per_span k) same, per-span n k, end same), omega (arith, same))))))

  before-among : off < 2 → (span_before p own < n) × Among p (span_before p own) q
  before-among start = ⊎_elim loops opens (passes (is_loop p.basis))
    where
      before : 1 ≤ own → own - 1 < n → (own - 1 < n) × Among p (own - 1) q
      before some few =
          let one : own - 1 + 1 ≡ own = omega arith in
          let on = ap (λ (i : ℕ). i * per_span k) one in
          (few, has-own (own - 1) (omega (arith, placed p q, next-span (own - 1) (per_span k), on)) (omega (arith, placed p q, on)))

      opens : is_loop p.basis ≡ false → (span_before p own < n) × Among p (span_before p own) q
      opens none =
          subst (λ (s : ℕ). (s < n) × Among p s q) (sym (ap (λ v. cond v (round_end n (own + n - 1)) (own - 1)) none))
          (⊎_elim (λ (later : 0 < own). before (omega arith) (omega (arith, (last p q within).0)))
          (λ (first : own ≤ 0).
          let none : own ≡ 0 = omega arith in
          let start_is : own * per_span k ≡ 0 = ap (λ (i : ℕ). i * per_span k) none ∙ zero-mul (per_span k) in
          let is : 0 ≡ own - 1 = omega (arith, none) in
          subst (λ (s : ℕ). (s < n) × Among p s q) is (omega arith, has-own 0 (omega (arith, zero-mul (per_span k))) (omega (arith, placed p q, start_is, start))))
          (either 0 own))

      loops : is_loop p.basis ≡ true → (span_before p own < n) × Among p (span_before p own) q
      loops loop =
          subst (λ (s : ℕ). (s < n) × Among p s q) (sym (ap (λ v. cond v (round_end n (own + n - 1)) (own - 1)) loop))
          (by-round (λ s. (s < n) × Among p s q) n (own + n - 1)
          (λ first.
          let none : own ≡ 0 = omega arith in
          let start_is : own * per_span k ≡ 0 = ap (λ (i : ℕ). i * per_span k) none ∙ zero-mul (per_span k) in
          (first, inr (loop, inl (omega (arith, placed p q, start_is, start), omega (arith, none)))))
          (λ later.
          let is : own - 1 ≡ own + n - 1 - n = omega arith in
          subst (λ (s : ℕ). (s < n) × Among p s q) is (before (omega arith) (omega (arith, (last p q within).0)))))

  -- and no others
  only : (s : ℕ) → s < n → Among p s q → (span_in p own ≡ s) ⊎ ((off < 2) × (span_before p own ≡ s))
  only s here (inl (low, high)) =
      let from = starts s own off (per_span k) (short p q) (omega (arith, placed p q, per-span s k)) in
      ⊎_elim (λ (early : own < s + 1). let is : own ≡ s = omega (arith, from) in inl (in-own (omega (arith, is)) ∙ is))
      (λ (next, start). inr (start, before-next s here next))
      (ends own (s + 1) off (per_span k) (wide p q) (omega (arith, placed p q, per-span (s + 1) k)))
    where
      in-own : own < n → span_in p own ≡ own
      in-own h =
          ⊎_elim (λ loop. ap (λ v. cond v (round_end n own) (min own (n - 1))) loop ∙ round-below n own h)
          (λ none. ap (λ v. cond v (round_end n own) (min own (n - 1))) none ∙ omega arith)
          (passes (is_loop p.basis))

      before-next : (s : ℕ) → s < n → own ≡ s + 1 → span_before p own ≡ s
      before-next s h is =
          ⊎_elim (λ loop. ap (λ v. cond v (round_end n (own + n - 1)) (own - 1)) loop ∙ round-past n (own + n - 1) (omega (arith, is)) ∙ omega (arith, is))
          (λ none. ap (λ v. cond v (round_end n (own + n - 1)) (own - 1)) none ∙ omega (arith, is))
          (passes (is_loop p.basis))
  only s here (inr (loop, inl (first, end))) =
      ⊎_elim (λ (early : own < 0). absurd (omega arith))
      (λ (is, start).
      inr (start, ap (λ v. cond v (round_end n (own + n - 1)) (own - 1)) loop ∙ round-below n (own + n - 1) (omega (arith, is)) ∙ omega (arith, is, end)))
      (ends own 0 off (per_span k) (wide p q) (omega (arith, placed p q, first, zero-mul (per_span k))))
  only s here (inr (loop, inr (end, first))) =
      let from = starts n own off (per_span k) (short p q) (omega (arith, placed p q, per-span n k, end)) in
      inl (ap (λ v. cond v (round_end n own) (min own (n - 1))) loop ∙ round-past n own from ∙ omega (arith, from, (last p q within).0, first))

  module _ (run : Run) where
    -- a span of the run has it among its points
    abbrev Held : Type 0
    Held = (s : ℕ) × ((s < n) × (round_end n (s + n - run.first) < run.count)) × Among p s q

    pub held-fresh : Held ↔ (is_fresh run p q ≡ true)
    unfolding in_run
    held-fresh = (
      (λ (s, (here, near), among).
          let has : in_run run n s ≡ true = lt-ltb (round_end n (s + n - run.first)) run.count near in
          fresh-by run p q (⊎_elim (λ is. inl (ap (in_run run n) is ∙ has)) (λ (start, is). inr (start, ap (in_run run n) is ∙ has)) (only s here among))),
      (λ fresh.
          ⊎_elim (λ has. (span_in p own, (in-among.0, ltb-true (round_end n (span_in p own + n - run.first)) run.count has), in-among.1))
          (λ (start, has). (span_before p own, ((before-among start).0, ltb-true (round_end n (span_before p own + n - run.first)) run.count has), (before-among start).1))
          (by-fresh run p q fresh)),
    )

-- ---- in an open outline they are from the start of the run's first span to the end of its last, both included

module _ (p : Plan) (run : Run) (q : ℕ) (none : is_loop p.basis ≡ false) (most : run.first + run.count ≤ p.spans) where
  abbrev d : ℕ
  d = 2 ^ p.depth

  abbrev past : ℕ
  past = run.first + run.count

  within-run : (s : ℕ) → s < p.spans → (round_end p.spans (s + p.spans - run.first) < run.count) ↔ ((run.first ≤ s) × (s < past))
  within-run s here = (
    (λ near. by-round (λ v. v < run.count → (run.first ≤ s) × (s < past)) p.spans (s + p.spans - run.first) (λ below v. absurd (omega (arith, below, v))) (λ over v. (omega (arith, over, v), omega (arith, over, v))) near),
    (λ (low, high). by-round (λ v. v < run.count) p.spans (s + p.spans - run.first) (λ below. omega (arith, below)) (λ over. omega (arith, over))),
  )

  pub held-within : ((s : ℕ) × ((s < p.spans) × (round_end p.spans (s + p.spans - run.first) < run.count)) × Among p s q) ↔ ((0 < run.count) × (run.first * d ≤ q / 2) × (q / 2 ≤ past * d))
  held-within = (to, from)
    where
      to : ((s : ℕ) × ((s < p.spans) × (round_end p.spans (s + p.spans - run.first) < run.count)) × Among p s q) → (0 < run.count) × (run.first * d ≤ q / 2) × (q / 2 ≤ past * d)
      to (s, (here, near), inl (low, high)) =
          let (from, until) = (within-run s here).0 near in
          (omega arith, omega (arith, low, mul-le-mul_right {m = run.first} {n = s} d from), omega (arith, high, mul-le-mul_right {m = s + 1} {n = past} d (omega (arith, until))))
      to (s, has, inr (loop, joint)) = absurd (true-is-not-false loop none)

      from : (0 < run.count) × (run.first * d ≤ q / 2) × (q / 2 ≤ past * d) → (s : ℕ) × ((s < p.spans) × (round_end p.spans (s + p.spans - run.first) < run.count)) × Among p s q
      from (some, low, high) =
          let s = min (q / 2 / d) (past - 1) in
          let start : run.first ≤ q / 2 / d = (le-div_iff_mul-le {k = d} {x = run.first} {y = q / 2} (pow_pos p.depth)).1 low in
          let here : s < p.spans = omega (arith, min-le_right (q / 2 / d) (past - 1)) in
          (s, (here, (within-run s here).1 (omega (arith, start), omega (arith, min-le_right (q / 2 / d) (past - 1)))), inl (ends_at s refl))
        where
          ends_at : (s : ℕ) → s ≡ min (q / 2 / d) (past - 1) → (s * d ≤ q / 2) × (q / 2 ≤ (s + 1) * d)
          ends_at s is =
              ⊎_elim
              (λ (early : q / 2 / d < past).
              let own : s ≡ q / 2 / d = is ∙ omega arith in
              let on = ap (λ (n : ℕ). n * d) own in
              (omega (arith, on, div-mul-le_self (q / 2) d), omega (arith, on, next-span s d, lt-div-mul-add {a = q / 2} {b = d} (pow_pos p.depth))))
              (λ (late : past ≤ q / 2 / d).
              let own : s + 1 ≡ past = omega (arith, is) in
              (omega (arith, mul-le-mul_right {m = s} {n = q / 2 / d} d (omega (arith, own)), div-mul-le_self (q / 2) d), omega (arith, high, ap (λ (n : ℕ). n * d) own)))
              (either (q / 2 / d) past)
