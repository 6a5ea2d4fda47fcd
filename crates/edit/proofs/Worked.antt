-- The fresh spans worked leave every fresh number as the outline has it and every other as it was; and the numbers past them carried before that leave every point as the reading has it.
use mathlib.Core.Path.{◌≡◌, sym, ap, ◌∙◌}
use mathlib.Core.Bool.{true, false, cond}
use mathlib.Core.Logic.{◌⊎◌, inl, inr, ⊎_elim}
use mathlib.Core.List.{List}
use Prim.Native.Nat.{ℕ, ◌+◌, ◌*◌, ◌-◌, ◌/◌, min, ◌≤◌, ◌<◌}
use native.Mathlib.Nat.{add-mul, mul-le-mul_right, div-lt_iff_lt-mul, le-div_iff_mul-le, min-le_right, zero-mul}
use native.Mathlib.Omega.{arith}
use borrow.Author.Tests.{lt-ltb, le-ltb}
use lib.Dec.{ltb}
use lib.IntN.{ℤ, pos}
use lib.ListN.{get_or, length}
use lib.Pow.{pow_pos}
use Rattle.whole.specs.Outcome.{Outcome, outcome}
use Rattle.shape.specs.declared.Plan.{Plan}
use Rattle.shape.specs.Inner.{RunsRound}
use Rattle.shape.proofs.Tests.{passes, either, true-is-not-false}
use Rattle.spans.specs.Numbers.{number, remainder_of, exact_in, nought, total, per_span}
use Rattle.spans.specs.Filled.{filled, fills}
use Rattle.spans.proofs.Filled.{length-filled, in-filled, before-filled, past-filled, none_filled, is-filled}
use Rattle.spans.proofs.Totals.{total-same, total-none, total-part, total-ends, exact-total}
use Rattle.outline.proofs.Draws.{all-numbers}
use Rattle.asked.specs.declared.Edit.{Edit}
use Rattle.asked.specs.declared.Edit.TheVariants.{Move, Insert, Remove}
use Rattle.asked.specs.declared.Run.{Run}
use Rattle.asked.specs.Edits.{past_fresh, run_of, in_run, carried_from, is_fresh, exact_fresh, point_at}
use Rattle.asked.proofs.Runs.{cond_same, past-most, later-carried, inserted-own}
use Rattle.asked.proofs.Fresh.{next-span, Stretch, Ends, stretch-fresh, stretch-before, stretch-past, ends-first, ends_last, ends-between, stale-own, none-fresh}
use Rattle.edit.specs.Inner.{run_length, fills_ends, refreshes}

-- ---- runs of spans

pub run_none : (first past w : ℕ) → past ≤ first → run_length first past w ≡ 0
unfolding run_length
run_none first past w h = ap (λ t. cond t ((past - first) * w + 2) 0) (le-ltb first past h)

pub run-some : (first past w : ℕ) → first < past → run_length first past w ≡ (past - first) * w + 2
unfolding run_length
run-some first past w h = ap (λ t. cond t ((past - first) * w + 2) 0) (lt-ltb first past h)

-- a stretch ends two numbers past its last span
pub stretch-end : (first past w : ℕ) → first ≤ past → first * w + ((past - first) * w + 2) ≡ past * w + 2
stretch-end first past w h =
    let whole : first + (past - first) ≡ past = omega arith in
    omega (arith, add-mul first (past - first) w, ap (λ (n : ℕ). n * w) whole)

pub run_end : (first past w : ℕ) → first < past → first * w + run_length first past w ≡ past * w + 2
run_end first past w h = omega (arith, run-some first past w h, stretch-end first past w (omega arith))

-- ---- the fresh numbers worked

module _ (run : Run) (p : Plan) (c l : List ℤ) (room : p.spans * per_span p.depth + 2 ≤ length l) where
  abbrev k : ℕ
  k = p.depth

  abbrev m : ℕ
  m = p.spans

  abbrev w : ℕ
  w = per_span k

  -- what is wanted at a number, and what it counts for
  abbrev wanted : ℕ → ℤ
  wanted q = cond (is_fresh run p q) (number p c q) (get_or l q (pos 0))

  abbrev counts : ℕ → ℕ
  counts q = cond (is_fresh run p q) (nought (remainder_of p c q)) 0

  fresh-wanted : (q : ℕ) → is_fresh run p q ≡ true → wanted q ≡ number p c q
  fresh-wanted q fresh = ap (λ t. cond t (number p c q) (get_or l q (pos 0))) fresh

  stale-wanted : (q : ℕ) → is_fresh run p q ≡ false → wanted q ≡ get_or l q (pos 0)
  stale-wanted q stale = ap (λ t. cond t (number p c q) (get_or l q (pos 0))) stale

  fresh-counts : (q : ℕ) → is_fresh run p q ≡ true → counts q ≡ nought (remainder_of p c q)
  fresh-counts q fresh = ap (λ t. cond t (nought (remainder_of p c q)) 0) fresh

  stale-counts : (q : ℕ) → is_fresh run p q ≡ false → counts q ≡ 0
  stale-counts q stale = ap (λ t. cond t (nought (remainder_of p c q)) 0) stale

  -- the exact ones of a part of the list that is fresh
  counted : (q n : ℕ) → ((i : ℕ) → q ≤ i → i < q + n → is_fresh run p i ≡ true) → exact_in p c q n ≡ total counts q n
  counted q n fresh = exact-total p c q n ∙ total-same (λ i. nought (remainder_of p c i)) counts q n (λ i low high. sym (fresh-counts i (fresh i low high)))

  refreshed : (n : ℕ) (new : List ℤ) → n ≡ total counts 0 (m * w + 2) → new ≡ filled wanted 0 (m * w + 2) l → outcome n new ≡ refreshes run p c l
  unfolding refreshes exact_fresh
  refreshed n new count list = λ i. outcome ((count ∙ ap (total counts 0) (sym (all-numbers k m))) i) (list i)

  pub none-refreshed : run.count ≡ 0 → outcome 0 l ≡ refreshes run p c l
  none-refreshed none =
      refreshed 0 l (sym (total-none counts 0 (m * w + 2) (λ i _ _. stale-counts i (none-fresh run p i none))))
      (is-filled wanted (m * w + 2) l l room (λ i. length l) (λ i _. sym (stale-wanted i (none-fresh run p i none))) (λ i _ j. get_or l i (pos 0)))

  pub none-exact : run.count ≡ 0 → exact_fresh run p c ≡ 0
  unfolding refreshes
  none-exact none = sym (ap (λ (o : Outcome ℕ (List ℤ)). o.answer) (none-refreshed none))

  pub stretch-refreshed : (a z : ℕ) → Stretch run p a z → fills p c (a * w) ((z - a) * w + 2) l ≡ refreshes run p c l
  stretch-refreshed a z s =
      let end = stretch-end a z w s.low in
      let within = mul-le-mul_right {m = z} {n = m} w s.high in
      let new = filled (number p c) (a * w) ((z - a) * w + 2) l in
      let parts : z * w + 2 - a * w ≡ (z - a) * w + 2 = omega (arith, end) in
      refreshed (exact_in p c (a * w) ((z - a) * w + 2)) new
      (counted (a * w) ((z - a) * w + 2) (λ i low high. stretch-fresh run p a z s i low (omega (arith, end)))
      ∙ ap (total counts (a * w)) (sym parts)
      ∙ sym
      (total-part counts (a * w) (z * w + 2) (m * w + 2) (omega (arith, end)) (omega (arith, within))
      (λ i low. stale-counts i (stretch-before run p a z s i low))
      (λ i low high. stale-counts i (stretch-past run p a z s i low high))))
      (is-filled wanted (m * w + 2) l new room (length-filled (number p c) (a * w) ((z - a) * w + 2) l)
      (λ i high.
      ⊎_elim (λ early. before-filled (number p c) (a * w) ((z - a) * w + 2) l i early ∙ sym (stale-wanted i (stretch-before run p a z s i early)))
      (λ low.
      ⊎_elim
      (λ inside. in-filled (number p c) (a * w) ((z - a) * w + 2) l i low (omega (arith, end)) (omega (arith, end, within)) ∙ sym (fresh-wanted i (stretch-fresh run p a z s i low inside)))
      (λ late. past-filled (number p c) (a * w) ((z - a) * w + 2) l i (omega (arith, end)) ∙ sym (stale-wanted i (stretch-past run p a z s i late high)))
      (either i (z * w + 2)))
      (either i (a * w)))
      (λ i high. past-filled (number p c) (a * w) ((z - a) * w + 2) l i (omega (arith, end, within))))

  -- so its exact ones are those of the stretch
  pub stretch-exact : (a z : ℕ) → Stretch run p a z → exact_fresh run p c ≡ exact_in p c (a * w) ((z - a) * w + 2)
  unfolding refreshes
  stretch-exact a z s = sym (ap (λ (o : Outcome ℕ (List ℤ)). o.answer) (stretch-refreshed a z s))

  -- two stretches, the later one first
  pub ends-refreshed : (z a : ℕ) → Ends run p z a → fills_ends p c a z l ≡ refreshes run p c l
  unfolding fills_ends
  ends-refreshed z a s =
      let f = number p c in
      let end = stretch-end a m w s.high in
      let apart = mul-le-mul_right {m = z + 1} {n = a} w (omega (arith, s.apart)) in
      let over = mul-le-mul_right {m = a} {n = m} w s.high in
      let wide : 2 ≤ w = omega (arith, pow_pos k) in
      let gap : z * w + 2 ≤ a * w = omega (arith, apart, next-span z w, wide) in
      let none : 0 * w ≡ 0 = zero-mul w in
      let all : (z - 0) * w + 2 ≡ z * w + 2 = ap (λ (n : ℕ). n * w + 2) (omega arith) in
      let last = filled f (a * w) ((m - a) * w + 2) l in
      let new = filled f 0 (z * w + 2) last in
      let rest : m * w + 2 - a * w ≡ (m - a) * w + 2 = omega (arith, end) in
      let front : fills p c (0 * w) ((z - 0) * w + 2) last ≡ fills p c 0 (z * w + 2) last = λ i. fills p c (none i) (all i) last in
      let later = fills p c (a * w) ((m - a) * w + 2) l in
      let early = fills p c (0 * w) ((z - 0) * w + 2) last in
      let long : length last ≡ length l = length-filled f (a * w) ((m - a) * w + 2) l in
      refreshed (later.answer + early.answer) early.held
      (ap (λ (o : Outcome ℕ (List ℤ)). later.answer + o.answer) front
      ∙ (λ i. counted (a * w) ((m - a) * w + 2) (λ i low high. ends_last run p z a s i low (omega (arith, end))) i + counted 0 (z * w + 2) (λ i low high. ends-first run p z a s i (omega arith)) i)
      ∙ ap (λ (n : ℕ). total counts (a * w) n + total counts 0 (z * w + 2)) (sym rest)
      ∙ sym (total-ends counts (z * w + 2) (a * w) (m * w + 2) gap (omega (arith, over)) (λ i low high. stale-counts i (ends-between run p z a s i low high))))
      (ap (λ (o : Outcome ℕ (List ℤ)). o.held) front
      ∙ is-filled wanted (m * w + 2) l new room (length-filled f 0 (z * w + 2) last ∙ long)
      (λ i high.
      ⊎_elim (λ first. in-filled f 0 (z * w + 2) last i (omega arith) (omega arith) (omega (arith, long, gap, over)) ∙ sym (fresh-wanted i (ends-first run p z a s i first)))
      (λ low.
      past-filled f 0 (z * w + 2) last i (omega arith)
      ∙ ⊎_elim
      (λ between. before-filled f (a * w) ((m - a) * w + 2) l i between ∙ sym (stale-wanted i (ends-between run p z a s i low between)))
      (λ late. in-filled f (a * w) ((m - a) * w + 2) l i late (omega (arith, end)) (omega (arith, end)) ∙ sym (fresh-wanted i (ends_last run p z a s i late high)))
      (either i (a * w)))
      (either i (z * w + 2)))
      (λ i high. past-filled f 0 (z * w + 2) last i (omega (arith, gap, over)) ∙ past-filled f (a * w) ((m - a) * w + 2) l i (omega (arith, end))))

-- ---- the points of an edit

module _ (ed : Edit) (p : Plan) (j : ℕ) (c lent : List ℤ) (round : RunsRound p.basis p.spans) (some : 1 ≤ p.spans) (room : p.spans * per_span p.depth + 2 ≤ length lent) where
  abbrev width : ℕ
  width = per_span p.depth

  abbrev spans : ℕ
  spans = p.spans

  abbrev e : ℕ
  e = past_fresh ed p j

  abbrev fresh : Run
  fresh = run_of ed p j

  has_width : 0 < width
  has_width = omega (arith, pow_pos p.depth)

  abbrev span : ℕ → ℕ
  span i = min (i / width) (spans - 1)

  abbrev carried : ℕ → ℤ
  carried q = get_or lent (carried_from ed width q) (pos 0)

  abbrev moved : List ℤ
  moved = filled carried (e * width) (run_length e spans width) lent

  -- a number that is not fresh and not carried is of a span before the place, or of a move
  stays : (ed : Edit) (i : ℕ) → (in_run (run_of ed p j) spans (span i) ≡ false) → (i / width < past_fresh ed p j) ⊎ (spans ≤ past_fresh ed p j)
      → cond (ltb (span i) j) (get_or lent i (pos 0)) (get_or lent (carried_from ed width i) (pos 0)) ≡ get_or lent i (pos 0)
  stays (Move x y) i out h = cond_same (ltb (span i) j) (get_or lent i (pos 0))
  stays (Insert x y) i out h = ap (λ t. cond t (get_or lent i (pos 0)) (get_or lent (i - width) (pos 0))) (lt-ltb (span i) j before)
    where
      before : span i < j
      before =
          ⊎_elim (λ (early : span i < j). early)
          (λ (late : j ≤ span i).
          let here : span i ≡ j = ⊎_elim (λ below. omega (arith, below)) (λ all. omega (arith, all, min-le_right (i / width) (spans - 1))) h in
          absurd (true-is-not-false (inserted-own x y p j round (omega (arith, here, min-le_right (i / width) (spans - 1)))) (ap (in_run (run_of (Insert x y) p j) spans) (sym here) ∙ out)))
          (either (span i) j)
  stays Remove i out h =
      ap (λ t. cond t (get_or lent i (pos 0)) (get_or lent (i + width) (pos 0))) (lt-ltb (span i) j (⊎_elim (λ below. omega (arith, below)) (λ all. omega (arith, all, min-le_right (i / width) (spans - 1))) h))

  pub fresh_at : (i : ℕ) → is_fresh fresh p i ≡ true → point_at ed p j c lent i ≡ number p c i
  unfolding point_at
  fresh_at i is = ap (λ t. cond t (number p c i) (cond (ltb (span i) j) (get_or lent i (pos 0)) (carried i))) is

  pub stale-at : (i : ℕ) → is_fresh fresh p i ≡ false → point_at ed p j c lent i ≡ cond (ltb (span i) j) (get_or lent i (pos 0)) (carried i)
  unfolding point_at
  stale-at i is = ap (λ t. cond t (number p c i) (cond (ltb (span i) j) (get_or lent i (pos 0)) (carried i))) is

  -- carrying leaves every number that is not fresh as it is wanted
  moved_at : (i : ℕ) → i < spans * width + 2 → is_fresh fresh p i ≡ false → get_or moved i (pos 0) ≡ cond (ltb (span i) j) (get_or lent i (pos 0)) (carried i)
  moved_at i within stale =
      let out = stale-own fresh p i within some stale in
      ⊎_elim
      (λ (early : i < e * width).
      let below : i / width < e = (div-lt_iff_lt-mul {k = width} {x = i} {y = e} has_width).1 early in
      before-filled carried (e * width) (run_length e spans width) lent i early ∙ sym (stays ed i out (inl below)))
      (λ (late : e * width ≤ i).
      ⊎_elim
      (λ (left : e < spans).
      let from : e ≤ i / width = (le-div_iff_mul-le {k = width} {x = e} {y = i} has_width).1 late in
      in-filled carried (e * width) (run_length e spans width) lent i late (omega (arith, run_end e spans width left)) (omega (arith, run_end e spans width left))
      ∙ sym (later-carried ed p j (span i) width i (λ (q : ℕ). get_or lent q (pos 0)) (omega (arith, min-le_right (i / width) (spans - 1))) (omega (arith, from, left))))
      (λ (none : spans ≤ e).
      ap (λ l. get_or l i (pos 0)) (none_filled carried (e * width) (run_length e spans width) lent (run_none e spans width none)) ∙ sym (stays ed i out (inr none)))
      (either e spans))
      (either i (e * width))

  moved-room : e * width + run_length e spans width ≤ spans * width + 2
  moved-room =
      ⊎_elim (λ h. omega (arith, run_end e spans width h)) (λ h. omega (arith, run_none e spans width h, mul-le-mul_right {m = e} {n = spans} width (past-most ed p j))) (either e spans)

  -- and the fresh ones worked after that leave every point
  pub worked : filled (λ q. cond (is_fresh fresh p q) (number p c q) (get_or moved q (pos 0))) 0 (spans * width + 2) moved ≡ filled (point_at ed p j c lent) 0 (spans * width + 2) lent
  worked =
      let long : length moved ≡ length lent = length-filled carried (e * width) (run_length e spans width) lent in
      let f : ℕ → ℤ = λ q. cond (is_fresh fresh p q) (number p c q) (get_or moved q (pos 0)) in
      is-filled (point_at ed p j c lent) (spans * width + 2) lent (filled f 0 (spans * width + 2) moved) room (length-filled f 0 (spans * width + 2) moved ∙ long)
      (λ i within.
      in-filled f 0 (spans * width + 2) moved i (omega arith) (omega arith) (omega (arith, long, room))
      ∙ ⊎_elim (λ is. ap (λ t. cond t (number p c i) (get_or moved i (pos 0))) is ∙ sym (fresh_at i is))
      (λ stale. ap (λ t. cond t (number p c i) (get_or moved i (pos 0))) stale ∙ moved_at i within stale ∙ sym (stale-at i stale))
      (passes (is_fresh fresh p i)))
      (λ i past. past-filled f 0 (spans * width + 2) moved i (omega arith) ∙ past-filled carried (e * width) (run_length e spans width) lent i (omega (arith, moved-room)))
