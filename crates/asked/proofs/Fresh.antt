-- Fresh numbers are those of one stretch of spans, or in a loop of two, at the list's start and at its end.
use mathlib.Core.Path.{◌≡◌, refl, sym, ap, ◌∙◌, subst}
use mathlib.Core.Bool.{Bool, true, false, cond, ◌&&◌, ◌||◌}
use mathlib.Core.Logic.{◌⊎◌, inl, inr, ⊎_elim}
use Prim.Native.Nat.{ℕ, ◌+◌, ◌*◌, ◌-◌, ◌/◌, ◌%◌, min, ◌≤◌, ◌<◌}
use native.Mathlib.Nat.{div-add-mod', mod-lt, mul-le-mul_right, suc-mul}
use native.Mathlib.Numerals.{add-one}
use native.Mathlib.Omega.{arith}
use borrow.Author.Tests.{ltb-true, lt-ltb, le-ltb}
use lib.Dec.{ltb}
use lib.Pow.{pow_pos}
use Rattle.curve.specs.Span.{round_end, is_loop}
use Rattle.curve.proofs.Round.{round-below, round-past, by-round}
use Rattle.shape.specs.declared.Plan.{Plan}
use Rattle.shape.proofs.Tests.{passes, either, and-true, or-false}
use Rattle.spans.specs.Numbers.{per_span}
use Rattle.asked.specs.declared.Run.{Run}
use Rattle.asked.specs.Edits.{in_run, span_in, span_before, is_fresh}
use Rattle.asked.proofs.Runs.{runs, stops}

-- ---- numbers by their span, t, and their place in it, r

-- A number at place r after t spans is fresh, and is not.
abbrev pub FreshAt : Run → Plan → ℕ → ℕ → Type 0
FreshAt run p t r = (in_run run p.spans (span_in p t) ≡ true) ⊎ ((r < 2) × (in_run run p.spans (span_before p t) ≡ true))

abbrev pub StaleAt : Run → Plan → ℕ → ℕ → Type 0
StaleAt run p t r = (in_run run p.spans (span_in p t) ≡ false) × (r < 2 → in_run run p.spans (span_before p t) ≡ false)

module _ (p : Plan) (q : ℕ) where
  abbrev pub w : ℕ
  w = per_span p.depth

  abbrev pub t : ℕ
  t = q / w

  abbrev pub r : ℕ
  r = q % w

  -- where it stands
  pub placed : t * w + r ≡ q
  placed = div-add-mod' q w

  pub wide : 2 ≤ w
  wide = omega (arith, pow_pos p.depth)

  pub short : r < w
  short = mod-lt q (omega (arith, wide))

or-true : (v : Bool) → (v || true) ≡ true
or-true true = refl
or-true false = refl

and-false : (v : Bool) → (v && false) ≡ false
and-false true = refl
and-false false = refl

pub fresh-by : (run : Run) (p : Plan) (q : ℕ) → FreshAt run p (t p q) (r p q) → is_fresh run p q ≡ true
unfolding is_fresh
fresh-by run p q (inl here) = ap (λ v. v || (ltb (r p q) 2 && in_run run p.spans (span_before p (t p q)))) here
fresh-by run p q (inr (start, before)) =
    (λ i. in_run run p.spans (span_in p (t p q)) || (lt-ltb (r p q) 2 start i && before i)) ∙ or-true (in_run run p.spans (span_in p (t p q)))

pub by-fresh : (run : Run) (p : Plan) (q : ℕ) → is_fresh run p q ≡ true → FreshAt run p (t p q) (r p q)
unfolding is_fresh
by-fresh run p q fresh =
    ⊎_elim (λ here. inl here)
    (λ other.
    let (start, before) = and-true (ltb (r p q) 2) (in_run run p.spans (span_before p (t p q))) (ap (λ v. v || (ltb (r p q) 2 && in_run run p.spans (span_before p (t p q)))) (sym other) ∙ fresh) in
    inr (ltb-true (r p q) 2 start, before))
    (passes (in_run run p.spans (span_in p (t p q))))

pub stale-by : (run : Run) (p : Plan) (q : ℕ) → StaleAt run p (t p q) (r p q) → is_fresh run p q ≡ false
unfolding is_fresh
stale-by run p q (here, before) =
    ap (λ v. v || (ltb (r p q) 2 && in_run run p.spans (span_before p (t p q)))) here
    ∙ ⊎_elim (λ start. (λ i. ltb (r p q) 2 && before start i) ∙ and-false (ltb (r p q) 2)) (λ later. ap (λ v. v && in_run run p.spans (span_before p (t p q))) (le-ltb (r p q) 2 later)) (either (r p q) 2)

-- the next span's numbers
pub next-span : (t w : ℕ) → (t + 1) * w ≡ t * w + w
next-span t w = ap (λ (n : ℕ). n * w) (add-one t) ∙ suc-mul t w

-- not before a span's start: its span is not before that one
pub starts : (a t r w : ℕ) → r < w → a * w ≤ t * w + r → a ≤ t
starts a t r w short h =
    ⊎_elim (λ (early : t < a). absurd (omega (arith, next-span t w, mul-le-mul_right {m = t + 1} {n = a} w (omega arith)))) (λ (low : a ≤ t). low) (either t a)

-- before a span's end: before that span's own end, or of that end
pub ends : (t z r w : ℕ) → 2 ≤ w → t * w + r < z * w + 2 → (t < z) ⊎ ((t ≡ z) × (r < 2))
ends t z r w wide h =
    ⊎_elim (λ (early : t < z). inl early)
    (λ (late : z ≤ t).
    let same : t ≡ z = ⊎_elim (λ (past : z < t). absurd (omega (arith, next-span z w, mul-le-mul_right {m = z + 1} {n = t} w (omega arith)))) (λ (high : t ≤ z). omega arith) (either z t) in
    inr (same, omega (arith, ap (λ (n : ℕ). n * w) same)))
    (either t z)

-- no number is past the last point
pub last : (p : Plan) (q : ℕ) → q < p.spans * per_span p.depth + 2 → (t p q ≤ p.spans) × (t p q ≡ p.spans → r p q < 2)
last p q high =
    ⊎_elim (λ (early : t p q < p.spans). (omega arith, (λ same. absurd (omega (arith, same))))) (λ (same, two). (omega (arith, same), (λ _. two)))
    (ends (t p q) p.spans (r p q) (w p q) (wide p q) (omega (arith, placed p q)))

-- ---- one stretch of spans, from a up to, and not with, z: its numbers and the two of its end

pub record Stretch (run : Run) (p : Plan) (a z : ℕ) : Type 0 where
  pub low : a ≤ z
  pub high : z ≤ p.spans
  pub inside : (t r : ℕ) → a ≤ t → t < z → FreshAt run p t r
  pub at-end : (r : ℕ) → r < 2 → FreshAt run p z r
  pub before : (t r : ℕ) → t < a → StaleAt run p t r
  pub past : (t r : ℕ) → z ≤ t → t ≤ p.spans → (t ≡ p.spans → r < 2) → (t ≡ z → 2 ≤ r) → StaleAt run p t r

module _ (run : Run) (p : Plan) (a z : ℕ) (s : Stretch run p a z) (q : ℕ) where
  pub stretch-fresh : a * per_span p.depth ≤ q → q < z * per_span p.depth + 2 → is_fresh run p q ≡ true
  stretch-fresh low high =
      let from = starts a (t p q) (r p q) (w p q) (short p q) (omega (arith, placed p q)) in
      fresh-by run p q
      (⊎_elim (λ early. s.inside (t p q) (r p q) from early)
      (λ (same, two). subst (λ (n : ℕ). FreshAt run p n (r p q)) (sym same) (s.at-end (r p q) two))
      (ends (t p q) z (r p q) (w p q) (wide p q) (omega (arith, placed p q))))

  pub stretch-before : q < a * per_span p.depth → is_fresh run p q ≡ false
  stretch-before h =
      stale-by run p q
      (s.before (t p q) (r p q)
      (⊎_elim (λ (early : t p q < a). early) (λ (late : a ≤ t p q). absurd (omega (arith, placed p q, mul-le-mul_right {m = a} {n = t p q} (w p q) late))) (either (t p q) a)))

  pub stretch-past : z * per_span p.depth + 2 ≤ q → q < p.spans * per_span p.depth + 2 → is_fresh run p q ≡ false
  stretch-past low high =
      let from = starts z (t p q) (r p q) (w p q) (short p q) (omega (arith, placed p q)) in
      stale-by run p q
      (s.past (t p q) (r p q) from (last p q high).0 (last p q high).1
      (λ same. omega (arith, placed p q, ap (λ (n : ℕ). n * w p q) same)))

-- ---- two stretches, up to, and not with, span z at the list's start, and from span a to its end

pub record Ends (run : Run) (p : Plan) (z a : ℕ) : Type 0 where
  pub apart : z < a
  pub high : a ≤ p.spans
  pub inside : (t r : ℕ) → t < z → FreshAt run p t r
  pub at-end : (r : ℕ) → r < 2 → FreshAt run p z r
  pub from : (t r : ℕ) → a ≤ t → t ≤ p.spans → (t ≡ p.spans → r < 2) → FreshAt run p t r
  pub between : (t r : ℕ) → z ≤ t → t < a → (t ≡ z → 2 ≤ r) → StaleAt run p t r

module _ (run : Run) (p : Plan) (z a : ℕ) (s : Ends run p z a) (q : ℕ) where
  pub ends-first : q < z * per_span p.depth + 2 → is_fresh run p q ≡ true
  ends-first high =
      fresh-by run p q
      (⊎_elim (λ early. s.inside (t p q) (r p q) early)
      (λ (same, two). subst (λ (n : ℕ). FreshAt run p n (r p q)) (sym same) (s.at-end (r p q) two))
      (ends (t p q) z (r p q) (w p q) (wide p q) (omega (arith, placed p q))))

  pub ends_last : a * per_span p.depth ≤ q → q < p.spans * per_span p.depth + 2 → is_fresh run p q ≡ true
  ends_last low high =
      fresh-by run p q (s.from (t p q) (r p q) (starts a (t p q) (r p q) (w p q) (short p q) (omega (arith, placed p q))) (last p q high).0 (last p q high).1)

  pub ends-between : z * per_span p.depth + 2 ≤ q → q < a * per_span p.depth → is_fresh run p q ≡ false
  ends-between low high =
      let from = starts z (t p q) (r p q) (w p q) (short p q) (omega (arith, placed p q)) in
      stale-by run p q
      (s.between (t p q) (r p q) from
      (⊎_elim (λ (early : t p q < a). early) (λ (late : a ≤ t p q). absurd (omega (arith, placed p q, mul-le-mul_right {m = a} {n = t p q} (w p q) late))) (either (t p q) a))
      (λ same. omega (arith, placed p q, ap (λ (n : ℕ). n * w p q) same)))

-- ---- an open outline: one stretch, the run itself

module _ (run : Run) (p : Plan) (open-ends : is_loop p.basis ≡ false) (some : 0 < run.count) (most : run.first + run.count ≤ p.spans) where
  abbrev m : ℕ
  m = p.spans

  in-open : (t : ℕ) → span_in p t ≡ min t (m - 1)
  in-open t = ap (λ v. cond v (round_end m t) (min t (m - 1))) open-ends

  before-open : (t : ℕ) → span_before p t ≡ t - 1
  before-open t = ap (λ v. cond v (round_end m (t + m - 1)) (t - 1)) open-ends

  has : (s : ℕ) → run.first ≤ s → s < run.first + run.count → in_run run m s ≡ true
  has s low high = runs run m s (omega arith) (omega arith)

  lacks-early : (s : ℕ) → s < run.first → in_run run m s ≡ false
  lacks-early s h = stops run m s (omega arith) (omega arith)

  lacks-late : (s : ℕ) → run.first + run.count ≤ s → in_run run m s ≡ false
  lacks-late s h = stops run m s (omega arith) (omega arith)

  pub open-stretch : Stretch run p run.first (run.first + run.count)
  open-stretch =
      record {
        low = omega arith;
        high = most;
        inside = λ t r low high. inl (ap (in_run run m) (in-open t) ∙ has (min t (m - 1)) (omega arith) (omega arith));
        at-end = λ r two. let z = run.first + run.count in inr (two, ap (in_run run m) (before-open z) ∙ has (z - 1) (omega arith) (omega arith));
        before = λ t r h. (ap (in_run run m) (in-open t) ∙ lacks-early (min t (m - 1)) (omega arith), (λ two. ap (in_run run m) (before-open t) ∙ lacks-early (t - 1) (omega arith)));
        past =
            λ t r low high end later. (
              ap (in_run run m) (in-open t) ∙ lacks-late (min t (m - 1)) (late t r low high end later),
              (λ two. ap (in_run run m) (before-open t) ∙ lacks-late (t - 1) (⊎_elim (λ (h : t < run.first + run.count + 1). absurd (omega (arith, later (omega arith)))) (λ h. omega arith) (either t (run.first + run.count + 1)))),
            );
      }
    where
      late : (t r : ℕ) → run.first + run.count ≤ t → t ≤ m → (t ≡ m → r < 2) → (t ≡ run.first + run.count → 2 ≤ r) → run.first + run.count ≤ min t (m - 1)
      late t r low high end later =
          ⊎_elim (λ (h : t < m). omega arith)
          (λ (h : m ≤ t). ⊎_elim (λ (g : run.first + run.count < m). omega arith) (λ (g : m ≤ run.first + run.count). absurd (omega (arith, end (omega arith), later (omega arith)))) (either (run.first + run.count) m))
          (either t m)

-- ---- a loop: a run that goes round is two stretches; where its first or its last span is fresh, so are both places of the joint

module _ (run : Run) (p : Plan) (loop : is_loop p.basis ≡ true) (some : 0 < run.count) (first : run.first < p.spans) where
  abbrev n : ℕ
  n = p.spans

  in-loop : (t : ℕ) → span_in p t ≡ round_end n t
  in-loop t = ap (λ v. cond v (round_end n t) (min t (n - 1))) loop

  before-loop : (t : ℕ) → span_before p t ≡ round_end n (t + n - 1)
  before-loop t = ap (λ v. cond v (round_end n (t + n - 1)) (t - 1)) loop

  -- a span, and the one before it, by their distance from the first, counted round
  abbrev Near : ℕ → Type 0
  Near s = (s + n - run.first < n → s + n - run.first < run.count) × (n ≤ s + n - run.first → s + n - run.first - n < run.count)

  abbrev Far : ℕ → Type 0
  Far s = (s + n - run.first < n → run.count ≤ s + n - run.first) × (n ≤ s + n - run.first → run.count ≤ s + n - run.first - n)

  fresh_in : (t : ℕ) → (t < n → Near t) → (n ≤ t → Near (t - n)) → in_run run n (span_in p t) ≡ true
  fresh_in t below past =
      ap (in_run run n) (in-loop t) ∙ by-round (λ s. in_run run n s ≡ true) n t (λ h. runs run n t (below h).0 (below h).1) (λ h. runs run n (t - n) (past h).0 (past h).1)

  fresh-before : (t : ℕ) → (t + n - 1 < n → Near (t + n - 1)) → (n ≤ t + n - 1 → Near (t + n - 1 - n)) → in_run run n (span_before p t) ≡ true
  fresh-before t below past =
      ap (in_run run n) (before-loop t) ∙ by-round (λ s. in_run run n s ≡ true) n (t + n - 1) (λ h. runs run n (t + n - 1) (below h).0 (below h).1) (λ h. runs run n (t + n - 1 - n) (past h).0 (past h).1)

  stale-in : (t : ℕ) → (t < n → Far t) → (n ≤ t → Far (t - n)) → in_run run n (span_in p t) ≡ false
  stale-in t below past =
      ap (in_run run n) (in-loop t) ∙ by-round (λ s. in_run run n s ≡ false) n t (λ h. stops run n t (below h).0 (below h).1) (λ h. stops run n (t - n) (past h).0 (past h).1)

  stale-before : (t : ℕ) → (t + n - 1 < n → Far (t + n - 1)) → (n ≤ t + n - 1 → Far (t + n - 1 - n)) → in_run run n (span_before p t) ≡ false
  stale-before t below past =
      ap (in_run run n) (before-loop t) ∙ by-round (λ s. in_run run n s ≡ false) n (t + n - 1) (λ h. stops run n (t + n - 1) (below h).0 (below h).1) (λ h. stops run n (t + n - 1 - n) (past h).0 (past h).1)

  -- all of it
  pub loop-whole : n ≤ run.count → Stretch run p 0 n
  loop-whole all =
      record {
        low = omega arith;
        high = omega arith;
        inside = λ t r low high. inl (fresh_in t (λ _. (omega arith, omega arith)) (λ _. (omega arith, omega arith)));
        at-end = λ r two. inl (fresh_in n (λ h. absurd (omega arith)) (λ h. (omega arith, omega arith)));
        before = λ t r h. absurd (omega arith);
        past = λ t r low high end later. absurd (omega (arith, end (omega arith), later (omega arith)));
      }

  -- neither the first nor the last span
  pub loop-stretch : 0 < run.first → run.first + run.count < n → Stretch run p run.first (run.first + run.count)
  loop-stretch not_first not_last =
      record {
        low = omega arith;
        high = omega arith;
        inside = λ t r low high. inl (fresh_in t (λ _. (omega arith, omega arith)) (λ h. absurd (omega arith)));
        at-end = λ r two. inr (two, fresh-before (run.first + run.count) (λ h. absurd (omega arith)) (λ h. (omega arith, omega arith)));
        before = λ t r h. (stale-in t (λ g. (omega arith, omega arith)) (λ g. absurd (omega arith)), (λ two. stale-before t (λ g. (omega arith, omega arith)) (λ g. (omega arith, omega arith))));
        past =
            λ t r low high end later. (
              stale-in t (λ g. (omega arith, omega arith)) (λ g. (omega arith, omega arith)),
              (λ two.
                  let past_end : run.first + run.count < t = ⊎_elim (λ (h : run.first + run.count < t). h) (λ (h : t ≤ run.first + run.count). absurd (omega (arith, later (omega arith)))) (either (run.first + run.count) t) in
                  stale-before t (λ g. (omega arith, omega arith)) (λ g. (omega arith, omega arith))),
            );
      }

  -- a run that begins past the first span, and has the last one
  pub loop-ends : 0 < run.first → n ≤ run.first + run.count → run.count < n → Ends run p (run.first + run.count - n) run.first
  loop-ends not_first round some_left =
      record {
        apart = omega arith;
        high = omega arith;
        inside = λ t r h. inl (fresh_in t (λ g. (omega arith, omega arith)) (λ g. absurd (omega arith)));
        at-end = λ r two. inr (two, fresh-before (run.first + run.count - n) (λ g. (omega arith, omega arith)) (λ g. (omega arith, omega arith)));
        from =
            λ t r low high end.
            ⊎_elim (λ (h : t < n). inl (fresh_in t (λ g. (omega arith, omega arith)) (λ g. absurd (omega arith))))
            (λ (h : n ≤ t). inr (end (omega arith), fresh-before t (λ g. absurd (omega arith)) (λ g. (omega arith, omega arith))))
            (either t n);
        between =
            λ t r low high later. (
              stale-in t (λ g. (omega arith, omega arith)) (λ g. absurd (omega arith)),
              (λ two.
                  let past_end : run.first + run.count - n < t = ⊎_elim (λ (h : run.first + run.count - n < t). h) (λ (h : t ≤ run.first + run.count - n). absurd (omega (arith, later (omega arith)))) (either (run.first + run.count - n) t) in
                  stale-before t (λ g. absurd (omega arith)) (λ g. (omega arith, omega arith))),
            );
      }

  -- one that begins with the first span: the last point is its start again
  pub loop-start : run.first ≡ 0 → run.count < n → Ends run p run.count n
  loop-start is-first some_left =
      record {
        apart = omega arith;
        high = omega arith;
        inside = λ t r h. inl (fresh_in t (λ g. (omega arith, omega arith)) (λ g. absurd (omega arith)));
        at-end = λ r two. inr (two, fresh-before run.count (λ g. absurd (omega arith)) (λ g. (omega arith, omega arith)));
        from = λ t r low high end. inl (fresh_in t (λ g. absurd (omega arith)) (λ g. (omega arith, omega arith)));
        between =
            λ t r low high later. (
              stale-in t (λ g. (omega arith, omega arith)) (λ g. absurd (omega arith)),
              (λ two.
                  let past_end : run.count < t = ⊎_elim (λ (h : run.count < t). h) (λ (h : t ≤ run.count). absurd (omega (arith, later (omega arith)))) (either run.count t) in
                  stale-before t (λ g. absurd (omega arith)) (λ g. (omega arith, omega arith))),
            );
      }

-- ---- a number that is not fresh: its own span, which for the last point is the last one, is not in the run

pub stale-own : (run : Run) (p : Plan) (q : ℕ) → q < p.spans * per_span p.depth + 2 → 1 ≤ p.spans → is_fresh run p q ≡ false → in_run run p.spans (min (t p q) (p.spans - 1)) ≡ false
unfolding is_fresh
stale-own run p q high some stale =
    let (here, start) = or-false (in_run run p.spans (span_in p (t p q))) (ltb (r p q) 2 && in_run run p.spans (span_before p (t p q))) stale in
    ⊎_elim (λ loop. round loop here start) (λ ends. ap (in_run run p.spans) (sym (ap (λ v. cond v (round_end p.spans (t p q)) (min (t p q) (p.spans - 1))) ends)) ∙ here) (passes (is_loop p.basis))
  where
    round : is_loop p.basis ≡ true → in_run run p.spans (span_in p (t p q)) ≡ false → (ltb (r p q) 2 && in_run run p.spans (span_before p (t p q))) ≡ false → in_run run p.spans (min (t p q) (p.spans - 1)) ≡ false
    round loop here start =
        ⊎_elim
        (λ (early : t p q < p.spans).
        let own : span_in p (t p q) ≡ min (t p q) (p.spans - 1) = ap (λ v. cond v (round_end p.spans (t p q)) (min (t p q) (p.spans - 1))) loop ∙ round-below p.spans (t p q) early ∙ omega arith in
        ap (in_run run p.spans) (sym own) ∙ here)
        (λ (late : p.spans ≤ t p q).
        let same : t p q ≡ p.spans = omega (arith, (last p q high).0) in
        let own : span_before p (t p q) ≡ min (t p q) (p.spans - 1) =
        ap (λ v. cond v (round_end p.spans (t p q + p.spans - 1)) (t p q - 1)) loop ∙ round-past p.spans (t p q + p.spans - 1) (omega arith) ∙ omega (arith, same) in
        ap (in_run run p.spans) (sym own) ∙ sym (ap (λ v. v && in_run run p.spans (span_before p (t p q))) (lt-ltb (r p q) 2 ((last p q high).1 same))) ∙ start)
        (either (t p q) p.spans)

-- no span is in a run of none
pub none_in : (run : Run) (m s : ℕ) → run.count ≡ 0 → in_run run m s ≡ false
none_in run m s none = stops run m s (λ h. omega (arith, none)) (λ h. omega (arith, none))

pub none-fresh : (run : Run) (p : Plan) (q : ℕ) → run.count ≡ 0 → is_fresh run p q ≡ false
none-fresh run p q none = stale-by run p q (none_in run p.spans (span_in p (t p q)) none, (λ two. none_in run p.spans (span_before p (t p q)) none))
