-- Why a span of the run needs work: it has the new record, or two records that were not together before, so no old span has its four records whatever the controls hold. A
-- list of one other value shows it for the new record, and a list in which each record is its number for a record taken out.
use mathlib.Core.Path.{◌≡◌, sym, ap, ◌∙◌, subst}
use mathlib.Core.Bool.{true, false}
use mathlib.Core.List.{List}
use mathlib.Core.Logic.{◌⊎◌, inl, inr, ⊎_elim}
use Prim.Native.Nat.{ℕ, zero, suc, ◌+◌, ◌*◌, ◌-◌, ◌/◌, ◌%◌, ◌≤◌, ◌<◌}
use native.Mathlib.Nat.{add-zero}
use native.Mathlib.Omega.{arith}
use lib.Dec.{lit<}
use lib.IntN.{ℤ, pos, negsuc, nat_abs}
use lib.ListN.{length}
use Rattle.curve.specs.declared.Basis.{Basis}
use Rattle.curve.specs.declared.Four.{Four}
use Rattle.curve.specs.Tab.{tab}
use Rattle.curve.specs.Span.{first_record, coordinate, records_from, round_end, is_loop, record_at, records}
use Rattle.curve.proofs.Round.{round-below, round-past, record-open}
use Rattle.curve.proofs.Tab.{length-tab, get_or-tab}
use Rattle.shape.specs.Inner.{RunsRound}
use Rattle.shape.proofs.Spans.{first-loop, record-loop, runs-least}
use Rattle.shape.proofs.Tests.{passes, either, true-is-not-false}
use Rattle.asked.specs.declared.Edit.{Edit}
use Rattle.asked.specs.declared.Edit.TheVariants.{Move, Insert, Remove}
use Rattle.asked.specs.Edits.{count_after, spans_after, choose, control_at, asked}
use Rattle.asked.proofs.Controls.{control-moved, control-inserted}
use Rattle.sequences.specs.Touched.{record_in, Touched}
use Rattle.sequences.proofs.Touched.{AtPlace}
use Rattle.sequences.proofs.Kept.{coordinate-asked, record-before, record-beyond}

-- another value
other : ℤ → ℤ
other (pos zero) = pos 1
other (pos (suc n)) = pos 0
other (negsuc n) = pos 0

other-apart : (x : ℤ) → x ≡ other x → ⊥
unfolding other
other-apart (pos zero) h = omega (arith, ap nat_abs h)
other-apart (pos (suc n)) h = omega (arith, ap nat_abs h)
other-apart (negsuc n) h = omega (arith, ap nat_abs h)

-- four records that are the same are so one by one
four-at : (r u : ℕ) (f g : ℕ → ℤ) → records_from r f ≡ records_from u g → (i : ℕ) → i < 4 → f (r + i) ≡ g (u + i)
unfolding records_from
four-at r u f g h zero few = ap f (add-zero r) ∙ ap (λ (p : Four). p.a) h ∙ ap g (sym (add-zero u))
four-at r u f g h (suc zero) few = ap (λ (p : Four). p.b) h
four-at r u f g h (suc (suc zero)) few = ap (λ (p : Four). p.c) h
four-at r u f g h (suc (suc (suc zero))) few = ap (λ (p : Four). p.d) h
four-at r u f g h (suc (suc (suc (suc i)))) few = absurd (omega arith)

even : (j : ℕ) → (2 * j + 0) % 2 ≡ 0
even j = omega arith

-- a record of a list made by a rule
coordinate-tab : (f : ℕ → ℤ) (len r : ℕ) → 2 * r < len → coordinate (tab f 0 len) 0 r ≡ f (0 + (2 * r + 0))
unfolding coordinate
coordinate-tab f len r h = get_or-tab f 0 len (2 * r + 0) (omega arith) (pos 0)

-- Old span u has the x of the records of new span t, in any list of `len` numbers with n records; b is the old basis and b' the new one.
abbrev Alike : Edit → Basis → Basis → ℕ → ℕ → ℕ → ℕ → ℕ → Type 0
Alike e b b' j n len t u = (old : List ℤ) → length old ≡ len → records b' t (coordinate (asked e j old (count_after e n)) 0) ≡ records b u (coordinate old 0)

-- one by one
alike_at : (e : Edit) (b b' : Basis) (j n len t u : ℕ) → Alike e b b' j n len t u → (old : List ℤ) → length old ≡ len → (i : ℕ) → i < 4
    → coordinate (asked e j old (count_after e n)) 0 (record_in b' t i) ≡ coordinate old 0 (record_in b u i)
alike_at e b b' j n len t u alike old long =
    four-at (first_record b' t) (first_record b u) (λ r. coordinate (asked e j old (count_after e n)) 0 (record_at b' r)) (λ r. coordinate old 0 (record_at b r)) (alike old long)

-- a span that has a new record of its own
has_new : (e : Edit) (b b' : Basis) (j n len t u : ℕ) (x : ℤ) → ((old : List ℤ) → length old ≡ len → coordinate (asked e j old (count_after e n)) 0 j ≡ x)
    → (i : ℕ) × (i < 4) × (record_in b' t i ≡ j)
    → ((i : ℕ) → i < 4 → record_in b u i < n)
    → 2 * n ≤ len
    → Alike e b b' j n len t u
    → ⊥
has_new e b b' j n len t u x new (i, few, is) within room alike =
    let old = tab (λ (q : ℕ). other x) 0 len in
    let long = length-tab (λ (q : ℕ). other x) 0 len in
    other-apart x
    (sym (new old long)
    ∙ ap (coordinate (asked e j old (count_after e n)) 0) (sym is)
    ∙ alike_at e b b' j n len t u alike old long i few
    ∙ coordinate-tab (λ (q : ℕ). other x) len (record_in b u i) (omega (arith, within i few, room)))

-- in an old span one record follows another, counted round
follows : (b : Basis) (m u i : ℕ) → RunsRound b m → u < m → i < 3 → (record_in b u (i + 1) ≡ record_in b u i + 1) ⊎ ((record_in b u (i + 1) ≡ 0) × (record_in b u i + 1 ≡ m) × (is_loop b ≡ true))
follows b m u i round here few = ⊎_elim in-loop in-open (passes (is_loop b))
  where
    in-open : is_loop b ≡ false → (record_in b u (i + 1) ≡ record_in b u i + 1) ⊎ ((record_in b u (i + 1) ≡ 0) × (record_in b u i + 1 ≡ m) × (is_loop b ≡ true))
    in-open ends = inl (record-open b ends (first_record b u + (i + 1)) ∙ omega (arith, record-open b ends (first_record b u + i)))

    in-loop : is_loop b ≡ true → (record_in b u (i + 1) ≡ record_in b u i + 1) ⊎ ((record_in b u (i + 1) ≡ 0) × (record_in b u i + 1 ≡ m) × (is_loop b ≡ true))
    in-loop loop =
        let at : (i : ℕ) → record_in b u i ≡ round_end m (u + i) = λ i. ap (λ (r : ℕ). record_at b (r + i)) (first-loop b loop u) ∙ record-loop b m round loop (u + i) in
        ⊎_elim (λ (below : u + (i + 1) < m). inl (at (i + 1) ∙ round-below m (u + (i + 1)) below ∙ omega (arith, at i, round-below m (u + i) (omega arith))))
        (λ (end : m ≤ u + (i + 1)).
        ⊎_elim (λ (last : u + i < m). inr (at (i + 1) ∙ round-past m (u + (i + 1)) end ∙ omega arith, omega (arith, at i, round-below m (u + i) last), loop))
        (λ (past : m ≤ u + i). inl (at (i + 1) ∙ round-past m (u + (i + 1)) end ∙ omega (arith, at i, round-past m (u + i) past)))
        (either (u + i) m))
        (either (u + (i + 1)) m)

-- Two records of a span that followed each other on both sides of the gap at j, as they are now (x) and as they were numbered before (y): no two of an old span were numbered so.
clash : (x x' y y' j m : ℕ)
    → ((x < j) × (y ≡ x)) ⊎ ((j ≤ x) × (y ≡ x + 1))
    → ((x' < j) × (y' ≡ x')) ⊎ ((j ≤ x') × (y' ≡ x' + 1))
    → (x' ≡ x + 1) ⊎ ((x' ≡ 0) × (x + 1 ≡ m))
    → (y' ≡ y + 1) ⊎ ((y' ≡ 0) × (y + 1 ≡ m + 1))
    → (x' ≡ j) ⊎ ((x' ≡ 0) × (j ≡ m))
    → 2 ≤ m
    → ⊥
clash x x' y y' j m (inl f) (inl g) (inl a) (inl b) (inl c) some = omega (arith, f, g)
clash x x' y y' j m (inl f) (inl g) (inl a) (inl b) (inr c) some = omega (arith, f, g, c)
clash x x' y y' j m (inl f) (inl g) (inl a) (inr b) c some = omega (arith, f, g, b)
clash x x' y y' j m (inl f) (inl g) (inr a) (inl b) c some = omega (arith, f, g, a)
clash x x' y y' j m (inl f) (inl g) (inr a) (inr b) (inl c) some = omega (arith, f, g, a, b)
clash x x' y y' j m (inl f) (inl g) (inr a) (inr b) (inr c) some = omega (arith, f, g, a, b, c)
clash x x' y y' j m (inl f) (inr g) a (inl b) (inl c) some = omega (arith, f, g)
clash x x' y y' j m (inl f) (inr g) a (inl b) (inr c) some = omega (arith, f, g, c)
clash x x' y y' j m (inl f) (inr g) a (inr b) c some = omega (arith, f, g, b)
clash x x' y y' j m (inr f) (inl g) (inl a) b c some = omega (arith, f, g)
clash x x' y y' j m (inr f) (inl g) (inr a) b (inl c) some = omega (arith, f, g, a)
clash x x' y y' j m (inr f) (inl g) (inr a) b (inr c) some = omega (arith, f, g, a, c)
clash x x' y y' j m (inr f) (inr g) a b (inr c) some = omega (arith, f, g, c)
clash x x' y y' j m (inr f) (inr g) (inl a) b (inl c) some = omega (arith, f, g)
clash x x' y y' j m (inr f) (inr g) (inr a) (inl b) (inl c) some = omega (arith, f, g, a)
clash x x' y y' j m (inr f) (inr g) (inr a) (inr b) (inl c) some = omega (arith, f, g, a, b)

-- no old span has the records of one that a remove touches
gap-needs : (b b' : Basis) (j n len m t u : ℕ) → is_loop b' ≡ is_loop b → RunsRound b (m + 1) → RunsRound b' m → t < m → u < m + 1 → (is_loop b' ≡ true → j ≤ m)
    → ((i : ℕ) → i < 4 → record_in b' t i < n - 1)
    → 2 * (n - 1) ≤ len
    → ((i : ℕ) → i < 4 → record_in b u i < n)
    → 2 * n ≤ len
    → Alike Remove b b' j n len t u
    → Touched Remove b' j t
    → ⊥
gap-needs b b' j n len m t u kind round round' here there most has fits within room alike (i, few, is) =
    let next = follows b' m t i round' here few in
    let next-old = follows b (m + 1) u i round there few in
    ⊎_elim
    (λ loop.
    let least = runs-least b' m round' loop in
    let range = most loop in
    let place : (record_in b' t (i + 1) ≡ j) ⊎ ((record_in b' t (i + 1) ≡ 0) × (j ≡ m)) =
    ⊎_elim (λ (below : j < m). inl (is ∙ record-loop b' m round' loop j ∙ round-below m j below))
    (λ (end : m ≤ j). let last : j ≡ m = omega (arith, range) in inr (is ∙ record-loop b' m round' loop j ∙ round-past m j end ∙ omega (arith, last), last))
    (either j m) in
    clash (record_in b' t i) (record_in b' t (i + 1)) (record_in b u i) (record_in b u (i + 1)) j m (got i (omega arith)) (got (i + 1) (omega arith))
    (⊎_elim (λ a. inl a) (λ a. inr (a.0, a.1)) next) (⊎_elim (λ a. inl a) (λ a. inr (a.0, a.1)) next-old) place (omega (arith, least)))
    (λ ends.
    clash (record_in b' t i) (record_in b' t (i + 1)) (record_in b u i) (record_in b u (i + 1)) j 2 (got i (omega arith)) (got (i + 1) (omega arith))
    (⊎_elim (λ a. inl a) (λ a. absurd (true-is-not-false a.2 ends)) next) (⊎_elim (λ a. inl a) (λ a. absurd (true-is-not-false (kind ∙ a.2) ends)) next-old) (inl (is ∙ record-open b' ends j)) (omega arith))
    (passes (is_loop b'))
  where
    number : ℕ → ℤ
    number q = pos (q / 2)

    old : List ℤ
    old = tab number 0 len

    long : length old ≡ len
    long = length-tab number 0 len

    numbered : (r : ℕ) → r < n → coordinate old 0 r ≡ pos r
    numbered r below = coordinate-tab number len r (omega (arith, room)) ∙ ap pos (omega arith)

    -- what a record was numbered
    got : (i : ℕ) → i < 4 → ((record_in b' t i < j) × (record_in b u i ≡ record_in b' t i)) ⊎ ((j ≤ record_in b' t i) × (record_in b u i ≡ record_in b' t i + 1))
    got i four =
        let r = record_in b' t i in
        let same : control_at Remove j old (2 * r + 0) ≡ pos (record_in b u i) =
        sym (coordinate-asked Remove j old r 0 (lit< tt) (n - 1) (omega (arith, long, fits)) (has i four)) ∙ alike_at Remove b b' j n len t u alike old long i four ∙ numbered (record_in b u i) (within i four) in
        ⊎_elim (λ (early : r < j). inl (early, ap nat_abs (sym same ∙ record-before Remove j old r 0 (lit< tt) early ∙ numbered r (omega (arith, has i four)))))
        (λ (late : j ≤ r). inr (late, ap nat_abs (sym same ∙ record-beyond Remove j old r 0 (lit< tt) late ∙ numbered (r + 1) (omega (arith, has i four)))))
        (either r j)

-- no old span has the records of one that is touched
pub touched-needs : (e : Edit) (b b' : Basis) (j n len m m' t u : ℕ) → is_loop b' ≡ is_loop b → m' ≡ spans_after e m → 1 ≤ m → RunsRound b m → RunsRound b' m' → t < m' → u < m → (is_loop b' ≡ true → AtPlace e j m')
    → ((i : ℕ) → i < 4 → record_in b' t i < count_after e n)
    → 2 * count_after e n ≤ len
    → ((i : ℕ) → i < 4 → record_in b u i < n)
    → 2 * n ≤ len
    → Touched e b' j t
    → Alike e b b' j n len t u
    → ⊥
touched-needs (Move x y) b b' j n len m m' t u kind same some round round' here there at has fits within room touched alike =
    has_new (Move x y) b b' j n len t u x
    (λ old long. coordinate-asked (Move x y) j old j 0 (lit< tt) n (omega (arith, long)) (subst (λ (r : ℕ). r < n) touched.2 (has touched.0 touched.1)) ∙ control-moved j old (2 * j + 0) x y (omega arith) ∙ ap (λ (a : ℕ). choose a x y) (even j))
    touched within room alike
touched-needs (Insert x y) b b' j n len m m' t u kind same some round round' here there at has fits within room touched alike =
    has_new (Insert x y) b b' j n len t u x
    (λ old long. coordinate-asked (Insert x y) j old j 0 (lit< tt) (n + 1) (omega (arith, long)) (subst (λ (r : ℕ). r < n + 1) touched.2 (has touched.0 touched.1)) ∙ control-inserted j old (2 * j + 0) x y (omega arith) ∙ ap (λ (a : ℕ). choose a x y) (even j))
    touched within room alike
touched-needs Remove b b' j n len m m' t u kind same some round round' here there at has fits within room touched alike =
    let one : m ≡ m' + 1 = omega (arith, same) in
    gap-needs b b' j n len m' t u kind (subst (RunsRound b) one round) round' here (omega (arith, one)) at has fits within room alike touched
