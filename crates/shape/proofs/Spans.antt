-- Spans and records: laws of any stride from 1 to 3, so of every basis at once; where a span's four records are, by open or a loop.
use mathlib.Core.Path.{◌≡◌, refl, sym, ap, ◌∙◌}
use mathlib.Core.Bool.{true, false, cond, ◌&&◌}
use mathlib.Core.Logic.{⊎_elim, ◌↔◌}
use Prim.Native.Nat.{ℕ, suc, ◌+◌, ◌*◌, ◌-◌, ◌/◌, ◌≤◌, ◌<◌}
use native.Mathlib.Nat.{div-le_self, div-lt_iff_lt-mul, div-mul-le_self, le-div_iff_mul-le, mul_comm, mul-div_right, mul-le-mul, mul-le-mul_right, one-mul, suc-mul}
use native.Mathlib.Omega.{arith}
use borrow.Author.Tests.{leb-true, eqb-true, le-leb, eq-eqb}
use lib.Dec.{leb, eqb, lit≤}
use lib.Pow.{pow_mono}
use Rattle.curve.specs.Span.{stride, first_record, round_end, is_loop, record_at, recount}
use Rattle.curve.specs.Ways.{deepest}
use Rattle.curve.specs.declared.Basis.{Basis}
use Rattle.curve.specs.declared.Basis.TheVariants.{Bezier, BSpline, Cardinal, Hermite, Loop}
use Rattle.curve.proofs.Stride.{stride-bounds}
use Rattle.curve.proofs.Round.{round-below, open-or-loop, record-open, round-within, loop-first}
use Rattle.shape.specs.Shape.{tail, records_of, spans_of, first_using, last_using, allowed, points_of, least_records, most_records, most_points}
use Rattle.shape.specs.Inner.{RunsRound}
use Rattle.shape.proofs.Tests.{passes, true-is-not-false, and-true}

-- ---- records of a span

-- what is past the last stride of an open basis, and of a loop
tail-open : (b : Basis) → is_loop b ≡ false → tail b ≡ least_records - stride b
tail-open b ends = ap (λ t. cond t 0 (least_records - stride b)) ends

pub tail-few : (b : Basis) → stride b + tail b ≤ least_records
tail-few = open-or-loop (λ b. stride b + tail b ≤ least_records) (λ b ends. omega (arith, (stride-bounds b).1, tail-open b ends)) (λ n. lit≤ tt)

-- span t of an open basis has its four records among the first n exactly when it is one of the spans of n
pub among_first : (b : Basis) → is_loop b ≡ false → (n t : ℕ) → (t < spans_of b n) ↔ (first_record b t + 3 < n)
unfolding first_record spans_of
among_first b ends n t =
    let (least, most) = stride-bounds b in
    let is = tail-open b ends in
    let (to, from) = le-div_iff_mul-le {k = stride b} {x = suc t} {y = n - tail b} least in
    let next = suc-mul t (stride b) ∙ ap (λ (i : ℕ). i + stride b) (mul_comm t (stride b)) in
    ((λ h. let room = to h in omega (arith, next, room, is)), (λ h. from (omega (arith, next, is))))

-- it begins past record j exactly when it is past the last span that uses it
pub begins-past : (b : Basis) (j t : ℕ) → (last_using b j < t) ↔ (j < first_record b t)
unfolding first_record last_using
begins-past b j t =
    let (to, from) = div-lt_iff_lt-mul {k = stride b} {x = j} {y = t} (stride-bounds b).0 in
    let first = mul_comm (stride b) t in
    ((λ h. let past = to h in omega (arith, first, past)), (λ h. from (omega (arith, first))))

-- the first span that uses a record is not past the last, nor past the record
pub first_below : (b : Basis) (j : ℕ) → (first_using b j ≤ last_using b j) × (last_using b j ≤ j)
unfolding spans_of last_using
first_below b j = (
  (le-div_iff_mul-le {k = stride b} {x = spans_of b j} {y = j} (stride-bounds b).0).1 (omega (arith, div-mul-le_self (j - tail b) (stride b))),
  div-le_self j (stride b),
)

-- the records of m spans are those before the next one would begin, and those past the last
pub records-first : (b : Basis) (m : ℕ) → records_of b m ≡ first_record b m + tail b
unfolding records_of first_record
records-first b m = refl

-- the spans of the records of m spans are m
pub spans-records : (b : Basis) (m : ℕ) → spans_of b (records_of b m) ≡ m
unfolding records_of spans_of
spans-records b m =
    let only : stride b * m + tail b - tail b ≡ stride b * m = omega arith in
    ap (λ (n : ℕ). n / stride b) only ∙ mul-div_right m (stride-bounds b).0

-- the four records of a span exist: of an open basis
pub last-record : (b : Basis) → is_loop b ≡ false → (m s : ℕ) → s < m → first_record b s + 3 < records_of b m
last-record b ends m s h = (among_first b ends (records_of b m) s).0 (omega (arith, spans-records b m))

-- and of every one, as it counts them
pub has-record : (b : Basis) (m s i : ℕ) → RunsRound b m → s < m → i < 4 → record_at b (first_record b s + i) < records_of b m
unfolding records_of
has-record b m s i = open-or-loop (λ b. RunsRound b m → s < m → i < 4 → record_at b (first_record b s + i) < records_of b m) ends loop b
  where
    ends : (b : Basis) → is_loop b ≡ false → RunsRound b m → s < m → i < 4 → record_at b (first_record b s + i) < records_of b m
    ends b e _ h few = omega (arith, record-open b e (first_record b s + i), last-record b e m s h)

    loop : (n : ℕ) → RunsRound (Loop n) m → s < m → i < 4 → record_at (Loop n) (first_record (Loop n) s + i) < records_of (Loop n) m
    loop n (is, least) h few = omega (arith, is, one-mul m, round-within n (first_record (Loop n) s + i) (omega (arith, is, least, loop-first n s)))

-- no span begins before the record of its number, so there are no more spans than records
pub spans-below : (b : Basis) (m : ℕ) → m ≤ records_of b m
unfolding records_of
spans-below b m = omega (arith, one-mul m, mul-le-mul_right {m = 1} {n = stride b} m (stride-bounds b).0)

-- a loop of n records has n spans
loop-records : (n m : ℕ) → records_of (Loop n) m ≡ m
unfolding records_of
loop-records n m = omega (arith, one-mul m)

pub loop-spans : (n m : ℕ) → spans_of (Loop n) m ≡ m
loop-spans n m = ap (spans_of (Loop n)) (sym (loop-records n m)) ∙ spans-records (Loop n) m

pub loop-runs : (n : ℕ) → least_records ≤ n → RunsRound (Loop n) (spans_of (Loop n) n)
loop-runs n h = (sym (loop-spans n n), omega (arith, loop-spans n n))

-- what runs round is a loop, of four spans at least
pub runs-least : (b : Basis) (m : ℕ) → RunsRound b m → is_loop b ≡ true → least_records ≤ m
runs-least b m = open-or-loop (λ b. RunsRound b m → is_loop b ≡ true → least_records ≤ m) (λ b ends _ loop. absurd (true-is-not-false loop ends)) (λ n (is, least) _. least) b

-- and the loop is of as many records
pub loop-is : (b : Basis) (m : ℕ) → RunsRound b m → is_loop b ≡ true → b ≡ Loop m
loop-is b m = open-or-loop (λ b. RunsRound b m → is_loop b ≡ true → b ≡ Loop m) (λ b ends _ loop. absurd (true-is-not-false loop ends)) (λ n (is, least) _. ap Loop is) b

-- its spans begin a record apart, and it counts its records round
pub first-loop : (b : Basis) → is_loop b ≡ true → (s : ℕ) → first_record b s ≡ s
first-loop b loop s = open-or-loop (λ b. is_loop b ≡ true → first_record b s ≡ s) (λ b ends loop. absurd (true-is-not-false loop ends)) (λ n _. loop-first n s) b loop

pub record-loop : (b : Basis) (m : ℕ) → RunsRound b m → is_loop b ≡ true → (x : ℕ) → record_at b x ≡ round_end m x
record-loop b m round loop x = ap (λ b. record_at b x) (loop-is b m round loop)

-- a record below the end of a loop stands for itself, and so does every one of an open basis
pub record-below : (b : Basis) (m : ℕ) → RunsRound b m → (x : ℕ) → (is_loop b ≡ true → x < m) → record_at b x ≡ x
record-below b m round x below =
    ⊎_elim (λ loop. record-loop b m round loop x ∙ round-below m x (below loop)) (λ ends. record-open b ends x) (passes (is_loop b))

-- counting round another number changes no first record, and a loop stays one
pub recount-first : (n : ℕ) (b : Basis) (s : ℕ) → first_record (recount n b) s ≡ first_record b s
unfolding first_record
recount-first n Bezier s = refl
recount-first n BSpline s = refl
recount-first n (Cardinal c) s = refl
recount-first n Hermite s = refl
recount-first n (Loop l) s = refl

pub recount-loop : (n : ℕ) (b : Basis) → is_loop (recount n b) ≡ is_loop b
recount-loop n Bezier = refl
recount-loop n BSpline = refl
recount-loop n (Cardinal c) = refl
recount-loop n Hermite = refl
recount-loop n (Loop l) = refl

pub recount-stride : (n : ℕ) (b : Basis) → stride (recount n b) ≡ stride b
recount-stride n Bezier = refl
recount-stride n BSpline = refl
recount-stride n (Cardinal c) = refl
recount-stride n Hermite = refl
recount-stride n (Loop l) = refl

pub round-records : (b : Basis) (m : ℕ) → is_loop b ≡ true → records_of b m ≡ m
round-records b m = open-or-loop (λ b. is_loop b ≡ true → records_of b m ≡ m) (λ b ends loop. absurd (true-is-not-false loop ends)) (λ n _. loop-records n m) b

-- counting round another number changes neither, and a loop then runs round that number
pub recount-records : (n : ℕ) (b : Basis) (m : ℕ) → records_of (recount n b) m ≡ records_of b m
unfolding records_of
recount-records n Bezier m = refl
recount-records n BSpline m = refl
recount-records n (Cardinal c) m = refl
recount-records n Hermite m = refl
recount-records n (Loop l) m = refl

pub recount-spans : (n : ℕ) (b : Basis) (m : ℕ) → spans_of (recount n b) m ≡ spans_of b m
unfolding spans_of
recount-spans n Bezier m = refl
recount-spans n BSpline m = refl
recount-spans n (Cardinal c) m = refl
recount-spans n Hermite m = refl
recount-spans n (Loop l) m = refl

pub recount-round : (b : Basis) (m : ℕ) → least_records ≤ records_of b m → RunsRound (recount m b) m
recount-round Bezier m h = tt
recount-round BSpline m h = tt
recount-round (Cardinal c) m h = tt
recount-round Hermite m h = tt
recount-round (Loop n) m h = (refl, omega (arith, loop-records n m))

-- ---- allowed counts

pub spans-at-most : (b : Basis) (n : ℕ) → spans_of b n ≤ n
unfolding spans_of
spans-at-most b n = omega (arith, div-le_self (n - tail b) (stride b))

pub spans-least : (b : Basis) (n : ℕ) → least_records ≤ n → 1 ≤ spans_of b n
unfolding spans_of
spans-least b n h = (le-div_iff_mul-le {k = stride b} {x = 1} {y = n - tail b} (stride-bounds b).0).1 (omega (arith, one-mul (stride b), tail-few b))

-- from four to 64, the count has to be the records of its spans
pub allowed-between : (b : Basis) (n : ℕ) → least_records ≤ n → n ≤ most_records → allowed b n ≡ eqb (records_of b (spans_of b n)) n
unfolding allowed
allowed-between b n h k = simp (le-leb least_records n h, le-leb n most_records k)

-- what an allowed count is
pub allowed-facts : (b : Basis) (n : ℕ) → allowed b n ≡ true → (least_records ≤ n) × (n ≤ most_records) × (records_of b (spans_of b n) ≡ n)
unfolding allowed
allowed-facts b n e =
    let (least, rest) = and-true (leb least_records n) (leb n most_records && eqb (records_of b (spans_of b n)) n) e in
    let (most, whole) = and-true (leb n most_records) (eqb (records_of b (spans_of b n)) n) rest in
    (leb-true least_records n least, leb-true n most_records most, eqb-true (records_of b (spans_of b n)) n whole)

pub facts-allowed : (b : Basis) (n : ℕ) → least_records ≤ n → n ≤ most_records → records_of b (spans_of b n) ≡ n → allowed b n ≡ true
unfolding allowed
facts-allowed b n least most whole = simp (le-leb least_records n least, le-leb n most_records most, eq-eqb (records_of b (spans_of b n)) n whole)

-- ---- points

pub points-at-most : (k m : ℕ) → k ≤ deepest → m ≤ most_records → points_of k m ≤ most_points
unfolding points_of
points-at-most k m h l = omega (arith, mul-le-mul l (pow_mono {i = k} {j = deepest} h))
