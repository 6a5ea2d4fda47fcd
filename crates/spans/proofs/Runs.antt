-- A run of spans: the sums of the spans still to be drawn, rounded to what is held, make the whole; a turn takes the next span's off, and after the last one the end is left.
use mathlib.Core.Path.{◌≡◌, refl, sym, ap, ◌∙◌}
use mathlib.Core.List.{List}
use Prim.Native.Nat.{ℕ, suc, ◌+◌, ◌*◌, ◌-◌, ◌≤◌, ◌<◌}
use native.Mathlib.Nat.{mul-le-mul, mul-le-mul_right, le_refl, suc-mul}
use native.Mathlib.Numerals.{add-one}
use native.Mathlib.Omega.{arith}
use lib.IntN.{ℤ}
use lib.ListN.{length}
use lib.Pow.{pow_mono}
use Rattle.whole.specs.Outcome.{outcome}
use Rattle.curve.specs.Tab.{tab}
use Rattle.curve.specs.Span.{divisor}
use Rattle.curve.specs.Ways.{deepest}
use Rattle.curve.proofs.Tab.{length-tab}
use Rattle.shape.specs.declared.Plan.{Plan}
use Rattle.shape.specs.Shape.{most_records}
use Rattle.spans.specs.Numbers.{sum_of, per_span}
use Rattle.spans.specs.Filled.{fills_run}
use Rattle.spans.specs.Inner.{paired, ending, rounds}
use Rattle.spans.proofs.Rounds.{onward, rounds-append, rounds-from, rounds-most, rounds-outline}
use Rattle.spans.proofs.Numbers.{span_controls, span-sums, next-span, last-two}

-- Before span s n numbers are exact.
pub record Running (p : Plan) (controls : List ℤ) (from to : ℕ) (start : List ℤ) (s n : ℕ) (held : List ℤ) : Type 0 where
  pub few : n ≤ s * per_span p.depth
  pub long : length held ≡ length start
  pub rest : rounds (divisor p.basis p.depth) (tab (sum_of p controls) (s * per_span p.depth) ((to - s) * per_span p.depth + 2)) (s * per_span p.depth) n held ≡ fills_run p from to controls start

pub running-none : (p : Plan) (controls : List ℤ) (from to : ℕ) (l : List ℤ) → Running p controls from to l from 0 l
running-none p controls from to l =
    let w = per_span p.depth in
    record { few = omega arith; long = refl; rest = rounds-outline p controls (from * w) ((to - from) * w + 2) l }

module _ (p : Plan) (controls : List ℤ) (from to : ℕ) (start : List ℤ) (s n : ℕ) (held : List ℤ) (so_far : Running p controls from to start s n held) where
  abbrev w : ℕ
  w = per_span p.depth

  abbrev d : ℕ
  d = divisor p.basis p.depth

  -- what a turn rounds: the next span's sums
  pub running-span : s < to → s < p.spans → (m : ℕ) (new : List ℤ) → length new ≡ length held
      → outcome m new ≡ rounds d (tab (paired p.depth (span_controls p.basis controls s 0) (span_controls p.basis controls s 1)) 0 w) (s * w) 0 held
      → Running p controls from to start (s + 1) (n + m) new
  running-span below there m new same done =
      let f = sum_of p controls in
      let here = tab f (s * w) w in
      let rest = tab f ((s + 1) * w) ((to - (s + 1)) * w + 2) in
      let counted : outcome (n + m) new ≡ rounds d here (s * w) n held = rounds-from d here (s * w) n held (outcome m new) (done ∙ ap (λ sums. rounds d sums (s * w) 0 held) (sym (span-sums p controls s there))) in
      let on : (s + 1) * w ≡ s * w + w = ap (λ (k : ℕ). k * w) (add-one s) ∙ suc-mul s w in
      record {
        few = omega (arith, on, so_far.few, length-tab f (s * w) w, rounds-most d here (s * w) n held (outcome (n + m) new) counted);
        long = same ∙ so_far.long;
        rest = ap (onward d rest ((s + 1) * w)) counted
            ∙ ap (λ (k : ℕ). onward d rest k (rounds d here (s * w) n held)) (on ∙ ap (λ (k : ℕ). s * w + k) (sym (length-tab f (s * w) w)))
            ∙ rounds-append d here rest (s * w) n held
            ∙ ap (λ sums. rounds d sums (s * w) n held) (sym (next-span f p.depth to s below))
            ∙ so_far.rest;
      }

  -- what is left after the last span: its end
  pub running-end : s ≡ to → 0 < to → to ≤ p.spans → (m : ℕ) (new : List ℤ)
      → outcome m new ≡ rounds d (ending p.depth (span_controls p.basis controls (to - 1) 0) (span_controls p.basis controls (to - 1) 1)) (to * w) 0 held
      → outcome (n + m) new ≡ fills_run p from to controls start
  running-end last some there m new done =
      let f = sum_of p controls in
      let t = to - 1 in
      let next : t + 1 ≡ to = omega arith in
      let two = last-two p controls to t (omega arith) (omega arith) in
      let sums : tab f (to * w) ((to - to) * w + 2) ≡ ending p.depth (span_controls p.basis controls t 0) (span_controls p.basis controls t 1) =
      ap (λ (k : ℕ). tab f (k * w) ((to - k) * w + 2)) (sym next) ∙ two in
      rounds-from d (ending p.depth (span_controls p.basis controls t 0) (span_controls p.basis controls t 1)) (to * w) n held (outcome m new) done
      ∙ ap (λ l. rounds d l (to * w) n held) (sym sums)
      ∙ ap (λ (k : ℕ). rounds d (tab f (k * w) ((to - k) * w + 2)) (k * w) n held) (sym last)
      ∙ so_far.rest

-- a place in a run of spans is far inside 64 bits, and a span of the run ends in it
pub place-small : (k s : ℕ) → k ≤ deepest → s ≤ most_records → s * per_span k ≤ most_records * per_span deepest
place-small k s h b = mul-le-mul b (mul-le-mul (le_refl 2) (pow_mono {i = k} {j = deepest} h))

pub span-room : (k s m n : ℕ) → s < m → m * per_span k + 2 ≤ n → s * per_span k + per_span k ≤ n
span-room k s m n h b = omega (arith, suc-mul s (per_span k), mul-le-mul_right {m = suc s} {n = m} (per_span k) h)
