-- No span begins past three times its number; the list holds each of its four records, as the basis counts them.
use mathlib.Core.List.{List}
use mathlib.Core.Path.{◌≡◌, ap, ◌∙◌}
use Prim.Native.Nat.{ℕ, ◌^◌, ◌<◌}
use native.Mathlib.Omega.{arith}
use lib.IntN.{ℤ}
use lib.ListN.{get_or}
use lib.Signed.{mag}
use mir.Syntax.{w64}
use Rattle.whole.proofs.Fit.{kept, kept-is}
use Rattle.curve.specs.Span.{coordinate, record_at, records_from}
use Rattle.curve.proofs.Stride.{first-few}
use Rattle.curve.proofs.records.four_records.Goals as goal

pub four_places-requires : goal.four_places-requires
four_places-requires c = omega (arith, c.first_record.ensures, first-few c.args.basis c.args.span, c.requires.0)

-- a coordinate as the machine keeps it
same : {z w : ℤ} → mag z < 2 ^ 63 → z ≡ w → kept w64 z ≡ w
same {z} held is = kept-is w64 z (record { sfits = held }) ∙ is

pub returns : goal.returns
unfolding records_from
returns c =
    let l = c.args.controls.now in
    let at = λ (r : ℕ). coordinate l c.args.axis (record_at c.args.basis r) in
    let place : ℕ → List ℕ → ℤ = λ i places. coordinate l c.args.axis (get_or places i 0) in
    let places = c.four_places.ensures in
    (λ k.
    record {
      a = (same c.coordinate_of.type_inv c.coordinate_of.ensures ∙ ap (place 0) places) k;
      b = (same c.coordinate_of-2.type_inv c.coordinate_of-2.ensures ∙ ap (place 1) places) k;
      c = (same c.coordinate_of-3.type_inv c.coordinate_of-3.ensures ∙ ap (place 2) places) k;
      d = (same c.coordinate_of-4.type_inv c.coordinate_of-4.ensures ∙ ap (place 3) places) k;
    })
    ∙ ap (λ (n : ℕ). records_from n at) c.first_record.ensures
