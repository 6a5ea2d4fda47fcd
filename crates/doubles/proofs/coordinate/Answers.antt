-- The size is within the limit or not, whatever its sign; within it 32 bits hold it and its negative.
use Rattle.std.specs.Prelude.{Ok, Err}
use Rattle.std.proofs.Common.{◌≡◌, sym, Bool, true, false, ℕ, ◌^◌, ◌<◌, ◌≤◌, w32, pos, arith}
use Rattle.whole.proofs.Fit.{kept-is, size_fits, turned-kept}
use Rattle.curve.specs.Limits.{limit}
use Rattle.doubles.specs.Exact.{signed}
use Rattle.doubles.specs.Number.{within}
use Rattle.doubles.specs.declared.Unmeasured.TheVariants.{Outside}
use Rattle.doubles.proofs.Measures.{inside, outside}
use Rattle.doubles.proofs.Rounding.{size-signed}
use Rattle.doubles.proofs.coordinate.Goals as goal

within-limit : (s : Bool) (n : ℕ) → n ≤ limit → Ok (signed s n) ≡ within (signed s n)
within-limit s n h = sym (inside (signed s n) (rw size-signed h))

past-limit : (s : Bool) (n : ℕ) → limit < n → Err Outside ≡ within (signed s n)
past-limit s n h = sym (outside (signed s n) (rw size-signed h))

pub returns-then-size-gt-FARTHEST : goal.returns-then-size-gt-FARTHEST
returns-then-size-gt-FARTHEST c = past-limit c.args.negative c.args.size c.if-size-gt-FARTHEST.true

pub returns-then-negative : goal.returns-then-negative
returns-then-negative c =
    let n = c.args.size in
    let small : n < 2 ^ 31 = omega arith in
    rw (turned-kept w32 (pos n) small, c.if-negative.true) (within-limit true n c.if-size-gt-FARTHEST.false)

pub returns-else-negative : goal.returns-else-negative
returns-else-negative c =
    let n = c.args.size in
    let small : n < 2 ^ 31 = omega arith in
    rw (kept-is w32 (pos n) (size_fits w32 (pos n) small), c.if-negative.false) (within-limit false n c.if-size-gt-FARTHEST.false)
