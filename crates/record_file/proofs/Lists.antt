-- A file that is read to a shape of n records writes the first 2n numbers of the lent controls, and keeps all past them.
use Rattle.std.specs.Prelude.{Ok}
use mathlib.Core.Path.{◌≡◌, sym, ◌∙◌, subst}
use mathlib.Core.List.{List}
use Prim.Native.Nat.{ℕ, ◌*◌}
use lib.IntN.{ℤ}
use Rattle.whole.specs.Outcome.{outcome}
use Rattle.shape.specs.declared.Shape.{Shape}
use Rattle.shape.specs.Lists.{Keeps}
use Rattle.shape.proofs.Lists.{tab-keeps}
use Rattle.record_file.specs.Format.{number}
use Rattle.record_file.specs.Rows.{record_count, shape_of, accepts, reading}
use Rattle.record_file.proofs.Exactly.{read_none, none_read}

pub read_keeps : (file : List ℕ) (controls : List ℤ) (s : Shape) (held : List ℤ) → reading file controls ≡ outcome (Ok s) held → Keeps 0 (2 * s.count) controls held
read_keeps file controls s held e =
    let n = record_count file in
    let is : accepts file n controls ≡ outcome (Ok s) held = sym (none_read file controls (read_none file controls s held e)) ∙ e in
    let answer : Ok (shape_of file n) ≡ Ok s = λ i. (is i).answer in
    let shape : shape_of file n ≡ s = cc in
    subst (λ (t : Shape). Keeps 0 (2 * t.count) controls held) shape (subst (Keeps 0 (2 * n) controls) (λ i. (is i).held) (tab-keeps (number file) (2 * n) controls))
