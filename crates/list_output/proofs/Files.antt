-- What reading a file came to, with the controls that it left: its parts fit, and one after another they are the file's listing.
use Rattle.std.specs.Prelude.{Result}
use mathlib.Core.List.{List}
use mathlib.Core.Path.{◌≡◌, sym, ap, ◌∙◌, subst}
use Prim.Native.Nat.{ℕ}
use lib.IntN.{ℤ}
use Rattle.whole.specs.Outcome.{Outcome, outcome}
use Rattle.record_file.specs.Rows.{reading}
use Rattle.file_list.specs.Files.{controls, file_text}
use Rattle.file_list.specs.Parts.{part_text, parts_of, joined}
use Rattle.file_list.proofs.Fits.{part-fits}
use Rattle.file_list.proofs.Joined.{file-joined}
use Rattle.list_output.specs.Written.{Fitting}
use Rattle.shape.specs.declared.Refusal.{Refusal}
use Rattle.shape.specs.declared.Shape.{Shape}

module _ (file : List ℕ) (r : Result Shape Refusal) (held : List ℤ) (is : outcome r held ≡ reading file controls) where
  pub fitting : Fitting r held
  fitting = subst (λ (o : Outcome (Result Shape Refusal) (List ℤ)). Fitting o.answer o.held) (sym is) (part-fits file)

  pub listing : joined (part_text r held) 0 (parts_of r) ≡ file_text file
  listing = ap (λ (o : Outcome (Result Shape Refusal) (List ℤ)). joined (part_text o.answer o.held) 0 (parts_of o.answer)) is ∙ file-joined file
