-- What outline-list hands on for a file, turn by turn, over the contracts that are generated from the source (document 02, request 10): it reads the file, asks how many parts there are, and in
-- each turn has the next part written into one text and hands on as many of its characters as the call counts. Definitions only.
use Rattle.std.specs.Prelude.{◌≡◌, List, [], ◌++◌, ℕ, zero, suc, ℤ, replicate, take, Result}
use Rattle.whole.specs.Outcome.{Outcome, outcome}
use Rattle.sequences.specs.Calls.{Meets}
use Rattle.record_file.proofs.read.Kinds as read
use Rattle.record_file.proofs.read.Reads as read-reads
use Rattle.file_list.specs.Files.{controls}
use Rattle.file_list.specs.Parts.{most_part}
use Rattle.shape.specs.declared.Refusal.{Refusal}
use Rattle.shape.specs.declared.Shape.{Shape}
use Rattle.file_list.proofs.parts_of.Kinds as parts-of
use Rattle.file_list.proofs.parts_of.Reads as parts-of-reads
use Rattle.file_list.proofs.list_part.Kinds as list-part
use Rattle.file_list.proofs.list_part.Reads as list-part-reads

-- `read`: its arguments are the file and the controls.
abbrev pub MeetsRead : List ℕ × List ℤ → Outcome (Result Shape Refusal) (List ℤ) → Type 0
MeetsRead = Meets 2 read.ps read.r read-reads.Post (λ κs a. (a.0.now, a.1.0.now)) (λ κs a r u. outcome r u.1.0)

-- `parts_of`: its argument is what reading came to.
abbrev pub MeetsParts : Result Shape Refusal → ℕ → Type 0
MeetsParts = Meets 0 parts-of.ps parts-of.r parts-of-reads.Post (λ κs a. a.0) (λ κs a r u. r)

-- `list_part`: its arguments are what reading came to, the part's number, the controls and the text.
abbrev pub MeetsPart : Result Shape Refusal × ℕ × List ℤ × List ℕ → Outcome ℕ (List ℕ) → Type 0
MeetsPart = Meets 2 list-part.ps list-part.r list-part-reads.Post (λ κs a. (a.0, a.1.0, a.1.1.0.now, a.1.1.1.0.now)) (λ κs a r u. outcome r u.1.1.1.0)

-- n turns from part i on, each with the text that the one before it left: what they hand on.
unfoldable pub Hands : Result Shape Refusal → List ℤ → List ℕ → ℕ → ℕ → List ℕ → Type 0
Hands reading held text i zero out = out ≡ []
Hands reading held text i (suc n) out =
    (o : Outcome ℕ (List ℕ)) × MeetsPart (reading, i, held, text) o × (rest : List ℕ) × (out ≡ take o.answer o.held ++ rest) × Hands reading held o.held (suc i) n rest

-- A whole run, from zeros in the controls and in the text.
abbrev pub Lists : List ℕ → List ℕ → Type 0
Lists file out =
    (o : Outcome (Result Shape Refusal) (List ℤ)) × MeetsRead (file, controls) o × (n : ℕ) × MeetsParts o.answer n × Hands o.answer o.held (replicate most_part 0) 0 n out
