-- Where neither row 6 nor row 7 holds, the records are written and the last of them is current.
use Rattle.std.specs.List.{slice_get}
use Rattle.std.specs.Option.{unwrap_or}
use Rattle.std.proofs.Common.{◌≡◌, ◌∙◌, ap, sym, refl, List, [], ◌∷◌, length, ◌+◌, ◌-◌, arith}
use Rattle.drawing.specs.declared.Control.{Control}
use Rattle.drawing.specs.Drawing.{last_of}
use Rattle.drawing.proofs.Tables.{roomy}
use Rattle.drawing.proofs.State.add.Goals as goal

last-at : (c d a : Control) (cs : List Control) → unwrap_or (slice_get (a ∷ cs) (length cs)) d ≡ last_of c (a ∷ cs)
last-at c d a [] = refl
last-at c d a (b ∷ cs) = last-at a d b cs

last-is : (c : Control) (cs : List Control) → unwrap_or (slice_get cs (length cs - 1)) c ≡ last_of c cs
last-is c [] = refl
last-is c (a ∷ cs) = let less : length (a ∷ cs) - 1 ≡ length cs = omega arith in rw less (last-at c c a cs)

pub returns : goal.returns
returns c =
    let t = c.args in
    let count : c.saturating_add-count.result ≡ t.self.count + length t.records.now = omega arith in
    let last : c.unwrap_or.result ≡ last_of t.self.current t.records.now = c.unwrap_or.ensures ∙ ap (λ o. unwrap_or o t.self.current) (c.copied.ensures ∙ c.last.ensures.value) ∙ last-is t.self.current t.records.now in
    rw (count, last, c.put.ensures) (sym (roomy t.self t.records.now t.start t.closed t.controls.now (omega arith) (omega arith)))
