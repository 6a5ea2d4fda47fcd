-- Where the bytes fit they are copied, and where they do not nothing is.
use Rattle.std.proofs.Common.{◌≡◌, ◌+◌, ◌-◌, ℕ, List, ◌++◌, length, take, arith, sym, ap, ◌∙◌, drop-drop, append_assoc}
use borrow.Rule.Slice.PartMut.{put_mid}
use lib.ListN.{drop}
use Rattle.std.specs.Prelude.{Some}
use Rattle.whole.specs.Outcome.{outcome}
use Rattle.listing.proofs.Fitting.{laid, stands, stays}
use Rattle.listing.proofs.word.put_word.Goals as goal

-- a word copied over as many bytes from a place on
copied : (l : List ℕ) (at k : ℕ) (word copy : List ℕ) → k ≡ length word → copy ≡ word → put_mid at k l copy ≡ laid l at word
copied l at k word copy long is =
    (λ i. take at l ++ (is i ++ drop (long i) (drop at l)))
    ∙ ap (λ (t : List ℕ). take at l ++ (word ++ t)) (drop-drop (length word) at l)
    ∙ sym (append_assoc (take at l) word (drop (at + length word) l))

pub returns-in_err-end : goal.returns-in_err-end
returns-in_err-end c =
    ap (λ o. outcome o c.args.text.now) c.from_residual.ensures
    ∙ stays c.args.text.now c.args.at c.args.word.now (omega (arith, c.in_err-end.ensures))

pub returns-then-end-text : goal.returns-then-end-text
returns-then-end-text c = stays c.args.text.now c.args.at c.args.word.now (omega (arith, c.in_ok-end.ensures))

pub returns : goal.returns
returns c =
    let ends : c.in_ok-end.end ≡ c.args.at + length c.args.word.now = omega (arith, c.in_ok-end.ensures) in
    let text = copied c.args.text.now c.args.at (c.in_ok-end.end - c.args.at) c.args.word.now c.copy_from_slice.new.self (omega arith) c.copy_from_slice.ensures.after in
    (λ i. outcome (Some (ends i)) (text i)) ∙ stands c.args.text.now c.args.at c.args.word.now (omega arith)
