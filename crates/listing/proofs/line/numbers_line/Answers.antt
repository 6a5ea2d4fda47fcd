-- Each turn adds a number and a space.
use Rattle.std.proofs.Common.{◌≡◌, ◌<◌, ◌^◌, ◌++◌, [], ◌∷◌, ℕ, List, take, get_or, arith, subst, sym, ap, ◌∙◌, take_all}
use Rattle.std.specs.Fmt.{decimal}
use Rattle.listing.specs.Listing.{newline, numbers_line}
use Rattle.listing.proofs.Numbers.{spaced, spaced-more, line-of}
use Rattle.listing.proofs.line.numbers_line.Goals as goal

pub loop-number-preserved : goal.loop-number-preserved
loop-number-preserved c =
    let l = c.loop-number in
    let ns = c.unwrap.result.1.now in
    let more = spaced-more ns l.number-index c.loop-number-test.true in (
      c.add_number.ensures.added ∙ ap (λ (line : List ℕ). line ++ (decimal (get_or ns l.number-index 0) ++ (32 ∷ []))) l.invariant.0 ∙ sym more,
      omega (arith, c.add_number.ensures.len, l.invariant.1),
    )

pub returns : goal.returns
returns c =
    let l = c.loop-number in
    let ns = c.unwrap.result.1.now in
    let n = c.unwrap.result.0.now in
    let all : take l.number-index ns ≡ ns = take_all l.number-index ns c.loop-number-test.false in
    let numbers = (rw c.unwrap.ensures at c.split_last.ensures.cases).0 in
    c.add_number-2.ensures.added
    ∙ ap (λ (line : List ℕ). line ++ (decimal n ++ (newline ∷ []))) (l.invariant.0 ∙ ap spaced all)
    ∙ line-of ns n (subst (λ (l : List ℕ). (i : ℕ) → get_or l i 0 < 2 ^ 64) numbers (λ i. (c.type_inv.numbers i).fits))
    ∙ ap numbers_line (sym numbers)
