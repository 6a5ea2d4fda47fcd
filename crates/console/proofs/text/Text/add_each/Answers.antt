-- Each turn adds the next item's number.
use Rattle.std.proofs.Common.{refl, sym, ap, ◌∙◌, take_all}
use Rattle.std.proofs.lemmas.List.Sums.{fold_more}
use Rattle.console.specs.Text.{with_spaced, with_each}
use Rattle.console.proofs.text.Text.add_each.Goals as goal

pub loop-item-init : goal.loop-item-init
loop-item-init g c = λ text acts. refl

pub loop-item-preserved : goal.loop-item-preserved
loop-item-preserved g c =
    λ text acts.
    let items = c.args.items.now in
    let before = c.loop-item.invariant text acts in
    let word = c.as_bytes.ensures.value ∙ c.format.ensures.text ∙ acts c.item-item.result c.number.result c.number.ensures ∙ ap text c.item-item.is in
    c.add_spaced.ensures
    ∙ (λ i. with_spaced g.row.N (before i) (word i))
    ∙ sym (fold_more (λ t x. with_spaced g.row.N t (text x)) c.args.self.now items c.loop-item.item-index c.item-item.result c.loop-item-test.true)

pub returns : goal.returns
returns g c =
    λ text acts.
    c.loop-item.invariant text acts
    ∙ ap (with_each g.row.N text c.args.self.now) (take_all c.loop-item.item-index c.args.items.now c.loop-item-test.false)
