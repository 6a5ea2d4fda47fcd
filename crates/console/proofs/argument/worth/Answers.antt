-- Each digit is put behind those before it.
use Rattle.std.proofs.Common.{◌≡◌, refl, ◌∙◌, rules}
use Rattle.std.specs.List.{fold}
use Rattle.console.proofs.Digits.{with_digit, folded}
use Rattle.console.proofs.argument.worth.Goals as goal

pub returns : goal.returns
returns c =
    let digits : c.fold.result ≡ fold with_digit 0 c.args.text.now = search rules in
    digits ∙ folded c.args.text.now 0 refl
