-- std's search finds the first step as the definition does.
use Rattle.std.proofs.Common.{◌≡◌, true, false, ◌∙◌, rules, tests}
use Rattle.std.proofs.lemmas.Iterator.{first_from_Range}
use Rattle.judging.specs.Steps.{below_at}
use Rattle.judging.proofs.Found.{first_found}
use Rattle.judging.proofs.steps.first_below.Goals as goal

pub returns : goal.returns
returns c =
    let p = below_at c.args.left c.args.right in
    c.unwrap_or.ensures ∙ first_found p c.args.first c.args.until c.find.result c.requires.0
    (first_from_Range _ _ _ _ (λ s. p s ≡ true) (λ s. p s ≡ false) c.find.ensures.ran
    (λ x q k. search (rules, tests))
    (λ x q k. (search rules, search (rules, tests))))
