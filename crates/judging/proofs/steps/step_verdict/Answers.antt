-- Where all counted steps fit, no check fails; else the failing check is looked for.
use Rattle.judging.proofs.Verdicts.{all_passed}
use Rattle.judging.proofs.steps.step_verdict.Goals as goal

pub returns-then-all_fit : goal.returns-then-all_fit
returns-then-all_fit c =
    let a = c.args in
    let p = c.requires in
    all_passed (record { ceder = a.ceder.now; acquirer = a.acquirer.now }) a.ps.now a.ceders a.acquirers a.first a.until p.0
    (c.all_fit.ensures c.if-all_fit.true)
