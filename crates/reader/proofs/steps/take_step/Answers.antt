-- Each way through the code is a way through the definition.
use Rattle.reader.proofs.Taking.{take_over, take_on}
use Rattle.reader.proofs.steps.take_step.Goals as goal

pub returns-then-is_over : goal.returns-then-is_over
returns-then-is_over c =
    let a = c.args in
    take_over a.steps a.t _ c.is_over.ensures a.powers.now a.line.now _ c.if-is_over.true c.count.ensures

pub returns : goal.returns
returns c =
    let a = c.args in
    take_on a.steps a.t _ c.is_over.ensures a.powers.now a.line.now _ _ c.if-is_over.false
    c.line_power-said.ensures c.note.ensures
