-- `step_line::digits_of` meets its contract: the digits of each length of power.
use native.Mathlib.Omega.{arith}
use Rattle.writer.proofs.StepLines.{digits_one, digits_two, digits_three, digits_four}
use Rattle.writer.proofs.step_line.digits_of.Goals as goal

pub returns-then-p-lt10 : goal.returns-then-p-lt10
returns-then-p-lt10 c = digits_one c.args.p _ (omega (arith, c.digit-ones.ensures, c.from-n.ensures)) c.if-p-lt10.true

pub returns-then-p-lt100 : goal.returns-then-p-lt100
returns-then-p-lt100 c =
    let w = c.from-n.ensures in
    digits_two c.args.p _ (omega (arith, c.digit-ones.ensures)) c.if-p-lt10.false _ (omega (arith, c.digit-tens.ensures)) c.if-p-lt100.true

pub returns-then-p-lt1000 : goal.returns-then-p-lt1000
returns-then-p-lt1000 c =
    let w = c.from-n.ensures in
    digits_three c.args.p _ (omega (arith, c.digit-ones.ensures)) c.if-p-lt10.false _ (omega (arith, c.digit-tens.ensures)) c.if-p-lt100.false
    _ (omega (arith, c.digit-hundreds.ensures)) c.if-p-lt1000.true

pub returns : goal.returns
returns c =
    let w = c.from-n.ensures in
    digits_four c.args.p _ (omega (arith, c.digit-ones.ensures)) c.if-p-lt10.false _ (omega (arith, c.digit-tens.ensures)) c.if-p-lt100.false
    _ (omega (arith, c.digit-hundreds.ensures)) c.if-p-lt1000.false c.requires _ (omega (arith, c.digit.ensures))
