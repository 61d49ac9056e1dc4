-- `steps::steps_length` meets its contract: the sum so far is the length of the steps passed.
use mathlib.Core.Path.{refl}
use native.Mathlib.Omega.{arith}
use Rattle.writer.specs.Placing.{step_texts}
use Rattle.writer.proofs.StepTexts.{sum_more, sum_fits}
use Rattle.request_writer.specs.Pieces.{marked_step}
use Rattle.request_writer.proofs.StepObjects.{step_most}
use Rattle.request_writer.proofs.steps.steps_length.Goals as goal

pub loop-k-init : goal.loop-k-init
unfolding step_texts
loop-k-init c = refl

pub overflow_add-sum : goal.overflow_add-sum
overflow_add-sum c =
    let l = c.loop-k in
    omega
    (arith, c.requires.few, sum_fits (marked_step c.args.steps) c.args.steps c.args.powers.now c.requires l.k c.loop-k-test.true 57 (step_most c.args.steps) l.sum c.step_length-sum.result l.invariant c.step_length-sum.ensures)

pub loop-k-preserved : goal.loop-k-preserved
loop-k-preserved c =
    let l = c.loop-k in
    sum_more (marked_step c.args.steps) c.args.steps c.args.powers.now c.requires l.k c.loop-k-test.true l.sum c.step_length-sum.result l.invariant c.step_length-sum.ensures
