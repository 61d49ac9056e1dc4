-- `steps::put_step` meets its contract: the byte before the step, its labels and its power, one after the other.
use Rattle.request_writer.proofs.StepObjects.{step_placed}
use Rattle.request_writer.proofs.steps.put_step.Goals as goal

pub returns : goal.returns
returns c =
    step_placed c.args.steps c.args.k c.args.p c.args.buffer.now c.args.at c.requires.3 _ _ c.put_mark-first.ensures
    _ _ c.put_label-second.ensures _ _ c.put_label-third.ensures _ _ c.put_power.ensures
