-- `steps::put_power` meets its contract: the power's digits, and the end of its step.
use Rattle.request_writer.proofs.StepObjects.{power_placed}
use Rattle.request_writer.proofs.steps.put_power.Goals as goal

pub returns : goal.returns
returns c =
    power_placed c.args.p _ c.digits_of-power.ensures.0 c.args.buffer.now c.args.at c.requires.1 _ _ c.put_value-end.ensures _ _
    c.put_text.ensures
