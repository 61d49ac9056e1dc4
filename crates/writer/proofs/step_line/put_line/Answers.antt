-- `step_line::put_line` meets its contract: labels, power and LF, one after the other.
use Rattle.writer.proofs.StepLines.{line_placed}
use Rattle.writer.proofs.step_line.put_line.Goals as goal

pub returns : goal.returns
returns c =
    line_placed c.args.steps c.args.step c.args.p c.args.buffer.now c.args.at c.requires.3 _ _
    c.put_labels-second.ensures _ _ c.put_power-end.ensures
