-- `step_line::line_length` meets its contract: two labels, the digits, three `;` and LF.
use Rattle.writer.proofs.StepLines.{line_sum}
use Rattle.writer.proofs.step_line.line_length.Goals as goal

pub returns : goal.returns
returns c =
    (line_sum c.args.steps c.args.step c.requires.0 c.requires.1 c.labels_of-labels.result
    c.labels_of-labels.ensures c.args.p c.digits_of-power.result.len
    c.digits_of-power.ensures.1).0
