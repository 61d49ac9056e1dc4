-- The line's number, and the rest of the line.
use native.Mathlib.Omega.{arith}
use Rattle.writer.proofs.Placed.{placed_length}
use Rattle.script.proofs.Decimals.{decimal_most}
use Rattle.script.proofs.AnswerLines.{answer_placed}
use Rattle.script.proofs.writing.put_answer.Goals as goal

pub put_number-second-requires : goal.put_number-second-requires
put_number-second-requires c = omega (arith, decimal_most c.args.number (omega arith), c.requires)

pub put_said-requires : goal.put_said-requires
put_said-requires c =
    omega (arith, decimal_most c.args.number (omega arith), c.requires, placed_length c.put_number-second.ensures, c.put_number-second.ensures.follows)

pub returns : goal.returns
returns c = answer_placed _ _ _ _ _ _ _ _ (omega arith) c.put_number-second.ensures c.put_said.ensures
