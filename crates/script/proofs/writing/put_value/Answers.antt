-- A comma, and a letter or a number.
use native.Mathlib.Omega.{arith}
use lib.ListN.{length-set}
use Rattle.script.proofs.Decimals.{decimal_few}
use Rattle.script.proofs.AnswerLines.{letter_placed, number_placed}
use Rattle.script.proofs.writing.put_value.Goals as goal

pub returns-then-letter : goal.returns-then-letter
returns-then-letter c = (letter_placed _ _ _ _ c.if-letter.true, omega arith)

pub put_number-requires : goal.put_number-requires
put_number-requires c = rw c.from.ensures (simp length-set (omega (arith, c.requires, decimal_few c.args.v (omega arith))))

pub returns : goal.returns
returns c = number_placed _ _ _ _ _ _ c.if-letter.false (omega arith) (rw c.from.ensures at c.put_number.ensures)
