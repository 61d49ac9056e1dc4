-- The values so far are put.
use Rattle.script.proofs.AnswerLines.{Valued}
use Rattle.script.proofs.writing.put_values.Given as goal

abbrev pub invariant-loop-i : goal.invariant-loop-i
invariant-loop-i l = Valued l.initial.out l.at l.letter l.given l.out l.next l.i
