-- The pieces, one after another, and LF.
use Rattle.script.proofs.AnswerLines.{ok_placed, no_placed}
use Rattle.script.proofs.writing.put_said.Goals as goal

pub returns-then-number-eq0 : goal.returns-then-number-eq0
returns-then-number-eq0 c = ok_placed _ _ _ _ _ _ _ c.if-number-eq0.true c.put_word-second.ensures c.put_values-end.ensures

pub returns : goal.returns
returns c = no_placed _ _ _ _ _ _ _ _ _ c.if-number-eq0.false c.put_word-second-2.ensures c.put_value-third.ensures c.put_value-end.ensures
