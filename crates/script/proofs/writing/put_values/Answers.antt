-- The values so far are put.
use native.Mathlib.Omega.{arith}
use lib.ListN.{length-take}
use Rattle.script.proofs.AnswerLines.{valued_none, valued_more}
use Rattle.script.proofs.writing.put_values.Goals as goal

pub loop-i-init : goal.loop-i-init
loop-i-init c = valued_none _ _ _ _

pub loop-i-preserved : goal.loop-i-preserved
loop-i-preserved c = valued_more c.loop-i.invariant (omega (arith, length-take c.min.result c.args.values, c.min.ensures)) c.loop-i-test.true c.put_value-next.ensures
