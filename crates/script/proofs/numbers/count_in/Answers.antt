-- The fields so far are numbers, and those that are left decide.
use mathlib.Core.Path.{ap}
use Rattle.std.specs.Prelude.{is_some}
use Rattle.script.proofs.Powers.{counted_more, counted_all}
use Rattle.script.proofs.numbers.count_in.Goals as goal

pub loop-at-preserved : goal.loop-at-preserved
loop-at-preserved c = counted_more c.loop-at.invariant c.numeral_from-numeral.ensures (ap is_some c.in_ok-numeral.was)

pub returns : goal.returns
returns c = counted_all _ _ _ _ c.loop-at-test.false c.loop-at.invariant
