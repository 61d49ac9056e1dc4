-- Before the turn, and from it on.
use native.Mathlib.Omega.{arith}
use Rattle.reader.proofs.Marking.{half_before, half_after}
use Rattle.reader.proofs.marks.half_hours.Goals as goal

pub returns-then-at-turn_of : goal.returns-then-at-turn_of
returns-then-at-turn_of c = (half_before c.args.steps c.args.at _ c.turn_of.ensures.0 c.if-at-turn_of.true, omega arith)

pub returns-else-at-turn_of : goal.returns-else-at-turn_of
returns-else-at-turn_of c = (half_after c.args.steps c.args.at _ c.turn_of.ensures.0 c.if-at-turn_of.false, omega arith)
