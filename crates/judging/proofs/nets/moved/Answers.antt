-- A number and a power: their sum where it is gained, and their difference where it is given.
use Rattle.std.proofs.Common.{arith}
use Rattle.judging.proofs.nets.moved.Goals as goal

pub returns-then-gains : goal.returns-then-gains
returns-then-gains c = rw c.if-gains.true (omega arith)

pub returns-else-gains : goal.returns-else-gains
returns-else-gains c = rw c.if-gains.false (omega arith)
