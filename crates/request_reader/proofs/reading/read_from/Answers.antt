-- `reading::read_from` meets its contract: past the end nothing stands, else the part from the place on is read.
use native.Mathlib.Omega.{arith}
use Rattle.request_reader.proofs.ObjectReads.{past_end}
use Rattle.request_reader.proofs.reading.read_from.Goals as goal

pub returns-then-s-at : goal.returns-then-s-at
returns-then-s-at c = past_end c.args.s.now c.args.at (omega (arith, c.if-s-at.true))
