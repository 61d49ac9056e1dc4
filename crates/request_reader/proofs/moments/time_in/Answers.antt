-- `moments::time_in` meets its contract: its test is the definition's.
use Rattle.request_reader.specs.Walking.{time_in}
use Rattle.request_reader.proofs.moments.time_in.Goals as goal
use Rattle.request_reader.proofs.moments.time_in.Goals.{After-pair-second}

pub returns-then-hour-minute : goal.returns-then-hour-minute
unfolding time_in
returns-then-hour-minute c = rw (← c.pair-hour.ensures, ← c.pair-minute.ensures, ← c.pair-second.ensures, c.if-hour-minute.true)

pub returns-else-hour-minute : goal.returns-else-hour-minute
unfolding time_in
returns-else-hour-minute c = rw (← c.pair-hour.ensures, ← c.pair-minute.ensures, ← c.pair-second.ensures, c.if-hour-minute.false)
