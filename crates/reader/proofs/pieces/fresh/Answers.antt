-- `pieces::fresh` meets its contract: a day has at most 50 steps.
use lib.ListN.{take}
use Rattle.reader.proofs.Feeding.{fresh_made}
use Rattle.reader.proofs.pieces.fresh.Goals as goal

pub returns : goal.returns
returns c = let a = c.args in fresh_made (take a.named a.header) a.day _ c.steps_of.ensures
