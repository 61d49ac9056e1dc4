-- The bytes from the place on are copied to the front.
use Rattle.lines.proofs.Fronts.{held_moved}
use Rattle.lines.proofs.holding.hold.Goals as goal

pub returns : goal.returns
returns c = held_moved _ _ _ c.min-end.ensures c.min-start.ensures c.min-held.ensures c.copy_within.ensures.after
