-- `loads::in_places` meets its contract: the powers passed stand in their places.
use native.Mathlib.Omega.{arith}
use Rattle.tables.proofs.Placed.{placed_all}
use Rattle.tables.proofs.loads.in_places.Goals as goal

pub returns : goal.returns
returns c = placed_all c.args.powers.now c.loop-i.row c.loop-i.i c.requires.0 (omega arith) c.loop-i.invariant
