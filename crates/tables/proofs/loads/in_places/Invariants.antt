-- `loads::in_places` meets its contract: the powers passed stand in their places.
use mathlib.Core.Path.{◌≡◌}
use Rattle.tables.proofs.Placed.{placed_to}
use Rattle.tables.proofs.loads.in_places.Given as goal

abbrev pub invariant-loop-i : goal.invariant-loop-i
invariant-loop-i l = l.row ≡ placed_to l.powers l.i
