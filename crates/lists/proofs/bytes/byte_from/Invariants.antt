-- As long as the loop runs, the byte that is looked for from the place on is the one looked for at first.
use mathlib.Core.Path.{◌≡◌}
use Prim.Native.Nat.{◌-◌}
use lib.ListN.{length}
use Rattle.lists.specs.Searches.{byte_from}
use Rattle.lists.proofs.bytes.byte_from.Given as goal

abbrev pub invariant-loop-i : goal.invariant-loop-i
invariant-loop-i l = byte_from l.b l.s l.i ≡ byte_from l.b l.s l.from

abbrev pub decreases-loop-i : goal.decreases-loop-i
decreases-loop-i l = length l.s - l.i
