-- The search from the place on is the one asked for, since the sixteen bytes that are passed at once don't have the byte.
use mathlib.Core.Path.{◌≡◌}
use Prim.Native.Nat.{◌-◌}
use lib.ListN.{length}
use Rattle.lists.specs.Searches.{byte_from}
use Rattle.lists.proofs.bytes.far_byte_from.Given as goal

abbrev pub invariant-loop-i : goal.invariant-loop-i
invariant-loop-i l = byte_from l.b l.s l.i ≡ byte_from l.b l.s l.from

abbrev pub decreases-loop-i : goal.decreases-loop-i
decreases-loop-i l = length l.s - l.i
