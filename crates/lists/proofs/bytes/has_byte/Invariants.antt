-- Of the bytes passed it is known whether one of them is the byte.
use mathlib.Core.Path.{◌≡◌}
use lib.ListN.{take}
use Rattle.lists.specs.Searches.{some, is_byte}
use Rattle.lists.proofs.bytes.has_byte.Given as goal

abbrev pub invariant-loop-x : goal.invariant-loop-x
invariant-loop-x l = l.found ≡ some (is_byte l.b) (take l.x-index l.s)
