-- What is found below `end`, and below `i`, is what is found below the count, while four are passed at once and then one by one.
use mathlib.Core.Path.{◌≡◌}
use Prim.Native.Nat.{◌≤◌, min}
use Rattle.tables.specs.Passing.{last_below}
use Rattle.tables.proofs.LoadTable.{is_number}
use Rattle.tables.proofs.newest.newest.Given as goal

abbrev pub invariant-loop-end : goal.invariant-loop-end
invariant-loop-end g l = (l.end ≤ min l.n g.row.N) × (last_below (is_number l.keys l.number) l.end ≡ last_below (is_number l.keys l.number) (min l.n g.row.N))

abbrev pub decreases-loop-end : goal.decreases-loop-end
decreases-loop-end g l = l.end

abbrev pub invariant-loop-i : goal.invariant-loop-i
invariant-loop-i g l = (l.i ≤ min l.n g.row.N) × (last_below (is_number l.keys l.number) l.i ≡ last_below (is_number l.keys l.number) (min l.n g.row.N))
