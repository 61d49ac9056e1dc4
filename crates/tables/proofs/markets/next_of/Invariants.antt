-- The search from `k` on answers as the search from the start: the first record is passed alone, then four at once, then one by one.
use mathlib.Core.Path.{◌≡◌}
use Prim.Native.Nat.{◌-◌, ◌≤◌, min}
use Rattle.lists.specs.Searches.{first_from}
use Rattle.tables.specs.Passing.{in_market}
use Rattle.tables.proofs.markets.next_of.Given as goal

abbrev pub invariant-loop-k : goal.invariant-loop-k
invariant-loop-k l =
    (l.k ≤ l.last) × (first_from (in_market l.keys l.market) l.i (min l.n 256 - l.i) ≡ first_from (in_market l.keys l.market) l.k (l.last - l.k))

abbrev pub decreases-loop-k : goal.decreases-loop-k
decreases-loop-k l = l.last - l.k

abbrev pub invariant-loop-k-2 : goal.invariant-loop-k-2
invariant-loop-k-2 l =
    (l.k ≤ l.last) × (first_from (in_market l.keys l.market) l.i (min l.n 256 - l.i) ≡ first_from (in_market l.keys l.market) l.k (l.last - l.k))
