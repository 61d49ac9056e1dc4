-- `adding::totals_of` meets its contract: both sums are those of the records passed, from one of the category and day to the next.
use mathlib.Core.Path.{◌≡◌}
use mathlib.Core.List.{List}
use Prim.Native.Nat.{ℕ, ◌≤◌, ◌-◌, ◌*◌}
use Rattle.lists.specs.Sums.{sum_to}
use Rattle.tables.specs.Lent.{columns_of}
use Rattle.recording.specs.Recording.{gained_at, given_at}
use Rattle.recording.proofs.adding.totals_of.Given as goal

abbrev pub invariant-loop-k : goal.invariant-loop-k
invariant-loop-k l =
    (l.i ≤ l.n) × (l.gained ≤ l.i * 65535) × (l.given ≤ l.i * 65535) ×
    ((ids : List ℕ) → l.gained ≡ sum_to l.i (gained_at (columns_of l.records ids) l.market l.actor l.s)) ×
    ((ids : List ℕ) → l.given ≡ sum_to l.i (given_at (columns_of l.records ids) l.market l.actor l.s))

abbrev pub decreases-loop-k : goal.decreases-loop-k
decreases-loop-k l = l.n - l.i
