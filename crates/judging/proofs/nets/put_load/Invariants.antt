-- Each step of the load's row is counted from the base.
use Rattle.std.proofs.Common.{◌≡◌, ℕ, ◌+◌, ◌<◌, ◌≤◌, length, get_or}
use Rattle.judging.specs.Nets.{base}
use Rattle.judging.proofs.nets.put_load.Given as goal

abbrev pub invariant-loop-s : goal.invariant-loop-s
invariant-loop-s l =
    (length l.net ≡ 50)
    × ((j : ℕ) → j < l.s → (get_or l.net j 0 ≡ base + get_or l.row j 0) × (get_or l.row j 0 ≤ 65535))
