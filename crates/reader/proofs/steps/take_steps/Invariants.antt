-- What the lines from here on add to what is kept now is what all lines add to what was kept first.
use mathlib.Core.Path.{◌≡◌}
use Prim.Native.Nat.{◌+◌, ◌-◌, ◌≤◌}
use lib.ListN.{length, drop}
use Rattle.notification.specs.Reading.{lines_in}
use Rattle.reader.specs.Walking.{whole_to}
use Rattle.reader.specs.Folding.{take_steps}
use Rattle.reader.proofs.steps.take_steps.Given as goal

abbrev pub invariant-loop-run : goal.invariant-loop-run
invariant-loop-run l =
    (l.at ≤ length l.body)
    × (take_steps l.steps (record { tally = l.initial.tally; powers = l.initial.powers }) (lines_in (drop l.from l.body))
    ≡ take_steps l.steps (record { tally = l.tally; powers = l.powers }) (lines_in (drop l.at l.body)))
    × (l.from + whole_to (drop l.from l.body) ≡ l.at + whole_to (drop l.at l.body))

abbrev pub decreases-loop-run : goal.decreases-loop-run
decreases-loop-run l = length l.body - l.at
