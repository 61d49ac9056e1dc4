-- As long as the loop runs, what is kept now and the lines from here on come to what all lines come to.
use mathlib.Core.Path.{◌≡◌}
use Prim.Native.Nat.{◌+◌, ◌-◌, ◌*◌, ◌≤◌}
use Rattle.reader.specs.Walking.{times_text, half_hours}
use Rattle.reader.specs.Folding.{RunOn}
use Rattle.reader.proofs.GoodLines.{with_lines}
use Rattle.reader.proofs.steps.good_run.Given as goal

abbrev pub invariant-loop-k : goal.invariant-loop-k
invariant-loop-k l =
    (l.t.fault ≡ 0) × (l.initial.k ≤ l.k) × (l.k ≤ l.stop) × (l.i ≡ 6 * (half_hours l.steps l.initial.k + (l.k - l.initial.k))) × (l.times ≡ times_text)
    × RunOn l.steps l.body l.from (record { tally = l.t; powers = l.initial.powers })
    l.at (record { tally = with_lines l.t l.k; powers = l.powers })

abbrev pub decreases-loop-k : goal.decreases-loop-k
decreases-loop-k l = l.stop - l.k
