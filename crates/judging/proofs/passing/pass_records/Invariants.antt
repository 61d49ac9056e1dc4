-- Both nets after the records passed, and the places of those under the key: from one record of the category and day to the next.
use Rattle.std.proofs.Common.{◌-◌, ◌≤◌}
use Rattle.judging.proofs.Passed.{PassedTo}
use Rattle.judging.proofs.passing.pass_records.Given as goal

abbrev pub invariant-loop-k : goal.invariant-loop-k
invariant-loop-k l =
    (l.i ≤ l.n)
    × PassedTo l.records.statuses.now l.records.keys.now l.records.marks.now l.records.rows.now l.own l.first l.until l.initial.ceder l.initial.acquirer l.i
    (record { ceder = l.ceder; acquirer = l.acquirer; places = l.places; count = l.count })

abbrev pub decreases-loop-k : goal.decreases-loop-k
decreases-loop-k l = l.n - l.i
