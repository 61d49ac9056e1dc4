-- `changing::change_at` meets its contract: a record of the filing's key is changed and stored, and any other is left.
use Rattle.tables.specs.Tables.{columns}
use Rattle.recording.proofs.Changes.{stored, left_alone}
use Rattle.recording.proofs.changing.change_at.Goals as goal

pub returns-then-keys-at : goal.returns-then-keys-at
returns-then-keys-at c =
    let p = c.args in
    λ ids.
    let cols = columns p.statuses.now ids p.keys.now p.marks.now p.rows.now in
    stored p.paired p.clock p.by p.own p.ps cols p.i c.change_of-change.result.status
    c.change_of-change.result.until c.with_until-next.result c.if-keys-at.true
    (c.change_of-change.ensures _) c.with_until-next.ensures

pub returns-else-keys-at : goal.returns-else-keys-at
returns-else-keys-at c =
    let p = c.args in
    λ ids.
    let cols = columns p.statuses.now ids p.keys.now p.marks.now p.rows.now in
    left_alone p.paired p.clock p.by p.own p.ps cols p.i c.if-keys-at.false
