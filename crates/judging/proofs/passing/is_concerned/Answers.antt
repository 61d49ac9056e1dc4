-- A record that moves no power concerns nobody; one that does, its parties.
use Rattle.judging.proofs.passing.is_concerned.Goals as goal

pub returns-then-not-status : goal.returns-then-not-status
returns-then-not-status c =
    let a = c.args in
    rw c.if-not-status.true

pub returns : goal.returns
returns c =
    let a = c.args in
    rw c.if-not-status.false
