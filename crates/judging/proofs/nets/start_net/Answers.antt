-- A load that was found gives its row, and a net without one stays at the base.
use Rattle.judging.proofs.Netting.{based_at, based_past, based_nothing}
use Rattle.judging.proofs.nets.start_net.Goals as goal
use Rattle.judging.proofs.nets.start_net.Goals.{in_default-via-in-None-1, in_default-via-in-Some+else-i-lt-LOADS}

pub returns-then-i-lt-LOADS : goal.returns-then-i-lt-LOADS
returns-then-i-lt-LOADS c =
    let a = c.args in
    based_at a.rows.now a.at _ c.in-Some.i c.in-Some.is c.if-i-lt-LOADS.true c.put_load.ensures

pub returns-in_default : goal.returns-in_default
returns-in_default c =
    let a = c.args in
    elim c.in_default.branch [
      | in_default-via-in-None-1 w ↦ based_nothing a.rows.now a.at a.net.now (cc) c.requires
      | in_default-via-in-Some+else-i-lt-LOADS w ↦ based_past a.rows.now a.at a.net.now w.in-Some.i w.in-Some.is w.if-i-lt-LOADS.false c.requires
    ]
