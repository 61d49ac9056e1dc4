-- Each way through the fields.
use native.Mathlib.Omega.{arith}
use Rattle.script.proofs.LineKinds.{record_short, record_read, record_rest}
use Rattle.script.proofs.reading.record_of.Goals as goal

pub returns-in_err-asker : goal.returns-in_err-asker
returns-in_err-asker c = rw c.from_residual.ensures (record_short _ _ c.in_err-asker.ensures (omega arith))

pub returns-in_err-id : goal.returns-in_err-id
returns-in_err-id c =
    let a = c.in_ok-asker.ensures in
    rw c.from_residual-in_err-id.ensures (record_rest _ _ a.0 a.1 c.in_err-id.ensures)

pub returns : goal.returns
returns c = let a = c.in_ok-asker.ensures in record_read _ _ a.0 a.1 c.in_ok-id.ensures
