-- Each way through the fields.
use native.Mathlib.Omega.{arith}
use Rattle.script.proofs.LineKinds.{dated, undated, first_bad, second_bad, advance_short, advance_read, advance_rest}
use Rattle.script.proofs.reading.advance.Goals as goal

pub returns-in_err-date : goal.returns-in_err-date
returns-in_err-date c = rw c.from_residual.ensures (advance_short _ _ c.in_err-date.ensures (omega arith))

pub returns-in_err-day : goal.returns-in_err-day
returns-in_err-day c =
    let a = c.in_ok-date.ensures in
    rw c.from_residual-in_err-day.ensures (advance_rest _ _ a.0 a.1 (first_bad _ (undated _ c.in_err-day.ensures)))

pub returns-in_err-minute : goal.returns-in_err-minute
returns-in_err-minute c =
    let a = c.in_ok-date.ensures in
    rw c.from_residual-in_err-minute.ensures (advance_rest _ _ a.0 a.1 (second_bad (dated _ _ c.in_ok-day.ensures).0 c.in_err-minute.ensures))

pub returns : goal.returns
returns c = let a = c.in_ok-date.ensures in advance_read _ _ a.0 a.1 (dated _ _ c.in_ok-day.ensures) c.in_ok-minute.ensures
