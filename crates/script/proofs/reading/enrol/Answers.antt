-- Each way through the fields.
use native.Mathlib.Omega.{arith}
use Rattle.script.proofs.LineKinds.{dated, undated, first_bad, second_bad, enrol_short, enrol_shorter, enrol_read, enrol_rest}
use Rattle.script.proofs.reading.enrol.Goals as goal

pub returns-in_err-code : goal.returns-in_err-code
returns-in_err-code c = rw c.from_residual.ensures (enrol_short _ _ c.in_err-code.ensures (omega arith))

pub returns-in_err-date : goal.returns-in_err-date
returns-in_err-date c =
    rw c.from_residual-in_err-date.ensures (enrol_shorter _ _ c.in_ok-code.ensures.0 _ c.in_err-date.ensures (omega arith))

pub returns-in_err-first : goal.returns-in_err-first
returns-in_err-first c =
    let b = c.in_ok-date.ensures in
    rw c.from_residual-in_err-first.ensures (enrol_rest _ _ c.in_ok-code.ensures.0 _ b.0 b.1 (first_bad _ (undated _ c.in_err-first.ensures)))

pub returns-in_err-last : goal.returns-in_err-last
returns-in_err-last c =
    let b = c.in_ok-date.ensures in
    rw c.from_residual-in_err-last.ensures (enrol_rest _ _ c.in_ok-code.ensures.0 _ b.0 b.1 (second_bad (dated _ _ c.in_ok-first.ensures).0 (undated _ c.in_err-last.ensures)))

pub returns : goal.returns
returns c =
    let b = c.in_ok-date.ensures in
    enrol_read _ _ c.in_ok-code.ensures.0 _ b.0 b.1 (dated _ _ c.in_ok-first.ensures) (dated _ _ c.in_ok-last.ensures)
