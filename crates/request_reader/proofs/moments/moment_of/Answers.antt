-- `moments::moment_of` meets its contract: marks, time and date say whether the text is a moment's.
use mathlib.Core.Path.{sym, ◌∙◌}
use Rattle.request_reader.proofs.MomentReads.{no_marks, no_time, no_day, moment_found}
use Rattle.request_reader.proofs.moments.moment_of.Goals as goal

pub returns-then-not-marks_stand : goal.returns-then-not-marks_stand
returns-then-not-marks_stand c = no_marks c.args.s.now (sym c.marks_stand.ensures ∙ c.if-not-marks_stand.true)

pub returns-in_err-second : goal.returns-in_err-second
returns-in_err-second c =
    rw c.from_residual.ensures
    (no_time c.args.s.now (sym c.in_err-second.ensures))

pub returns-in_err-day : goal.returns-in_err-day
returns-in_err-day c =
    rw c.from_residual-in_err-day.ensures
    (no_day c.args.s.now (sym c.in_err-day.ensures))

pub returns : goal.returns
returns c =
    moment_found c.args.s.now c.in_ok-second.second (sym c.in_ok-second.ensures) c.requires c.in_ok-day.day
    (sym c.marks_stand.ensures ∙ c.if-not-marks_stand.false) (sym c.in_ok-day.ensures)
