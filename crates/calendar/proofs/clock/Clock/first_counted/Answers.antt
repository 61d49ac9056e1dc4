-- `clock::Clock::first_counted` meets its contract, by the day's place before or after the clock's.
use mathlib.Core.Path.{sym}
use native.Mathlib.Omega.{arith}
use Rattle.calendar.proofs.Clocks.{first_today, first_tomorrow, first_further}
use Rattle.calendar.proofs.clock.Clock.first_counted.Goals as goal

pub returns-then-day-self : goal.returns-then-day-self
returns-then-day-self c =
    sym (first_today c.args.self c.args.day c.if-day-self.true)

pub returns-then-day-self-gt1 : goal.returns-then-day-self-gt1
returns-then-day-self-gt1 c =
    sym (first_further c.args.self c.args.day (omega (arith, c.if-day-self.false, c.if-day-self-gt1.true)))

-- the day is the next one
pub returns : goal.returns
returns c =
    let next = first_tomorrow c.args.self c.args.day (omega (arith, c.if-day-self.false, c.if-day-self-gt1.false)) in
    omega (arith, next, c.steps_of-steps.ensures, c.saturating_sub.ensures)
