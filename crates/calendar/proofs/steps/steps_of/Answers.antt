-- `steps::steps_of` meets its contract: the table has the two change days of the day's year, and no other day is one.
use borrow.Author.Rules.{rules}
use Rattle.calendar.proofs.StepCounts.{no_day, no_sunday, short_day_lem, long_day_lem, other_day}
use Rattle.calendar.proofs.steps.steps_of.Goals as goal

pub returns-then-day-ge-DAYS : goal.returns-then-day-ge-DAYS
returns-then-day-ge-DAYS c = search (no_day, rules)

pub returns-then-weekday_of-ne-SUNDAY : goal.returns-then-weekday_of-ne-SUNDAY
returns-then-weekday_of-ne-SUNDAY c = search (no_sunday, rules)

pub returns-then-day-change_day : goal.returns-then-day-change_day
returns-then-day-change_day c = search (short_day_lem, rules)

pub returns-then-day-change_day-2 : goal.returns-then-day-change_day-2
returns-then-day-change_day-2 c = search (long_day_lem, rules)

pub returns : goal.returns
returns c = search (other_day, rules)
