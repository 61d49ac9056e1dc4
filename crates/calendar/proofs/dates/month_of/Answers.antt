-- `dates::month_of` meets its contract: the guess is right, by a test of each day of a year, which antt computes.
use borrow.Author.Rules.{rules}
use Rattle.calendar.proofs.Decoding.{month_later, month_near}
use Rattle.calendar.proofs.dates.month_of.Goals as goal

pub returns-then-before_month-rest : goal.returns-then-before_month-rest
returns-then-before_month-rest c = search (month_later, rules)

pub returns-else-before_month-rest : goal.returns-else-before_month-rest
returns-else-before_month-rest c = search (month_near, rules)
