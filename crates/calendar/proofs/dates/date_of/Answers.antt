-- `dates::date_of` meets its contract: the date that it finds has the day's number.
use borrow.Author.Rules.{rules}
use Rattle.calendar.proofs.Decoding.{year_begun, rest_of_year, date_found}
use Rattle.calendar.proofs.dates.date_of.Goals as goal

pub overflow_sub-rest : goal.overflow_sub-rest
overflow_sub-rest c = search (year_begun, rules)

pub month_of-month-requires : goal.month_of-month-requires
month_of-month-requires c = (search rules, search (rest_of_year, rules))

pub returns : goal.returns
returns c = search (date_found, rules)
