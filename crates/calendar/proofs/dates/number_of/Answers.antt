-- `dates::number_of` meets its contract: the parts are those of the definition, and small.
use Rattle.calendar.proofs.Numbering.{valid_there, number_sum}
use borrow.Author.Rules.{rules}
use native.Mathlib.Omega.{arith}
use Rattle.calendar.proofs.dates.number_of.Goals as goal

pub before_year-requires : goal.before_year-requires
before_year-requires c = let h = valid_there _ c.requires in omega arith

pub leap_days-requires : goal.leap_days-requires
leap_days-requires c = (valid_there _ c.requires).year_known

pub before_month-requires : goal.before_month-requires
before_month-requires c = let h = valid_there _ c.requires in (search rules, omega arith)

pub overflow_add-result : goal.overflow_add-result
overflow_add-result c = let h = number_sum _ _ _ _ c.requires c.before_year.ensures c.leap_days.ensures.0 c.before_month.ensures in omega arith

pub overflow_sub-result : goal.overflow_sub-result
overflow_sub-result c = (number_sum _ _ _ _ c.requires c.before_year.ensures c.leap_days.ensures.0 c.before_month.ensures).0

pub overflow_add-result-2 : goal.overflow_add-result-2
overflow_add-result-2 c = let h = number_sum _ _ _ _ c.requires c.before_year.ensures c.leap_days.ensures.0 c.before_month.ensures in omega arith

pub returns : goal.returns
returns c = (number_sum _ _ _ _ c.requires c.before_year.ensures c.leap_days.ensures.0 c.before_month.ensures).1
