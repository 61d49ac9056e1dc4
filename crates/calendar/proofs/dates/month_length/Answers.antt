-- `dates::month_length` meets its contract: the starts of two months differ by the length of the first.
use Rattle.calendar.proofs.Numbering.{month_length_lem, no_month}
use mathlib.Core.Path.{sym}
use Rattle.calendar.proofs.dates.month_length.Goals as goal

pub returns-then-month-gt-MONTHS : goal.returns-then-month-gt-MONTHS
returns-then-month-gt-MONTHS c = sym (no_month _ _ c.if-month-gt-MONTHS.true)

pub overflow_sub-result : goal.overflow_sub-result
overflow_sub-result c = (month_length_lem _ _ _ _ c.before_month.ensures c.before_month-2.ensures).0

pub returns : goal.returns
returns c = (month_length_lem _ _ _ _ c.before_month.ensures c.before_month-2.ensures).1
