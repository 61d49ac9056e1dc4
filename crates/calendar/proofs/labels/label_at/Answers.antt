-- `labels::label_at` meets its contract: its test and its digits are the definition's.
use borrow.Author.Rules.{rules}
use Rattle.calendar.proofs.AnyDay.{label_again, label_once}
use Rattle.calendar.proofs.labels.label_at.Goals as goal

pub returns-then-t-at : goal.returns-then-t-at
returns-then-t-at c = search (label_again, rules)

pub returns-else-t-at : goal.returns-else-t-at
returns-else-t-at c = search (label_once, rules)
