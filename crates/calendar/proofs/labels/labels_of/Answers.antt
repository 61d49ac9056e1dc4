-- `labels::labels_of` meets its contract: its test is the definition's, and a step that passes it is of the day.
use borrow.Author.Rules.{rules}
use Rattle.calendar.proofs.AnyDay.{labels_outside, labels_inside}
use Rattle.calendar.proofs.labels.labels_of.Goals as goal

pub returns-then-steps-step : goal.returns-then-steps-step
returns-then-steps-step c = search (labels_inside, rules)

pub returns : goal.returns
returns c = search (labels_outside, rules)
