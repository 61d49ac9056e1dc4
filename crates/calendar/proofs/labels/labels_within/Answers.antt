-- `labels::labels_within` meets its contract: the labels are those of the step's two ends.
use Rattle.calendar.specs.Labels.{labels_of}
use Rattle.calendar.proofs.labels.labels_within.Goals as goal

pub returns : goal.returns
unfolding labels_of
returns c = rw (c.label_at-from.ensures, c.label_at-until.ensures)
