-- `labels::hour_label` meets its contract: the calendar's label, with an h in its third place.
use Rattle.request.proofs.HourLabels.{hours_of}
use Rattle.request.proofs.labels.hour_label.Goals as goal

pub returns : goal.returns
returns c =
    hours_of c.args.steps c.args.at _ c.labelled.ensures _ c.labels_of-labels.ensures c.requires.0 c.requires.2 c.requires.1
