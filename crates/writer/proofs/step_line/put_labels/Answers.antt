-- `step_line::put_labels` meets its contract: one label after the other.
use Rattle.writer.proofs.StepLines.{room_from, room_until, labels_placed}
use Rattle.writer.proofs.step_line.put_labels.Goals as goal

pub put_label-next-requires : goal.put_label-next-requires
put_label-next-requires c =
    let l = c.labels_of-labels in
    room_from c.args.steps c.args.step c.requires.0 c.requires.1 l.result l.ensures c.args.buffer.now c.args.at c.requires.2

pub put_label-requires : goal.put_label-requires
put_label-requires c =
    let l = c.labels_of-labels in
    room_until c.args.steps c.args.step c.requires.0 c.requires.1 l.result l.ensures c.args.buffer.now c.args.at c.requires.2 _ _
    c.put_label-next.ensures

pub returns : goal.returns
returns c =
    let l = c.labels_of-labels in
    labels_placed c.args.steps c.args.step c.requires.0 c.requires.1 l.result l.ensures c.args.buffer.now c.args.at c.requires.2 _
    _ c.put_label-next.ensures _ _ c.put_label.ensures
