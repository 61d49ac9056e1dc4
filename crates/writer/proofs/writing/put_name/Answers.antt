-- `writing::put_name` meets its contract: the pieces of a name, one after the other.
use Rattle.writer.proofs.Pieces.{room_before, room_start, room_category, room_after, name_placed}
use Rattle.writer.proofs.writing.put_name.Goals as goal

pub put_text-second-requires : goal.put_text-second-requires
put_text-second-requires c =
    let n = c.category_length-n in
    room_before c.args.key c.args.buffer.now c.requires _ n.ensures.0

pub put_start-third-requires : goal.put_start-third-requires
put_start-third-requires c =
    let n = c.category_length-n in
    room_start c.args.key c.args.buffer.now c.requires _ n.ensures.0 _ _ c.put_text-second.ensures

pub put_text-last-requires : goal.put_text-last-requires
put_text-last-requires c =
    let n = c.category_length-n in
    room_category c.args.key c.args.buffer.now c.requires _ n.ensures.0 _ _
    c.put_text-second.ensures _ _ c.put_start-third.ensures

pub put_text-requires : goal.put_text-requires
put_text-requires c =
    let n = c.category_length-n in
    room_after c.args.key c.args.buffer.now c.requires _ n.ensures.0 _ _
    c.put_text-second.ensures _ _
    c.put_start-third.ensures _ _
    c.put_text-last.ensures

pub returns : goal.returns
returns c =
    let n = c.category_length-n in
    name_placed c.args.key c.args.buffer.now c.requires _ n.ensures.0 _ _
    c.put_text-second.ensures
    _ _ c.put_start-third.ensures _ _
    c.put_text-last.ensures _ _ c.put_text.ensures
