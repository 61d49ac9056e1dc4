-- `writing::put_header` meets its contract: the pieces of a header and LF, one after the other.
use native.Mathlib.Omega.{arith}
use Rattle.writer.proofs.Pieces.{room_parts, room_last, room_LF, header_placed}
use Rattle.writer.proofs.writing.put_header.Goals as goal

pub put_start-second-requires : goal.put_start-second-requires
put_start-second-requires c =
    let n = c.category_length-n in
    room_parts c.args.key c.args.buffer.now c.requires _ n.ensures.0

pub put_ended-end-requires : goal.put_ended-end-requires
put_ended-end-requires c =
    let n = c.category_length-n in
    room_last c.args.key c.args.buffer.now c.requires _ n.ensures.0 _ _ c.put_start-second.ensures

pub bounds-buffer-end : goal.bounds-buffer-end
bounds-buffer-end c =
    let n = c.category_length-n in
    (room_LF c.args.key c.args.buffer.now c.requires _ n.ensures.0 _ _
    c.put_start-second.ensures _ _ c.put_ended-end.ensures).0

pub overflow_add-result : goal.overflow_add-result
overflow_add-result c =
    let n = c.category_length-n in
    let e = room_LF c.args.key c.args.buffer.now c.requires _ n.ensures.0 _ _ c.put_start-second.ensures _ _ c.put_ended-end.ensures in
    omega (arith, e.0, e.1, c.well_formed.0)

pub returns : goal.returns
returns c =
    let n = c.category_length-n in
    header_placed c.args.key c.args.buffer.now c.requires _ n.ensures.0 _ _
    c.put_start-second.ensures _ _ c.put_ended-end.ensures
