-- `writing::put_start` meets its contract: ceder, acquirer and date, one after the other.
use Rattle.writer.proofs.Pieces.{start_placed}
use Rattle.writer.proofs.writing.put_start.Goals as goal

pub returns : goal.returns
returns c =
    let t = c.text_of in
    start_placed c.args.by c.args.key c.args.buffer.now c.args.at c.requires t.result t.ensures _ _
    c.put_ended-second.ensures _ _
    c.put_ended-third.ensures _ _ c.put_ended.ensures
