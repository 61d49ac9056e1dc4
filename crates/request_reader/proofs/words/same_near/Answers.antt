-- `words::same_near` meets its contract: three numbers of eight bytes cover 16 to 24 bytes.
use Rattle.request_reader.proofs.ByteNumbers.{three_parts}
use Rattle.request_reader.proofs.words.same_near.Goals as goal

pub returns : goal.returns
returns c =
    let s = c.args.s.now in
    let pre = c.requires in
    three_parts s s c.args.p c.args.q c.args.n pre.0 pre.1 pre.2 pre.3 _ _ _
    c.eight_at.ensures c.eight_at-2.ensures c.eight_at-3.ensures
