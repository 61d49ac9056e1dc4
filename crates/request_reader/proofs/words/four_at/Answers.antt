-- `words::four_at` meets its contract: two numbers of four bytes each are the same where the bytes are.
use Rattle.request_reader.proofs.ByteNumbers.{four_same}
use Rattle.request_reader.proofs.words.four_at.Goals as goal

pub returns : goal.returns
returns c =
    let args = c.args in
    rw (c.four.ensures.value, c.four-2.ensures.value)
    (four_same args.s.now args.t.now c.four.ensures.by_index c.four-2.ensures.by_index args.p args.q c.requires.0 c.requires.1)
