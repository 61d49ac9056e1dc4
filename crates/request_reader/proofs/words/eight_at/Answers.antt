-- `words::eight_at` meets its contract: two numbers of eight bytes each are the same where the bytes are.
use Rattle.request_reader.proofs.ByteNumbers.{eight_same}
use Rattle.request_reader.proofs.words.eight_at.Goals as goal

pub returns : goal.returns
returns c =
    let args = c.args in
    rw (c.eight.ensures.value, c.eight-2.ensures.value)
    (eight_same args.s.now args.t.now c.eight.ensures.by_index c.eight-2.ensures.by_index args.p args.q c.requires.0 c.requires.1)
