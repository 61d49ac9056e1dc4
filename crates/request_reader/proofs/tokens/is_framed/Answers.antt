-- `tokens::is_framed` meets its contract: there is room, and a quote stands at both ends.
use Rattle.request_reader.proofs.Values.{framed_short, framed_rest}
use Rattle.request_reader.proofs.tokens.is_framed.Goals as goal

pub returns-then-s-from : goal.returns-then-s-from
returns-then-s-from c = framed_short c.args.s.now c.args.from c.args.n c.if-s-from.true

pub returns : goal.returns
returns c = framed_rest c.args.s.now c.args.from c.args.n c.requires.0 c.if-s-from.false
