-- `tokens::stands` meets its contract: a text that is too short doesn't begin with it, else the part as long is compared.
use Rattle.reader.specs.Walking.{starts_with}
use Rattle.request_reader.proofs.Walks.{stands_past}
use Rattle.request_reader.proofs.tokens.stands.Goals as goal

pub returns-then-s-at : goal.returns-then-s-at
returns-then-s-at c = stands_past c.args.s.now c.args.text.now c.args.at c.requires.1 c.if-s-at.true

pub returns : goal.returns
unfolding starts_with
returns c = c.same_text.ensures
