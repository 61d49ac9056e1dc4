-- `placing::put_ended` meets its contract.
use borrow.Author.Rules.{rules}
use Rattle.writer.proofs.Placed.{placed_end}
use Rattle.writer.proofs.placing.put_ended.Goals as goal

pub returns : goal.returns
returns c = search (placed_end, rules)
