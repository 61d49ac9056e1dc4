-- `writing::name_length` meets its contract: all but the category has a fixed length.
use Rattle.writer.proofs.Pieces.{name_sum}
use Rattle.writer.proofs.writing.name_length.Goals as goal

pub returns : goal.returns
returns c = let n = c.category_length in (name_sum c.args.key n.result c.requires n.ensures.1).0
