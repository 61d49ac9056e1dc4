-- `placing::put_text` meets its contract.
use Rattle.writer.proofs.Placed.{placed_copy}
use Rattle.writer.proofs.placing.put_text.Goals as goal

pub returns : goal.returns
returns c = placed_copy _ _ _ _ c.requires c.copy_from_slice.ensures.after
