-- `members::put_value` meets its contract: one text after the other.
use Rattle.writer.proofs.Placed.{placed_join}
use Rattle.request_writer.proofs.members.put_value.Goals as goal

pub returns : goal.returns
returns c = placed_join c.put_text-next.ensures c.put_text.ensures
