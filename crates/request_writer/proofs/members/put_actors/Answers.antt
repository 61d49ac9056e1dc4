-- `members::put_actors` meets its contract: the three codes, one after the other.
use Rattle.writer.proofs.Placed.{placed_join}
use Rattle.request_writer.proofs.members.put_actors.Goals as goal

pub returns : goal.returns
returns c =
    placed_join c.put_value-second.ensures (placed_join c.put_value-third.ensures c.put_value.ensures)
