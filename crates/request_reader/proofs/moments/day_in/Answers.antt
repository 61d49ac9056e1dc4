-- `moments::day_in` meets its contract: the four pairs are the date's.
use Rattle.request_reader.proofs.MomentReads.{day_read_lem}
use Rattle.request_reader.proofs.moments.day_in.Goals as goal

pub returns : goal.returns
returns c = cc (day_read_lem c.args.s.now c.requires)
