-- As the library's test of a beginning says.
use Rattle.reader.proofs.Heads.{headed_is}
use Rattle.reader.proofs.header.is_headed.Goals as goal

pub returns : goal.returns
returns c = headed_is c.args.header.now c.args.body.now c.args.from c.starts_with.ensures.value
