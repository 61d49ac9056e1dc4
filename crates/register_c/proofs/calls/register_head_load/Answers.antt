use Rattle.register.proofs.Telling.{tells_done}
use Rattle.register_c.proofs.calls.register_head_load.Goals as goal

pub returns : goal.returns
returns c = λ columns. tells_done c.turned.ensures (c.load-reply.ensures columns)
