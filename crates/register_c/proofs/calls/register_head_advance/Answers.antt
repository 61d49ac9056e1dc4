use Rattle.register.proofs.Telling.{tells_done}
use Rattle.register_c.proofs.calls.register_head_advance.Goals as goal

pub returns : goal.returns
returns c = λ columns loads. tells_done c.turned.ensures (c.advance-reply.ensures columns loads)
