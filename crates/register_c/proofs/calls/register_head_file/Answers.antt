use Rattle.register.proofs.Telling.{tells_done}
use Rattle.register_c.proofs.calls.register_head_file.Goals as goal

pub returns : goal.returns
returns c = tells_done c.turned.ensures c.file-reply.ensures
