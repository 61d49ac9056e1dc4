-- `turned` meets its contract: the head as it is, and what the answer says.
use mathlib.Core.Path.{ap}
use Rattle.answers.specs.declared.Said.{Said}
use Rattle.register.specs.declared.turning.Turn.{Turn}
use Rattle.register.proofs.turning.turned.Goals as goal

pub returns : goal.returns
returns c =
    let reply = c.args.reply in
    let turn : Said → Turn = λ s. record { head = reply.head; said = s } in
    ap turn c.of_answer.ensures
