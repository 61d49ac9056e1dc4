use mathlib.Core.Path.{ap, ◌∙◌}
use Rattle.answers.specs.Values.{said_number}
use Rattle.register_c.proofs.asking.register_head_history.Goals as goal

pub returns : goal.returns
returns c = λ statuses marks rows loads.
    let did = c.history-answer.ensures statuses marks rows loads in
    (c.of_number.ensures ∙ ap said_number did.0, did.1)
