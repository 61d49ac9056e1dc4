use mathlib.Core.Path.{ap, ◌∙◌}
use Rattle.answers.specs.Values.{said_number}
use Rattle.register_c.proofs.asking.register_head_engagement.Goals as goal

pub returns : goal.returns
returns c = λ ids approved. c.of_number.ensures ∙ ap said_number (c.engagement-answer.ensures ids approved)
