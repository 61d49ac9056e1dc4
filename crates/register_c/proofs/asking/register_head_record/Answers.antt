use mathlib.Core.Path.{ap, ◌∙◌}
use Rattle.register_c.specs.Faces.{flat_shown}
use Rattle.register_c.proofs.asking.register_head_record.Goals as goal

pub returns : goal.returns
returns c = λ loads. c.into.ensures ∙ ap flat_shown (c.record-answer.ensures loads)
