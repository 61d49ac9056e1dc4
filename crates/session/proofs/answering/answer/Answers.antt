-- A call, a filing, or a line that only asks.
use mathlib.Core.Path.{ap, ◌∙◌}
use Rattle.register.specs.Told.{tells}
use Rattle.session.proofs.Spans.{calls_line, files_line, asks_line}
use Rattle.session.proofs.answering.answer.Goals as goal

pub returns-in-Calls : goal.returns-in-Calls
returns-in-Calls c = c.called.ensures ∙ calls_line _ _ _ _ c.in-Calls.is

pub returns-in-Files : goal.returns-in-Files
returns-in-Files c = c.filed.ensures ∙ files_line _ _ _ _ c.in-Files.is

pub returns-in_default : goal.returns-in_default
returns-in_default c = ap (tells _) (c.ask.ensures _) ∙ asks_line _ _ _ _ c.in_default.not-Calls c.in_default.not-Files
