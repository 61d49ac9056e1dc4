-- `step::digits_power` meets its contract: the power that the bytes of the run and the `;` after them give.
use mathlib.Core.Path.{◌∙◌}
use Rattle.request_reader.specs.Steps.{power_of}
use Rattle.request_reader.proofs.step.digits_power.Goals as goal

pub returns : goal.returns
unfolding power_of
returns c = c.power_of.ensures ∙ rw (c.digit_or_end.ensures, c.digit_or_end-2.ensures, c.digit_or_end-3.ensures, c.digit_or_end-4.ensures, c.digit_or_end-5.ensures)
