-- `change_days::change_day` meets its contract: the tables are the same.
use mathlib.Core.Path.{refl}
use Rattle.calendar.specs.Steps.{change_days}
use Rattle.calendar.proofs.change_days.change_day.Goals as goal

pub returns : goal.returns
unfolding change_days
returns c = refl
