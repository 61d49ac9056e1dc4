-- `clock::Clock::replaces_whole` meets its contract: its tests are the definition's.
use mathlib.Core.Path.{ap}
use mathlib.Core.Bool.{◌||◌}
use lib.Dec.{eqb}
use Rattle.calendar.specs.Clocks.{replaces_whole}
use Rattle.calendar.proofs.clock.Clock.replaces_whole.Goals as goal

pub returns : goal.returns
unfolding replaces_whole
returns c = ap (λ n. eqb c.args.from n || eqb n 0) c.first_counted-first.ensures
