-- `clock::Clock::loadable` meets its contract: its tests are the definition's.
use mathlib.Core.Path.{ap}
use mathlib.Core.Bool.{◌&&◌}
use lib.Dec.{ltb, eqb}
use Rattle.calendar.specs.Clocks.{loadable}
use Rattle.calendar.proofs.clock.Clock.loadable.Goals as goal

pub returns : goal.returns
unfolding loadable
returns c =
    let a = c.args in
    ap (λ n. ltb a.self.day a.day && eqb n 0) c.first_counted-first.ensures
