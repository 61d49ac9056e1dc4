-- `clock::Clock::counts` meets its contract: its tests are the definition's.
use mathlib.Core.Path.{ap}
use mathlib.Core.Bool.{◌&&◌}
use lib.Dec.{leb}
use Rattle.calendar.specs.Clocks.{counts}
use Rattle.calendar.proofs.clock.Clock.counts.Goals as goal

pub returns : goal.returns
unfolding counts
returns c =
    let a = c.args in
    ap (λ n. leb a.self.day a.day && leb n a.step) c.first_counted-first.ensures
