-- `clock::Clock::is_moment` meets its contract.
use native.Mathlib.Omega.{arith}
use Rattle.calendar.proofs.StepCounts.{steps_small}
use Rattle.calendar.proofs.clock.Clock.is_moment.Goals as goal

pub overflow_mul-result : goal.overflow_mul-result
overflow_mul-result c = omega (arith, c.steps_of-steps.ensures, steps_small c.args.self.day)
