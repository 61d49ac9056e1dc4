-- Each turn takes from the bytes that are still asked for.
use Rattle.std.proofs.Common.{◌-◌}
use Rattle.register_script.proofs.bodies.read_to_end.Given as goal

abbrev pub decreases-loop-done : goal.decreases-loop-done
decreases-loop-done l = 4097 - l.done
