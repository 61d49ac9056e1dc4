-- Each write that goes on takes something of what is left.
use Rattle.std.proofs.Common.{length}
use Rattle.register_script.proofs.output.write_all.Given as goal

abbrev pub decreases-loop-rest : goal.decreases-loop-rest
decreases-loop-rest l = length l.rest
