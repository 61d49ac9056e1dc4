-- `steps::put_steps` meets its contract: so far as it has come, the steps are put.
use lib.ListN.{take}
use Rattle.writer.specs.Placing.{Placed, step_texts}
use Rattle.request_writer.specs.Pieces.{marked_step}
use Rattle.request_writer.proofs.steps.put_steps.Given as goal

abbrev pub invariant-loop-k : goal.invariant-loop-k
invariant-loop-k l = Placed l.initial.buffer l.at (step_texts (marked_step l.steps) 0 (take l.k l.powers)) l.buffer l.next
