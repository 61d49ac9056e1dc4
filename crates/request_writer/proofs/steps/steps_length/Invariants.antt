-- `steps::steps_length` meets its contract: the sum so far is the length of the steps passed.
use mathlib.Core.Path.{◌≡◌}
use lib.ListN.{length, take}
use Rattle.writer.specs.Placing.{step_texts}
use Rattle.request_writer.specs.Pieces.{marked_step}
use Rattle.request_writer.proofs.steps.steps_length.Given as goal

abbrev pub invariant-loop-k : goal.invariant-loop-k
invariant-loop-k l = l.sum ≡ length (step_texts (marked_step l.steps) 0 (take l.k l.powers))
