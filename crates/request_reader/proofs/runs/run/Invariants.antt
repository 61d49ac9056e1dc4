-- `runs::run` meets its contract: as long as the loop runs, what is kept now and the tokens from here on say what they said at first.
use Prim.Native.Nat.{◌-◌}
use Rattle.request_reader.proofs.RunLoops.{RunInv}
use Rattle.request_reader.proofs.runs.run.Given as goal

abbrev pub invariant-loop-k : goal.invariant-loop-k
invariant-loop-k g l =
    RunInv l.steps l.fn.from.tally.lines l.stop l.s l.fn.from.at (record { tally = l.fn.from.tally; powers = l.initial.powers }) l.k l.i l.at l.powers

abbrev pub decreases-loop-k : goal.decreases-loop-k
decreases-loop-k g l = l.stop - l.k
