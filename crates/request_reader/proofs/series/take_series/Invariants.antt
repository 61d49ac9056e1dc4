-- Before each step, what is kept and the tokens from there on say what the whole series says.
use lib.ListN.{length, drop}
use Rattle.reader.specs.Folding.{no_steps}
use Rattle.request.specs.Tokens.{tokens}
use Rattle.request_reader.proofs.SeriesReads.{StepDue}
use Rattle.request_reader.proofs.series.take_series.Given as goal

abbrev pub invariant-loop-step : goal.invariant-loop-step
invariant-loop-step l =
    StepDue l.steps l.s l.first (record { tally = no_steps; powers = l.initial.powers }) l.lead l.at (record { tally = l.tally; powers = l.powers })

abbrev pub decreases-loop-step : goal.decreases-loop-step
decreases-loop-step l = length (tokens (drop l.at l.s))
