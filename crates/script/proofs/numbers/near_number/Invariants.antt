-- The digits so far are a number.
use Rattle.script.proofs.Spelling.{Near}
use Rattle.script.proofs.numbers.near_number.Given as goal

abbrev pub invariant-loop-end : goal.invariant-loop-end
invariant-loop-end l = Near l.line l.from l.value l.end
