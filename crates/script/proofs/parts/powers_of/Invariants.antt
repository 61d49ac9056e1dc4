-- The numbers that are put, and those that the fields from here on are, are all that are wanted.
use Rattle.script.proofs.Powers.{Taking}
use Rattle.script.proofs.parts.powers_of.Given as goal

abbrev pub invariant-loop-count : goal.invariant-loop-count
invariant-loop-count l = Taking l.line l.initial.at l.most l.at l.count l.numbers
