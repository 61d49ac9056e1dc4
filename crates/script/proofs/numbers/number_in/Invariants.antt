-- The digits so far are the value so far, and what is left of the text decides.
use Rattle.script.proofs.Numerals.{Sofar}
use Rattle.script.proofs.numbers.number_in.Given as goal

abbrev pub invariant-loop-b : goal.invariant-loop-b
invariant-loop-b l = Sofar l.s l.b-index l.v
