-- After the turn, on a day without one, and before it.
use native.Mathlib.Omega.{arith}
use Rattle.reader.proofs.Marking.{plain_after, plain_all, plain_before}
use Rattle.reader.proofs.marks.run_end.Goals as goal

pub returns-then-t-k : goal.returns-then-t-k
returns-then-t-k c = λ h. plain_after c.args.steps c.args.k c.requires.0 c.requires.1 _ _ c.turn_of-t.ensures.0 c.half_hours-j.ensures.0 c.if-t-k.true c.if-j-t.false

pub returns-then-steps-eq-PLAIN_STEPS : goal.returns-then-steps-eq-PLAIN_STEPS
returns-then-steps-eq-PLAIN_STEPS c = λ h. plain_all c.args.steps c.args.k c.requires.0 c.requires.1 _ c.turn_of-t.ensures.0 c.if-t-k.false c.if-steps-eq-PLAIN_STEPS.true

pub returns-then-steps-t : goal.returns-then-steps-t
returns-then-steps-t c = λ h. plain_before c.args.steps c.args.k c.requires.0 c.requires.1 _ _ c.turn_of-t.ensures.0 (omega arith) c.if-steps-t.true (omega arith)

pub returns : goal.returns
returns c = λ h. plain_before c.args.steps c.args.k c.requires.0 c.requires.1 _ _ c.turn_of-t.ensures.0 (omega arith) (omega arith) (omega arith)
