-- The digits so far are the value so far, and what is left of the text decides.
use native.Mathlib.Omega.{arith}
use Rattle.lists.proofs.Digits.{value_stands}
use Rattle.script.proofs.Numerals.{empty_none, long_none, needless_none, no_digit, sofar_other, sofar_more, sofar_all}
use Rattle.script.proofs.numbers.number_in.Goals as goal

pub returns-then-n-eq0 : goal.returns-then-n-eq0
returns-then-n-eq0 c = empty_none _ c.if-n-eq0.true

pub returns-then-n-gt5 : goal.returns-then-n-gt5
returns-then-n-gt5 c = long_none _ c.if-n-gt5.true

pub returns-then-n-s : goal.returns-then-n-s
returns-then-n-s c = needless_none c.args.s.now c.if-n-s.true

pub returns-then-digit-gt9 : goal.returns-then-digit-gt9
returns-then-digit-gt9 c = sofar_other _ _ _ (omega arith) c.loop-b.invariant (no_digit _ c.digit_value-digit.ensures c.if-digit-gt9.true)

pub loop-b-preserved : goal.loop-b-preserved
loop-b-preserved c = sofar_more _ _ _ (omega arith) c.loop-b.invariant c.if-digit-gt9.false (value_stands c.digit_value-digit.ensures c.if-digit-gt9.false)

pub returns : goal.returns
returns c = sofar_all c.args.s.now _ _ c.if-n-eq0.false c.if-n-gt5.false c.if-n-s.false (omega arith) c.loop-b.invariant
