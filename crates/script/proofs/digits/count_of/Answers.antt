-- Up to four digits are told by comparing. Of more, the digits counted and those of what is left are as many as all of them and one.
use mathlib.Core.Path.{sym}
use native.Mathlib.Omega.{arith}
use Rattle.script.proofs.Decimals.{length_more, length_one, length_two, length_three, length_four, length_later, decimal_most, decimal_some}
use Rattle.script.proofs.digits.count_of.Goals as goal

pub returns-then-n-lt10 : goal.returns-then-n-lt10
returns-then-n-lt10 c = sym (length_one _ c.if-n-lt10.true)

pub returns-then-n-lt100 : goal.returns-then-n-lt100
returns-then-n-lt100 c = sym (length_two _ c.if-n-lt10.false c.if-n-lt100.true)

pub returns-then-n-lt1000 : goal.returns-then-n-lt1000
returns-then-n-lt1000 c = sym (length_three _ c.if-n-lt100.false c.if-n-lt1000.true)

pub returns-then-n-lt10000 : goal.returns-then-n-lt10000
returns-then-n-lt10000 c = sym (length_four _ c.if-n-lt1000.false c.if-n-lt10000.true)

pub loop-rest-init : goal.loop-rest-init
loop-rest-init c = (omega (arith, length_later c.args.n c.if-n-lt10000.false (omega arith)), omega arith, omega arith)

pub overflow_add-count : goal.overflow_add-count
overflow_add-count c = omega (arith, decimal_most c.args.n c.loop-rest.invariant.2, decimal_some c.loop-rest.rest, c.loop-rest.invariant.0)

pub loop-rest-preserved : goal.loop-rest-preserved
loop-rest-preserved c = (omega (arith, length_more c.loop-rest.rest c.loop-rest-test.true c.loop-rest.invariant.1, c.loop-rest.invariant.0), omega arith, c.loop-rest.invariant.2)

pub returns : goal.returns
returns c = omega (arith, length_one c.loop-rest.rest c.loop-rest-test.false, c.loop-rest.invariant.0)
