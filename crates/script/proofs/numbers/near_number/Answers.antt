-- Digit after digit: the bytes so far are a number, and its field ends where a comma does.
use native.Mathlib.Omega.{arith}
use Rattle.lists.proofs.Digits.{value_stands}
use Rattle.script.proofs.Spelling.{spelt_one, near_one, near_more}
use Rattle.script.proofs.numbers.near_number.Goals as goal

pub ended_number-requires : goal.ended_number-requires
ended_number-requires c = spelt_one (omega arith) c.if-value-gt9.false (value_stands c.digit_value-value.ensures c.if-value-gt9.false)

pub loop-end-init : goal.loop-end-init
loop-end-init c =
    near_one (omega arith) c.if-value-gt9.false c.if-value-eq0.false (value_stands c.digit_value-value.ensures c.if-value-gt9.false)

pub loop-end-preserved : goal.loop-end-preserved
loop-end-preserved c =
    near_more c.loop-end.invariant (omega arith) (omega arith) c.if-digit-gt9.false
    (value_stands c.digit_value-digit.ensures c.if-digit-gt9.false)
