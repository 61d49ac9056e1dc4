-- The digits put so far are the last ones, and those before them are the digits of what is left.
use native.Mathlib.Omega.{arith}
use Rattle.script.proofs.Decimals.{spelt_more}
use Rattle.script.proofs.digits.put_number.Goals as goal

pub loop-place-preserved : goal.loop-place-preserved
loop-place-preserved c = (omega arith, spelt_more (omega arith) c.loop-place.invariant.1)
