-- The numbers that are put, and those that the fields from here on are, are all that are wanted.
use mathlib.Core.Path.{◌≡◌}
use native.Mathlib.Omega.{arith}
use Rattle.script.proofs.Powers.{taking_more, taken_past, taken_full}
use Rattle.script.proofs.parts.powers_of.Goals as goal

pub returns-then-line-at : goal.returns-then-line-at
returns-then-line-at c = taken_past _ _ c.min-most.ensures c.loop-count.invariant c.if-line-at.true

pub loop-count-preserved : goal.loop-count-preserved
loop-count-preserved c = rw c.unwrap_or.ensures (taking_more c.loop-count.invariant (omega arith) c.numeral_from-numeral.ensures)

pub returns : goal.returns
returns c =
    let all : c.min-most.result ≡ c.loop-count.count = omega arith in
    rw all (taken_full _ _ c.min-most.ensures c.loop-count.invariant c.loop-count-test.false)
