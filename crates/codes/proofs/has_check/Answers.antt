-- `codes::has_check` meets its contract: what is known of the characters passed is their sum as they are weighed.
use mathlib.Core.Path.{◌∙◌, ap}
use native.Mathlib.Omega.{arith}
use Rattle.codes.specs.Codes.{value_of}
use Rattle.codes.proofs.Weighing.{value_below, weighed_small, sum_small, check_is}
use Rattle.codes.proofs.has_check.Goals as goal

pub overflow_add-sum : goal.overflow_add-sum
overflow_add-sum c =
    let l = c.loop-i in
    let s = c.args.s.now in
    omega (arith, c.loop-i.auto.i-end, l.invariant, sum_small s l.i, weighed_small l.i c.value_of.result (rw c.value_of.ensures (value_below c.byte_at.result)))

pub returns : goal.returns
returns c =
    let l = c.loop-i in
    let s = c.args.s.now in
    check_is s l.i l.sum _ _ c.loop-i-test.false l.auto.i-end l.invariant c.check_value-value.ensures
    (c.value_of-2.ensures ∙ ap value_of c.byte_at-2.ensures)
