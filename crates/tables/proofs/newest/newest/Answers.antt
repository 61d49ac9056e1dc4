-- What is found below `end`, and below `i`, is what is found below the count, while four are passed at once and then one by one.
use mathlib.Core.Path.{◌≡◌, sym, ap, ◌∙◌}
use Prim.Native.Nat.{◌+◌, ◌-◌, min}
use native.Mathlib.Omega.{arith}
use Rattle.tables.specs.Passing.{last_below}
use Rattle.tables.proofs.Down.{last_none}
use Rattle.tables.proofs.Fours.{last_past_bits}
use Rattle.tables.proofs.LoadTable.{is_number, search_hit, search_skip}
use Rattle.tables.proofs.newest.newest.Goals as goal

pub loop-end-preserved : goal.loop-end-preserved
loop-end-preserved g c =
    let b = c.loop-end in
    let a = c.args in
    let f = c.passes_four.ensures c.loop-end-test.true in
    let h = f.0 in
    let e : b.end - 4 + 4 ≡ b.end = omega arith in
    (omega arith, sym (last_past_bits (is_number a.keys.now a.number) (b.end - 4) 4 f.1) ∙ (ap (last_below (is_number a.keys.now a.number)) e ∙ b.invariant.1))

pub returns-then-keys-i : goal.returns-then-keys-i
returns-then-keys-i g c =
    let b = c.loop-i in
    let a = c.args in
    search_hit a.keys.now a.number (min a.n g.row.N) b.i c.loop-i-test.true b.invariant.1 c.if-keys-i.true

pub loop-i-preserved : goal.loop-i-preserved
loop-i-preserved g c =
    let b = c.loop-i in
    let a = c.args in
    (omega arith, search_skip a.keys.now a.number (min a.n g.row.N) b.i c.loop-i-test.true b.invariant.1 c.if-keys-i.false)

pub returns : goal.returns
returns g c =
    let b = c.loop-i in
    let a = c.args in
    last_none (is_number a.keys.now a.number) b.i (omega arith) ∙ b.invariant.1
