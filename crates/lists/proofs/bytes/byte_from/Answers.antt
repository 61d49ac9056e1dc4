-- As long as the loop runs, the byte that is looked for from the place on is the one looked for at first.
use mathlib.Core.Path.{◌∙◌}
use Rattle.lists.proofs.ByteSearch.{byte_here, byte_past, byte_nowhere}
use Rattle.lists.proofs.bytes.byte_from.Goals as goal

pub returns-then-s-i : goal.returns-then-s-i
returns-then-s-i c =
    let a = c.args in
    let l = c.loop-i in
    byte_here a.b a.s.now l.i c.loop-i-test.true c.if-s-i.true ∙ l.invariant

pub loop-i-preserved : goal.loop-i-preserved
loop-i-preserved c =
    let a = c.args in
    let l = c.loop-i in
    byte_past a.b a.s.now l.i c.loop-i-test.true c.if-s-i.false ∙ l.invariant

pub returns : goal.returns
returns c =
    let a = c.args in
    let l = c.loop-i in
    byte_nowhere a.b a.s.now l.i c.loop-i-test.false ∙ l.invariant
