-- `forms::in_bytes` meets its contract: as long as the loop runs, the bytes passed are copied.
use mathlib.Core.Path.{◌∙◌}
use lib.ListN.{length-set}
use Rattle.notification.proofs.Stored.{copied_more}
use Rattle.notification.proofs.forms.in_bytes.Goals as goal

pub loop-i-preserved : goal.loop-i-preserved
loop-i-preserved g c =
    let l = c.loop-i in
    let n = l.invariant.0 in
    (length-set _ _ _ ∙ n, copied_more g.row.N l.b-items c.args.s.now l.i _ c.loop-i-test.true n c.byte_at.ensures l.invariant.1)
