-- `runs::plain_front` meets its contract: its six words are a step's text up to its power.
use mathlib.Core.Bool.{not}
use mathlib.Core.Path.{ap}
use Rattle.request_reader.proofs.PlainFronts.{plain_flags}
use Rattle.request_reader.proofs.runs.plain_front.Goals as goal

pub returns : goal.returns
returns c =
    let a = c.args in
    let p = c.requires in
    let w = c.in_ok-v.ensures in
    plain_flags a.s.now a.lead.now a.t.now a.at a.i _ _ _ _ _ _ _ _ p.1 p.2 p.3 p.4 w
    c.eight_at.ensures c.eight_at-2.ensures c.eight_at-3.ensures
    c.eight_at-4.ensures c.eight_at-5.ensures c.eight_at-6.ensures
    (ap not c.if-not-eight_at.false)
