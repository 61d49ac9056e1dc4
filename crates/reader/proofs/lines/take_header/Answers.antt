-- A header that was there, one that is not the name's, or the name's.
use mathlib.Core.Bool.{true}
use mathlib.Core.Path.{sym, ◌∙◌}
use lib.ListN.{drop}
use Rattle.reader.proofs.Heads.{header_passed, headed_long, first_said}
use Rattle.reader.proofs.lines.take_header.Goals as goal

pub returns : goal.returns
returns c =
    let i = c.is_headed in
    let a = c.args in
    let e = sym i.ensures ∙ c.if-not-is_headed.false in
    let p = header_passed a.header.now a.body.now a.from a.t
    (first_said a.header.now (drop a.from a.body.now) a.t.header true c.if-t-ne-NO_LINE.false e)
    (headed_long a.header.now a.body.now a.from c.requires e) in
    record { tally_value = p.0; body_value = p.1.0; at_in_bounds = p.1.1 }
