-- `Head::code_at` meets its contract: the code of the entry at the place, or zeros past the last.
use native.Mathlib.Omega.{arith}
use Rattle.register.proofs.Parties.{head_actors, head_entries}
use Rattle.register.proofs.ShownRecords.{code_here, code_past}
use Rattle.register.proofs.Head.code_at.Goals as goal

pub returns-then-place-len : goal.returns-then-place-len
returns-then-place-len c cols loads =
    code_here c.args.self cols loads c.args.place _ c.len.ensures (head_entries c.args.self _ c.well_formed.0) c.if-place-len.true

pub returns : goal.returns
returns c cols loads =
    code_past c.args.self cols loads c.args.place _ c.len.ensures (head_entries c.args.self _ c.well_formed.0) c.if-place-len.false

pub bounds-self-place : goal.bounds-self-place
bounds-self-place c = omega (arith, head_actors c.args.self _ c.well_formed.0, c.len.ensures, c.if-place-len.true)
