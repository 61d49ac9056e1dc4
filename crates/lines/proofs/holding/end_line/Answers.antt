-- Where nothing is held, or no room is left, the input stays as it is; else LF is put behind what is held.
use Rattle.std.proofs.Common.{arith}
use Rattle.lines.proofs.Fronts.{none_held, none_left, some_last}
use Rattle.lines.proofs.holding.end_line.Goals as goal

pub returns-then-held-eq0 : goal.returns-then-held-eq0
returns-then-held-eq0 c = let n = none_held c.args.input.now c.args.held c.if-held-eq0.true in (n.0, n.1, omega arith)

pub returns-then-input-held : goal.returns-then-input-held
returns-then-input-held c = let n = none_left c.args.input.now c.args.held c.if-input-held.true in (n.0, n.1, omega arith)

pub returns : goal.returns
returns c =
    let a = c.args in
    let n = some_last a.input.now a.held (omega arith) c.if-input-held.false in (n.0, n.1, omega arith)
