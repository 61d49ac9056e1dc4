-- The line is put where there is room for the longest one.
use native.Mathlib.Omega.{arith}
use Rattle.script.proofs.AnswerLines.{answer_put_lem, answer_none}
use Rattle.script.proofs.writing.write_answer.Goals as goal

pub returns-then-out-lt-LINE_ROOM : goal.returns-then-out-lt-LINE_ROOM
returns-then-out-lt-LINE_ROOM c =
    let a = c.args in
    let n = answer_none a.out.now a.at a.number a.said (omega arith) in (n.0, n.1, omega arith)

pub returns-then-out-at : goal.returns-then-out-at
returns-then-out-at c =
    let a = c.args in
    let n = answer_none a.out.now a.at a.number a.said (omega arith) in (n.0, n.1, omega arith)

pub returns : goal.returns
returns c =
    let p = c.put_answer.ensures in
    let a = c.args in
    let n = answer_put_lem a.out.now a.at a.number a.said _ _ (omega arith) p.0 in (n.0, n.1, p.1)
