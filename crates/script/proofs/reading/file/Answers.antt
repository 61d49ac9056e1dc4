-- Each way through the fields.
use mathlib.Core.Path.{sym, ◌∙◌}
use native.Mathlib.Omega.{arith}
use Rattle.script.proofs.FileLines.{file_short, file_cut, file_whole}
use Rattle.script.proofs.reading.file.Goals as goal

pub returns-in_err-submitter : goal.returns-in_err-submitter
returns-in_err-submitter c = rw c.from_residual.ensures (file_short _ _ c.in_err-submitter.ensures (omega arith))

pub returns-then-has_byte : goal.returns-then-has_byte
returns-then-has_byte c =
    let a = c.in_ok-submitter.ensures in
    file_cut _ _ a.0 a.1 (sym c.has_byte.ensures ∙ c.if-has_byte.true)

pub returns : goal.returns
returns c =
    let a = c.in_ok-submitter.ensures in
    file_whole _ _ a.0 a.1 (sym c.has_byte.ensures ∙ c.if-has_byte.false)
