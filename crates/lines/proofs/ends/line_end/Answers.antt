-- The search for LF ends where the line ends.
use Rattle.std.proofs.Common.{◌≡◌, length, sym, ◌∙◌, arith}
use Rattle.reader.proofs.Ends.{line_ends}
use Rattle.lists.proofs.ByteSearch.{byte_after, byte_inside}
use Rattle.lines.proofs.ends.line_end.Goals as goal

pub returns-then-end-s : goal.returns-then-end-s
returns-then-end-s c =
    (line_ends _ (omega (arith, byte_after 10 c.args.s.now c.args.from, c.far_byte_from-end.ensures)) c.far_byte_from-end.ensures, c.if-end-s.true)

pub returns-else-end-s : goal.returns-else-end-s
returns-else-end-s c = λ h.
    let e : c.far_byte_from-end.result ≡ length c.args.s.now = omega (arith, byte_inside 10 c.args.s.now c.args.from h, c.far_byte_from-end.ensures) in
    line_ends _ h (sym e ∙ c.far_byte_from-end.ensures)
