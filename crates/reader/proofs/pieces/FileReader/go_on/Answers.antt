-- `FileReader::go_on` meets its contract: the line in hand grows, or it ends and the rest of the piece is walked.
use mathlib.Core.List.{List}
use Prim.Native.Nat.{ℕ}
use native.Mathlib.Omega.{arith}
use lib.ListN.{take}
use Rattle.lists.proofs.ByteSearch.{byte_inside}
use Rattle.reader.specs.InHand.{gone_on}
use Rattle.reader.proofs.Feeding.{header_long, line_grown, line_ended}
use Rattle.reader.proofs.pieces.FileReader.go_on.Goals as goal
use Rattle.reader.proofs.pieces.FileReader.go_on.Goals.{After-whole_line-whole}

-- the line in hand, up to the piece's first LF

abbrev gone : After-whole_line-whole → List ℕ
gone w = let a = w.args in gone_on (take a.self.held a.self.line) a.piece.now w.byte_from-end.result

pub whole_line-whole-requires : goal.whole_line-whole-requires
whole_line-whole-requires c =
    let p = c.args.piece.now in
    omega (arith, c.byte_from-end.ensures, byte_inside 10 p 0 (omega arith))

pub returns-then-piece-end : goal.returns-then-piece-end
returns-then-piece-end c =
    let a = c.args in
    line_grown a.self a.total a.piece.now c.whole_line-whole.result.text c.first_bytes.result c.byte_from-end.result
    c.whole_line-whole.result.length c.byte_from-end.ensures c.if-piece-end.true c.whole_line-whole.ensures.text_value
    c.whole_line-whole.ensures.length_value c.first_bytes.ensures

pub returns : goal.returns
returns c =
    let a = c.args in
    line_ended a.self (header_long a.self _ c.well_formed.0) _ _ c.min-n.ensures c.min.ensures a.total a.piece.now
    c.whole_line-whole.result.text
    c.byte_from-end.result c.whole_line-whole.result.length c.byte_from-end.ensures c.whole_line-whole.ensures.text_value _ _
    c.if-piece-end.false
    c.take_lines-run.ensures.powers_after c.walk.ensures
