-- `FileReader::feed` meets its contract: the bytes are only counted, or the piece begins where a line does, or a line is in hand.
use Rattle.reader.proofs.Feeding.{header_long, line_long, fed_not, fed_first, fed_next}
use Rattle.reader.proofs.pieces.FileReader.feed.Goals as goal

pub returns-then-self-total : goal.returns-then-self-total
returns-then-self-total c =
    fed_not c.args.self c.args.piece.now _ (header_long c.args.self _ c.well_formed.0) c.length_with-total.ensures c.if-self-total.true

pub returns-then-self-eq0 : goal.returns-then-self-eq0
returns-then-self-eq0 c =
    fed_first c.args.self c.args.piece.now _ (header_long c.args.self _ c.well_formed.0) c.length_with-total.ensures c.if-self-total.false _
    c.if-self-eq0.true c.walk.ensures

pub returns : goal.returns
returns c =
    fed_next c.args.self c.args.piece.now _ (header_long c.args.self _ c.well_formed.0) c.length_with-total.ensures c.if-self-total.false _
    (line_long c.args.self _ c.well_formed.0) c.if-self-eq0.false c.go_on.ensures
