-- A file is read in one piece.
use Rattle.reader.proofs.InPieces.{one_piece}
use Rattle.reader.proofs.reading.read_file.Goals as goal

pub returns : goal.returns
returns c =
    let args = c.args in
    one_piece args.name.now args.body.now c.begin.result c.feed.result c.end.result
    c.begin.ensures c.feed.ensures c.end.ensures
